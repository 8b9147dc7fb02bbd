use Rattle.rg_build.proofs.Walking.{method-is}
use Rattle.rg_build.proofs.bodies.put_method.Goals as goal

pub returns : goal.returns
returns c =
    let t = c.args.book.now.program in
    method-is t c.args.class c.args.method c.new-slots.result c.push.new.self c.push_params.new.slots c.order.result.now c.ends_marked-marked.result
    c.args.laying.now c.put_block.new.laying c.new-slots.ensures c.in_ok-push.ensures c.order.ensures c.in_ok-push_params.ensures.scope
    (c.ends_marked-marked.ensures t) c.in_ok-put_block.ensures.maps
