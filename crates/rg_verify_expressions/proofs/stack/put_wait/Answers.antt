use Rattle.rg_verify_expressions.proofs.Put.{put-waiting}
use Rattle.rg_verify_expressions.proofs.stack.put_wait.Goals as goal

pub returns-clause-makes : goal.returns-clause-makes
returns-clause-makes c items p =
    put-waiting c.args.program.now c.take_row.new.program c.args.body.in_method c.take_row.new.stack.items c.push.new.stack.items
    c.in_ok-left.left c.args.junction c.args.to c.push.result items (c.in_ok-left.ensures.takes items p) c.push.ensures
