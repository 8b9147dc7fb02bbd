use Rattle.rg_queues.proofs.Steps.{found-some, found-end}
use Rattle.rg_queues.proofs.last.last_of.Goals as goal

pub loop-n-preserved : goal.loop-n-preserved
loop-n-preserved c =
    found-some c.args.last.now c.args.cowns.now c.loop-n.n-index c.in-Some.k c.loop-n.found.items c.push.new.self.items c.loop-n-test.true
    c.in-Some.is c.in-Ok.ensures.items c.loop-n.invariant

pub returns : goal.returns
returns c = found-end c.args.last.now c.args.cowns.now c.loop-n.n-index c.loop-n.found.items c.loop-n-test.false c.loop-n.invariant
