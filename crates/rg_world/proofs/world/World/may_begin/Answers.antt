use Rattle.std.proofs.Common.{◌∙◌}
use Rattle.rg_world.proofs.First.{there-is}
use Rattle.rg_world.proofs.Fronts.{front-there, ended-next, waits-next, ended-end, front-as}
use Rattle.rg_world.proofs.world.World.may_begin.Goals as goal

pub has_ended-requires : goal.has_ended-requires
has_ended-requires c =
    let b = there-is c.args.plan.now.behaviours c.args.i c.requires.number in
    front-there c.args.plan.now.behaviours c.args.i b.0 c.in_front-front.result.now c.args.self.now.progress c.loop-k.k-index
    (c.in_front-front.ensures b.0 b.1) c.requires.number c.requires.many c.loop-k-test.true

pub returns-then-not-has_ended : goal.returns-then-not-has_ended
returns-then-not-has_ended c = λ b there.
    waits-next c.args.self.now.progress c.in_front-front.result.now c.loop-k.k-index c.loop-k-test.true c.if-not-has_ended.ensures c.loop-k.invariant
    ∙ front-as c.args.self.now.progress _ _ (c.in_front-front.ensures b there)

pub loop-k-preserved : goal.loop-k-preserved
loop-k-preserved c =
    ended-next c.args.self.now.progress c.in_front-front.result.now c.loop-k.k-index c.loop-k-test.true c.if-not-has_ended.ensures c.loop-k.invariant

pub returns : goal.returns
returns c = λ b there.
    ended-end c.args.self.now.progress c.in_front-front.result.now c.loop-k.k-index c.loop-k-test.false c.loop-k.invariant
    ∙ front-as c.args.self.now.progress _ _ (c.in_front-front.ensures b there)
