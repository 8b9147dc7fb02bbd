use Rattle.std.proofs.Common.{◌≡◌, subst, arith}
use Rattle.rg_flow.proofs.FlowSteps.{IsGoneTo, gone-more, gone-none}
use Rattle.rg_flow.proofs.env.states.forget.Goals as goal

pub loop-k-init : goal.loop-k-init
loop-k-init c = gone-none c.args.flow.now c.args.from c.args.from (omega arith)

pub loop-k-preserved : goal.loop-k-preserved
loop-k-preserved c = gone-more c.args.flow.now c.loop-k.flow c.set.new.flow c.args.from c.loop-k.k (omega arith) c.loop-k.invariant c.set.ensures

pub returns : goal.returns
returns c = let e : c.loop-k.k ≡ c.args.to = omega arith in subst (IsGoneTo c.loop-k.flow c.args.flow.now c.args.from) e c.loop-k.invariant
