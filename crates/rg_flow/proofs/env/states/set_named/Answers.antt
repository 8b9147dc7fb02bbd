use Rattle.std.proofs.Common.{sym, ◌∙◌, arith}
use Rattle.rg_flow.specs.States.{readiness_of}
use Rattle.rg_flow.proofs.FlowSteps.{named-yes, named-no, named-all}
use Rattle.rg_flow.proofs.env.states.set_named.Goals.{then-eq, else-eq}
use Rattle.rg_flow.proofs.env.states.set_named.Goals as goal

pub loop-k-preserved : goal.loop-k-preserved
loop-k-preserved c = elim c.if-eq.branch [
  | then-eq w ↦ rw w.flow-is
      (named-yes c.args.flow.now c.loop-k.flow c.args.name c.args.vars.now (readiness_of c.args.now) c.loop-k.k c.loop-k-test.true
      w.set.new.flow (sym c.eq.ensures ∙ w.if-eq.true) c.loop-k.invariant w.set.ensures)
  | else-eq w ↦ rw w.flow-is
      (named-no c.args.flow.now c.loop-k.flow c.args.name c.args.vars.now (readiness_of c.args.now) c.loop-k.k c.loop-k-test.true
      (sym c.eq.ensures ∙ w.if-eq.false) c.loop-k.invariant)
]

pub returns : goal.returns
returns c = named-all c.args.flow.now c.loop-k.flow c.args.name c.args.vars.now (readiness_of c.args.now) c.loop-k.k (omega arith) c.loop-k.invariant
