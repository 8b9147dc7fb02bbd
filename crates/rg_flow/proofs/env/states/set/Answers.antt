use Rattle.rg_flow.proofs.FlowSteps.{Sets-again, ready-passes}
use Rattle.rg_flow.proofs.env.states.set.Goals as goal

pub unreachable-requires : goal.unreachable-requires
unreachable-requires c =
    c.in_default.not-Ok tt (ready-passes c.args.flow.now c.unlend.new.self c.args.v c.take.result c.unlend.ensures c.take.ensures.answer)

pub unreachable-requires-in_default-lend : goal.unreachable-requires-in_default-lend
unreachable-requires-in_default-lend c =
    c.in_default-lend.not-Ok tt (ready-passes c.args.flow.now c.unlend.new.self c.args.v c.lend.result c.unlend.ensures c.lend.ensures.answer)

pub returns-in-Ready : goal.returns-in-Ready
returns-in-Ready c = rw c.in-Ready.is c.unlend.ensures

pub returns-in-Ok : goal.returns-in-Ok
returns-in-Ok c =
    rw c.in-Gone.is (Sets-again c.args.flow.now c.unlend.new.self c.take.new.self c.args.v _ _ c.unlend.ensures c.in-Ok.ensures.gone)

pub returns-in-Ok-lend : goal.returns-in-Ok-lend
returns-in-Ok-lend c =
    rw c.in-Lent.is (Sets-again c.args.flow.now c.unlend.new.self c.lend.new.self c.args.v _ _ c.unlend.ensures c.in-Ok-lend.ensures.lent)
