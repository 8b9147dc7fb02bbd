use Rattle.rg_world.proofs.Asking.{step-asks}
use Rattle.rg_world.proofs.Stepped.{step-tells, still-empty}
use Rattle.rg_world.proofs.empty_input.EmptyInput.step.Goals as goal

pub invariant_of-self : goal.invariant_of-self
invariant_of-self g c =
    let r = c.requires in
    still-empty r.0 c.args.code.now r.1 _ _ c.step.result _ _ r.2 c.self.invariant c.step.ensures.step
    (λ u p on quiet. (c.step.ensures.reads_nothing u p on quiet).0)

pub returns-clause-tells : goal.returns-clause-tells
returns-clause-tells g c = λ t r class runs first.
    step-tells t c.args.code.now r class _ _ c.step.result _ _ c.first_lasts.ensures runs first c.self.invariant c.step.ensures.step
    (λ u p on quiet. (c.step.ensures.reads_nothing u p on quiet).0) c.step.ensures.fault

pub returns-clause-asks : goal.returns-clause-asks
returns-clause-asks g c = λ t r runs found.
    step-asks t c.args.code.now r _ _ c.step.result _ _ runs c.self.invariant c.step.ensures.step c.step.ensures.fault found
