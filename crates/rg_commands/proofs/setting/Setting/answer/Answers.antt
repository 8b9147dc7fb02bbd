use Rattle.std.proofs.Common.{refl, sym, subst}
use Rattle.rg_run.specs.Machine.{IsFresh}
use Rattle.rg_commands.proofs.Settled.{no_lie}
use Rattle.rg_commands.proofs.setting.Setting.answer.Goals as goal

pub returns-in-OfProgram-clause-settles : goal.returns-in-OfProgram-clause-settles
returns-in-OfProgram-clause-settles g c = rw c.in-OfProgram.is c.answer_request.ensures.settles

pub returns-in-OfModule-clause-settles : goal.returns-in-OfModule-clause-settles
returns-in-OfModule-clause-settles g c = rw c.in-OfModule.is c.answer_module.ensures.settles

pub returns-in-OfProgram-clause-yeses : goal.returns-in-OfProgram-clause-yeses
returns-in-OfProgram-clause-yeses g c = λ off. c.answer_request.ensures.yeses

pub returns-in-OfModule-clause-yeses : goal.returns-in-OfModule-clause-yeses
returns-in-OfModule-clause-yeses g c = λ off. c.answer_module.ensures.yeses

pub returns-in-OfModule-clause-tuned : goal.returns-in-OfModule-clause-tuned
returns-in-OfModule-clause-tuned g c = rw c.in-OfModule.is (λ on. c.answer_module.ensures.tuned)

pub returns-in-OfModule-clause-slides : goal.returns-in-OfModule-clause-slides
returns-in-OfModule-clause-slides g c = rw c.in-OfModule.is (λ begun. c.answer_module.ensures.kept.1)

pub returns-in-OfPlan-clause-settles : goal.returns-in-OfPlan-clause-settles
returns-in-OfPlan-clause-settles g c = rw c.in-OfPlan.is c.answer_plan.ensures.settles

pub returns-in-OfPlan-clause-yeses : goal.returns-in-OfPlan-clause-yeses
returns-in-OfPlan-clause-yeses g c = rw c.in-OfPlan.is (λ off. absurd (no_lie off))

pub returns-in-OfPlan-clause-slides : goal.returns-in-OfPlan-clause-slides
returns-in-OfPlan-clause-slides g c =
    rw c.in-OfPlan.is (λ begun. absurd (begun (subst IsFresh (sym c.answer_plan.ensures.machine) c.requires.unused.fresh)))

pub returns-in-OfProgram-clause-untuned : goal.returns-in-OfProgram-clause-untuned
returns-in-OfProgram-clause-untuned g c = rw c.in-OfProgram.is c.answer_request.ensures.untuned

pub returns-in-OfModule-clause-untuned : goal.returns-in-OfModule-clause-untuned
returns-in-OfModule-clause-untuned g c = rw c.in-OfModule.is (λ off. absurd (no_lie off))

pub returns-in-OfPlan-clause-untuned : goal.returns-in-OfPlan-clause-untuned
returns-in-OfPlan-clause-untuned g c = λ off. c.answer_plan.ensures.tuned

pub returns-in-OfProgram-clause-opened : goal.returns-in-OfProgram-clause-opened
returns-in-OfProgram-clause-opened g c = rw c.in-OfProgram.is c.answer_request.ensures.opened

pub returns-in-OfModule-clause-opened : goal.returns-in-OfModule-clause-opened
returns-in-OfModule-clause-opened g c = rw c.in-OfModule.is (_, refl, c.answer_module.ensures.begun)

pub returns-in-OfPlan-clause-opened : goal.returns-in-OfPlan-clause-opened
returns-in-OfPlan-clause-opened g c = rw c.in-OfPlan.is c.answer_plan.ensures.opened
