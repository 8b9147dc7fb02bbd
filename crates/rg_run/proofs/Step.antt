-- What a step did, of some bytes of the input.
use Rattle.std.proofs.Common.{◌≡◌, List, ◌++◌, Option, ℕ}
use Rattle.rg_base.specs.declared.event.Event.{Event}
use Rattle.rg_base.specs.declared.outcome.Outcome.{Outcome}
use Rattle.rg_input.specs.Numbers.{Pending, Follows, OnInput}
use Rattle.rg_input.proofs.Input.{OnInput-some}
use Rattle.rg_code.specs.Code.{Code}
use Rattle.rg_code.specs.Dues.{due_at}
use Rattle.rg_step.specs.Asking.{YesesTold}
use Rattle.rg_step.specs.States.{OneStep, Standing}
use Rattle.rg_run.specs.Inner.{Adds}
use Rattle.rg_run.proofs.Report.{step-adds}

module _ {code : Code} {old new : Standing} {result : Outcome} {a b : Pending} {la lb : Option (List ℕ)} (follows : Follows b lb)
    (step : OnInput a b la lb (OneStep code old new result)) where
  some : (before : List ℕ) × (after : List ℕ) × OneStep code old new result before after
  some = OnInput-some a b la lb (OneStep code old new result) follows step

  pub added : Adds new.stepper.steps old.stepper.events new.stepper.events result
  added =
      step-adds (due_at code.ops old.stepper.parts.at) old.stepper some.2.serves.mid new.stepper old.pacers new.pacers result some.2.serves.does

  pub slides : new.stepper.slides ≡ old.stepper.slides
  slides = some.2.slides

  pub yeses : (behind : List Event) × (new.stepper.events ≡ old.stepper.events ++ behind) × YesesTold behind old.pacers new.pacers
  yeses = let y = some.2.yeses in (y.0, y.1, y.2)
