-- What a whole step is: each outcome says what the step of the definition did (docs/language.md, "Steps").
use Rattle.std.specs.Prelude.{◌≡◌, [], ◌∷◌, ◌++◌}
use Rattle.rg_base.specs.declared.outcome.Outcome.{Outcome}
use Rattle.rg_base.specs.declared.outcome.Outcome.TheVariants as outcome
use Rattle.rg_rules.specs.State.{State}
use Rattle.rg_rules.specs.Steps.{Stepped, Went, Trapped}

-- what an outcome says of the step from `old`, and of the state `new` to which it led
abbrev pub StepIs : Stepped → (old new : State) → Outcome → Type 0
StepIs step old new outcome.Running = step ≡ Went new
StepIs step old new (outcome.Printed v) = (step ≡ Went new) × (new.output ≡ old.output ++ v ∷ [])
StepIs step old new outcome.Done = (step ≡ Went new) × (new.items ≡ [])
StepIs step old new (outcome.Trap kind line) = (step ≡ Trapped kind line) × (new ≡ old)
StepIs step old new outcome.InputFault = new ≡ old
StepIs step old new outcome.Memory = new ≡ old
