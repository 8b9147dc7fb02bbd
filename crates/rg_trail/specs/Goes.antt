-- Whether a program goes on behind a step (docs/embedding.md, "Step by step").
use Rattle.std.specs.Prelude.{Bool, true, false}
use Rattle.rg_base.specs.declared.outcome.Outcome.{Outcome}
use Rattle.rg_base.specs.declared.outcome.Outcome.TheVariants as outcome

abbrev pub goes_on : Outcome → Bool
goes_on outcome.Running = true
goes_on (outcome.Printed v) = true
goes_on outcome.Done = false
goes_on (outcome.Trap kind line) = false
goes_on outcome.InputFault = false
goes_on outcome.Memory = false
