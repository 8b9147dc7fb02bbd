-- What a run makes of the answer of a step (docs/language.md, "Steps").
use Rattle.std.specs.Prelude.{◌≡◌, ℕ, ◌+◌, List, Option, Some, None}
use Rattle.rg_base.specs.declared.outcome.Ended.{Ended}
use Rattle.rg_base.specs.declared.outcome.Ended.TheVariants as ended
use Rattle.rg_base.specs.declared.outcome.Outcome.{Outcome}
use Rattle.rg_base.specs.declared.outcome.Outcome.TheVariants as outcome
use Rattle.rg_base.specs.Text.{line_text}
use Rattle.rg_io.specs.Content.{Appends, AppendsPart}

-- a line was taken, or the run ends since it wasn't taken whole
abbrev pub PutIs : (old new : Option (List ℕ)) → (line : List ℕ) → Option Ended → Type 0
PutIs old new line None = Appends old new line
PutIs old new line (Some e) = (e ≡ ended.OutputFault) × AppendsPart old new line

-- the number of whole steps behind this one, what was taken, and how the run ends, if it does
abbrev pub CountIs : Outcome → (k after : ℕ) → (old new : Option (List ℕ)) → Option Ended → Type 0
CountIs outcome.Running k after old new r = (r ≡ None) × (after ≡ k + 1) × (new ≡ old)
CountIs (outcome.Printed v) k after old new r = (after ≡ k + 1) × PutIs old new (line_text v) r
CountIs outcome.Done k after old new r = (r ≡ Some ended.Done) × (after ≡ k + 1) × (new ≡ old)
CountIs (outcome.Trap kind line) k after old new r = (r ≡ Some (ended.Trap kind line)) × (after ≡ k) × (new ≡ old)
CountIs outcome.InputFault k after old new r = (r ≡ Some ended.InputFault) × (after ≡ k) × (new ≡ old)
CountIs outcome.Memory k after old new r = (r ≡ Some ended.Memory) × (after ≡ k) × (new ≡ old)
