-- What a whole step answers, exactly, and what stands where (docs/language.md, "Steps").
use Rattle.std.specs.Prelude.{if◌then◌else◌, ◌≡◌, ◌≢◌, ◌⊎◌, Bool as Truth, false, List, [], ◌∷◌, ◌++◌}
use Rattle.rg_base.specs.declared.outcome.Outcome.{Outcome}
use Rattle.rg_base.specs.declared.outcome.Outcome.TheVariants as outcome
use Rattle.rg_rules.specs.Items.{Item, EndAt}
use Rattle.rg_rules.specs.State.{State}
use Rattle.rg_rules.specs.Steps.{Stepped, Went, Trapped}
use Rattle.rg_values.specs.Printing.{PrintsOrStays, first_prints}

-- Running and Printed come where things to do are left, and Done where none is. A value is printed where Printed says so, and
-- nowhere else. After a trap or a fault the state is as before.
abbrev pub Settles : Stepped → (old new : State) → Outcome → Type 0
Settles step old new outcome.Running = (step ≡ Went new) × (new.items ≢ []) × (new.output ≡ old.output)
Settles step old new (outcome.Printed v) = (step ≡ Went new) × (new.items ≢ []) × (new.output ≡ old.output ++ v ∷ [])
Settles step old new outcome.Done = (step ≡ Went new) × (new.items ≡ []) × (new.output ≡ old.output)
Settles step old new (outcome.Trap kind line) = (step ≡ Trapped kind line) × (new ≡ old)
Settles step old new outcome.InputFault = new ≡ old
Settles step old new outcome.Memory = new ≡ old

-- the last thing to do, where there is one, is the end of main's block
abbrev pub EndsMain : List Item → Type 0
EndsMain [] = Unit {0}
EndsMain (i ∷ []) = i ≡ EndAt 0
EndsMain (i ∷ j ∷ rest) = EndsMain (j ∷ rest)

-- the outcome of a step that went: where nothing is left it is Done
abbrev pub settled_outcome : Outcome → (empty : Truth) → Outcome
settled_outcome outcome.Running empty = if empty then outcome.Done else outcome.Running
settled_outcome (outcome.Printed v) empty = outcome.Printed v
settled_outcome outcome.Done empty = outcome.Done
settled_outcome (outcome.Trap kind line) empty = outcome.Trap kind line
settled_outcome outcome.InputFault empty = outcome.InputFault
settled_outcome outcome.Memory empty = outcome.Memory

-- a step that goes on has printed where the first thing to do prints
abbrev pub QuietOrPrints : List Item → Outcome → Type 0
QuietOrPrints items result = (first_prints items ≡ false) ⊎ PrintsOrStays result

-- rows are left where a step went on, and none where it was the last
abbrev pub LeavesRows : {R : Type 0} → List R → Outcome → Type 0
LeavesRows rows outcome.Running = rows ≢ []
LeavesRows rows (outcome.Printed v) = rows ≢ []
LeavesRows rows outcome.Done = rows ≡ []
LeavesRows rows (outcome.Trap kind line) = Unit {0}
LeavesRows rows outcome.InputFault = Unit {0}
LeavesRows rows outcome.Memory = Unit {0}
