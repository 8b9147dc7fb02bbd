-- What a step of the machine is: each outcome says what the step of the definition did (docs/language.md, "Steps").
use Rattle.std.specs.Prelude.{◌≡◌, ℕ, List, [], ◌∷◌, ◌++◌, slice_index, Result, Ok, Err}
use Rattle.rg_base.specs.declared.outcome.Outcome.{Outcome}
use Rattle.rg_base.specs.declared.outcome.Outcome.TheVariants as outcome
use Rattle.rg_base.specs.declared.value.Val.{Val}
use Rattle.rg_tree.specs.Tree.{StmtKind, stmt}
use Rattle.rg_values.specs.declared.state.items.At.{At}
use Rattle.rg_values.specs.declared.state.parts.Parts.{Parts}
use Rattle.rg_values.specs.declared.refusal.Refusal.{Refusal}
use Rattle.rg_values.specs.declared.refusal.Refusal.TheVariants as refused
use Rattle.rg_values.specs.Fits.{PartsFit}
use Rattle.rg_tree.specs.declared.rows.Span.{Span}
use Rattle.rg_tree.specs.Rows.Tables.{Tables, numbers_in}
use Rattle.rg_tree.specs.Rows.RowTrees.{classes_of, stmt_at}
use Rattle.rg_rules.specs.Items.{Item, Do}
use Rattle.rg_rules.specs.State.{State}
use Rattle.rg_rules.specs.Steps.{Stepped, Went, Trapped, next}
use Rattle.rg_values.specs.declared.state.rows.ItemRow.{ItemRow}
use Rattle.rg_values.specs.declared.state.rows.ItemRow.TheVariants as row
use Rattle.rg_values.specs.Kept.{Kept, plain_of, shown, ItemsFit}

-- the topmost row is these statements, and the first of them has this number
pub record IsAt (t : Tables) (rows : List ItemRow) (span : Span) (number : ℕ) : Type 0 where
  pub below : List ItemRow
  pub top : rows ≡ below ++ row.Rest span ∷ []
  pub first_is : number ≡ slice_index (numbers_in t span) 0
  pub rest : List Item
  pub items : shown t rows ≡ Do (stmt_at t number) ∷ rest
  pub fit : ItemsFit t rows

-- the machine is the program's, and the next thing to do is a statement of this kind
pub record Stands (t : Tables) (p : Parts) (a : At) (kind : StmtKind) : Type 0 where
  pub fit : PartsFit t p
  pub at : IsAt t p.items.items a.span a.number
  pub tree : stmt_at t a.number ≡ stmt a.line kind

-- how a step ends that was refused
abbrev pub ended_by : Refusal → (line : ℕ) → Outcome
ended_by (refused.Trap kind) line = outcome.Trap kind line
ended_by refused.Memory line = outcome.Memory

-- how one ends that prints nothing
abbrev pub outcome_of : Result (Unit {0}) Refusal → (line : ℕ) → Outcome
outcome_of (Ok u) line = outcome.Running
outcome_of (Err r) line = ended_by r line

-- how one ends that prints a value
abbrev pub printed_of : Result Val Refusal → (line : ℕ) → Outcome
printed_of (Ok v) line = outcome.Printed v
printed_of (Err r) line = ended_by r line

-- a step that was refused trapped, or found no memory, and the state is as before
abbrev pub Refuses : Stepped → (old new : State) → (line : ℕ) → Refusal → Type 0
Refuses step old new line (refused.Trap kind) = (step ≡ Trapped kind line) × (new ≡ old)
Refuses step old new line refused.Memory = new ≡ old

-- what a step did that prints nothing
abbrev pub Does : Stepped → (old new : State) → (line : ℕ) → Result (Unit {0}) Refusal → Type 0
Does step old new line (Ok u) = step ≡ Went new
Does step old new line (Err r) = Refuses step old new line r

-- what a step did that prints a value
abbrev pub DoesPrint : Stepped → (old new : State) → (line : ℕ) → Result Val Refusal → Type 0
DoesPrint step old new line (Ok v) = (step ≡ Went new) × (new.output ≡ old.output ++ v ∷ [])
DoesPrint step old new line (Err r) = Refuses step old new line r

-- the same, whatever is left of the input
abbrev pub Makes : Tables → (old new : Kept) → (line : ℕ) → Result (Unit {0}) Refusal → Type 0
Makes t old new line result =
    (input : List ℕ) → Does (next (classes_of t) (plain_of t old input)) (plain_of t old input) (plain_of t new input) line result

abbrev pub Prints : Tables → (old new : Kept) → (line : ℕ) → Result Val Refusal → Type 0
Prints t old new line result =
    (input : List ℕ) → DoesPrint (next (classes_of t) (plain_of t old input)) (plain_of t old input) (plain_of t new input) line result

-- a step that can't be refused was made
abbrev pub GoesOn : Tables → (old new : Kept) → Type 0
GoesOn t old new = (input : List ℕ) → next (classes_of t) (plain_of t old input) ≡ Went (plain_of t new input)
