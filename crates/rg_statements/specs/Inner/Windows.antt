-- Where a window's owner stands, and the room that a window needs (docs/language.md, "Steps").
use Rattle.std.specs.Prelude.{◌≡◌, ℕ, ◌+◌, ◌<◌, ◌≤◌, List, length, vec_capacity, Option, Some, None, Result, Ok, Err}
use Rattle.rg_base.specs.declared.object.Seen.{Seen}
use Rattle.rg_tree.specs.Tree.{Name, Block, enter}
use Rattle.rg_tree.specs.Rows.Tables.{Tables}
use Rattle.rg_tree.specs.Rows.RowTrees.{classes_of, path_of}
use Rattle.rg_tree.specs.declared.rows.Path as row_path
use Rattle.rg_rules.specs.Items.{Item, leave_of}
use Rattle.rg_rules.specs.Regions.{region_of}
use Rattle.rg_rules.specs.State.{State}
use Rattle.rg_rules.specs.Steps.{entered, step_kind, step_leave}
use Rattle.rg_values.specs.declared.refusal.Refusal.{Refusal}
use Rattle.rg_values.specs.declared.refusal.Refusal.TheVariants as refused
use Rattle.rg_statements.specs.declared.enter.Owner.{Owner}
use Rattle.rg_statements.specs.declared.enter.Bridge.{Bridge}
use Rattle.rg_values.specs.declared.state.parts.Parts.{Parts}
use Rattle.rg_values.specs.Kept.{Kept, plain_of}

-- an `enter` without its names and block: the region of what the owner holds is entered, or the trap
abbrev pub OwnerIs : Tables → Kept → row_path.Path → Result Owner Refusal → Type 0
OwnerIs t k p (Ok w) = (input : List ℕ) (rest : List Item) (line : ℕ) (z : Name) (body : Block) (giving : Option Name) →
    step_kind (classes_of t) (record (plain_of t k input) { items = rest }) line (enter (path_of t p) z body giving)
    ≡ entered (record (plain_of t k input) { items = rest }) w.place z body (λ kept. leave_of line kept giving) w.bridge
OwnerIs t k p (Err (refused.Trap kind)) = (input : List ℕ) (rest : List Item) (line : ℕ) (z : Name) (body : Block) (giving : Option Name) →
    step_kind (classes_of t) (record (plain_of t k input) { items = rest }) line (enter (path_of t p) z body giving) ≡ Err kind
OwnerIs t k p (Err refused.Memory) = Unit {0}

-- the class of an object, and its region; what lies in none has no bridge
abbrev pub BridgeIs : Seen → Option Bridge → Type 0
BridgeIs o None = region_of o.label ≡ None
BridgeIs o (Some b) = (o.class ≡ b.class) × (region_of o.label ≡ Some b.region)

-- there is room for a window, its bridge, and the items of its block
pub record HasWindowRoom (p : Parts) : Type 0 where
  pub outer : length p.outer.items < vec_capacity p.outer
  pub locals : length p.frame.locals.items < vec_capacity p.frame.locals
  pub items : length p.items.items + 2 ≤ vec_capacity p.items

-- a state after the end of a block of `enter`, with what is still to do behind it
abbrev pub left_at : (kept : ℕ) → State → (rest : List Item) → State
left_at kept s rest = step_leave kept (record s { items = rest }) s.windows
