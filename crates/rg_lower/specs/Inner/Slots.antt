-- The variables of a body in their slots, by the numbers of their names, and the scope that they stand for (docs/language.md,
-- "Instructions and lowering").
use Rattle.std.specs.Prelude.{ℕ, List, map, All, IfSome, Option, option_map}
use Rattle.rg_tree.specs.Tree.{Variable}
use Rattle.rg_tree.specs.Rows.Tables.{Tables, name_at}
use Rattle.rg_tree.specs.Rows.RowsExist.{IsNameIn}
use Rattle.rg_code.specs.Lowering.{Slot, Scope}
use Rattle.rg_lower.specs.declared.slots.Held.{Held}

-- a variable, by the number of its name
abbrev pub variable_of : Tables → Option ℕ → Variable
variable_of t name = option_map (name_at t) name

-- a variable with its name written out
abbrev pub slot_of_row : Tables → Held → Slot
slot_of_row t v = record { name = variable_of t v.name; ty = v.ty }

-- the scope that variables stand for
abbrev pub scope_of : Tables → List Held → Scope
scope_of t vs = map (slot_of_row t) vs

-- each variable's number names a name
abbrev pub AreHeldIn : Tables → List Held → Type 0
AreHeldIn t vs = All (λ v. IfSome v.name (IsNameIn t)) vs
