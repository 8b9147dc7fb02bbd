-- The variables of a body in their slots, by the numbers of their names, and the scope that they stand for (docs/architecture.md, "Modules").
use Rattle.std.specs.Prelude.{◌≡◌, List, take, length, map, All, IfSome}
use Rattle.rg_base.specs.declared.ty.Ty.{Ty}
use Rattle.rg_tree.specs.Tree.{Stmt, stmt, Class}
use Rattle.rg_tree.specs.Rows.Tables.{Tables}
use Rattle.rg_tree.specs.Rows.RowTrees.{variable_of, classes_of}
use Rattle.rg_tree.specs.Rows.RowsExist.{IsNameIn}
use Rattle.rg_code.specs.Lowering.{Slot, Scope, scope_behind}
use Rattle.rg_build.specs.declared.slots.Held.{Held}

-- a variable with its name written out
abbrev pub slot_of_row : Tables → Held → Slot
slot_of_row t v = record { name = variable_of t v.name; ty = v.ty }

-- the scope that variables stand for
abbrev pub scope_of : Tables → List Held → Scope
scope_of t vs = map (slot_of_row t) vs

-- the types of variables, in order
abbrev pub types_held : List Held → List Ty
types_held vs = map (λ (v : Held). v.ty) vs

-- each variable's number names a name
abbrev pub AreHeldIn : Tables → List Held → Type 0
AreHeldIn t vs = All (λ v. IfSome v.name (IsNameIn t)) vs

-- the variables behind a statement
abbrev pub scope_after : List Class → Scope → Stmt → Scope
scope_after classes scope (stmt line k) = scope_behind classes scope k

-- variables behind a statement: those in front of it are still there
pub record IsBehind (t : Tables) (old new : List Held) (s : Stmt) : Type 0 where
  pub scope : scope_of t new ≡ scope_after (classes_of t) (scope_of t old) s
  pub kept : take (length old) new ≡ old
  pub held : AreHeldIn t new
