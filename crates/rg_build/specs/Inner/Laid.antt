-- A module whose marks get their maps in order (docs/architecture.md, "Modules"): those in front of an address have theirs.
use Rattle.std.specs.Prelude.{◌≡◌, ℕ, ◌≤◌, List, [], ◌∷◌, ◌++◌, length, take, drop, get_or}
use Rattle.rg_base.specs.declared.ty.Ty.{Ty}
use Rattle.rg_tree.specs.Tree.{Stmt, stmt, Class}
use Rattle.rg_code.specs.Lowering.{Scope}
use Rattle.rg_build.specs.Maps.{types_in, inner_maps}
use Rattle.rg_build.specs.ModuleOf.{laid}
use Rattle.rg_build.specs.declared.laying.Laying.{Laying}

-- the maps of all instructions, if these are those of the marks from the address on
abbrev pub settled : Laying → List (List Ty) → List (List Ty)
settled l maps = take l.at l.module.maps ++ laid (drop l.at l.module.code.ops) maps

-- each instruction has a map, and from the address on none was set
pub record IsOpen (l : Laying) : Type 0 where
  pub within : l.at ≤ length l.module.code.ops
  pub even : length l.module.maps ≡ length l.module.code.ops
  pub free : (i : ℕ) → l.at ≤ i → get_or l.module.maps i [] ≡ []

-- the next marks got maps: of the `whole` that was to come, the `rest` still is
pub record LaysOf (old new : Laying) (whole rest : List (List Ty)) : Type 0 where
  pub open_now : IsOpen new
  pub same : new.module ≡ record old.module { maps = new.module.maps }
  pub settles : (others : List (List Ty)) → settled new (rest ++ others) ≡ settled old (whole ++ others)

-- the next marks got these maps
abbrev pub Lays : (old new : Laying) → List (List Ty) → Type 0
Lays old new maps = LaysOf old new maps []

-- the maps of the blocks of a statement
abbrev pub maps_within : List Class → Scope → Stmt → List (List Ty)
maps_within classes scope (stmt line k) = inner_maps classes scope k

-- the maps of a statement
abbrev pub stmt_maps : List Class → Scope → Stmt → List (List Ty)
stmt_maps classes scope s = types_in scope ∷ maps_within classes scope s
