-- What the variables of the machine stand for in a plain state; its objects: rg_store/specs/Shown. A name's number stands for its bytes
-- (docs/language.md, "Steps").
use Rattle.std.specs.Prelude.{List, map, option_map, All, IfSome}
use Rattle.rg_tree.specs.Rows.Tables.{Tables, name_at}
use Rattle.rg_tree.specs.Rows.RowsExist.{IsNameIn}
use Rattle.rg_rules.specs.State.{Local}
use Rattle.rg_values.specs.declared.state.rows.LocalRow.{LocalRow}

-- a variable
abbrev pub local_of : Tables → LocalRow → Local
local_of t l = record { name = option_map (name_at t) l.name; ty = l.ty; value = l.value }

-- the variables of a frame
abbrev pub locals_of : Tables → List LocalRow → List Local
locals_of t ls = map (local_of t) ls

-- each variable's name is one of the program's
abbrev pub AreNamed : Tables → List LocalRow → Type 0
AreNamed t ls = All (λ l. IfSome l.name (IsNameIn t)) ls
