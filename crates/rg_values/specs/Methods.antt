-- Methods by the names of their classes (docs/language.md, "Steps").
use Rattle.std.specs.Prelude.{◌≡◌, ℕ, Bool as Truth, true, false, bytes_eq, List, find, filter_map, Option, Some, None}
use Rattle.rg_tree.specs.Tree.{Name, Method, Member, field, method}
use Rattle.rg_tree.specs.Rows.Tables.{Tables, name_at}
use Rattle.rg_tree.specs.Rows.RowTrees.{classes_of, method_of}
use Rattle.rg_tree.specs.Rows.RowsExist.{IsMethodIn}
use Rattle.rg_tree.specs.declared.rows.MethodRow.{MethodRow}
use Rattle.rg_rules.specs.Types.{method_member, method_named}

-- whether a member is the method of a name
abbrev pub is_named : Name → Member → Truth
is_named x (field f) = false
is_named x (method m) = bytes_eq m.name x

-- the first method of a name among members
abbrev pub find_method : Name → List Member → Option Method
find_method x members = find (λ m. bytes_eq m.name x) (filter_map method_member members)

-- a member that is the method of a name
abbrev pub MemberIs : Tables → Name → Member → Option MethodRow → Type 0
MemberIs t x member None = is_named x member ≡ false
MemberIs t x member (Some m) = (member ≡ method (method_of t m)) × (bytes_eq (name_at t m.name) x ≡ true) × IsMethodIn t m

-- the method of a name in a class
abbrev pub MethodIs : Tables → (class : ℕ) → Name → Option MethodRow → Type 0
MethodIs t class x None = method_named (classes_of t) class x ≡ None
MethodIs t class x (Some m) = (method_named (classes_of t) class x ≡ Some (method_of t m)) × IsMethodIn t m
