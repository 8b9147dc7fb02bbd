-- The table of a program (docs/language.md, "Headers").
use Rattle.std.specs.Prelude.{◌≡◌, ℕ, suc, Bool, List, [], ◌∷◌, map, filter_map, Option, Some, None, option_map, slice_get, Ok}
use Rattle.rg_base.specs.declared.ty.Ty.{Ty}
use Rattle.rg_tree.specs.declared.rows.Span.{Span}
use Rattle.rg_tree.specs.declared.rows.ClassRow.{ClassRow}
use Rattle.rg_tree.specs.declared.rows.MemberRow.{MemberRow}
use Rattle.rg_tree.specs.declared.rows.MemberRow.TheVariants as row
use Rattle.rg_tree.specs.declared.rows.TypeRow.{TypeRow}
use Rattle.rg_tree.specs.Rows.Tables.{Tables, numbers_in}
use Rattle.rg_tree.specs.Rows.RowTrees.{type_of as written, program_of}
use Rattle.rg_tree.specs.Rows.RowsExist.{AreRows}
use Rattle.rg_rules.specs.Types.{type_of}
use Rattle.rg_rules.specs.Headers.{judge_headers}
use Rattle.rg_names.specs.declared.entry.Entry.{Entry}
use Rattle.rg_names.specs.declared.entry.Entry.TheVariants.{Field, Method}
use Rattle.rg_names.specs.Table.{Table}

-- each class's name with whether it is a tmp class
abbrev pub heads_of : Tables → List (ℕ × Bool)
heads_of t = map (λ c. (c.name, c.is_tmp)) t.classes

-- the type of a row
abbrev pub ty_of : Tables → TypeRow → Ty
ty_of t y = type_of (program_of t).classes (written t y)

-- a member behind so many fields of its class and so many methods of the program
abbrev pub entry_of : Tables → (fields methods : ℕ) → MemberRow → ℕ × Entry
entry_of t fields methods (row.Field name y line) = (name, Field (record { index = fields; ty = ty_of t y }))
entry_of t fields methods (row.Method cap name params y body line) =
    (name, Method (record { number = methods; cap = cap; params = params; result = option_map (ty_of t) y }))

-- so many fields with that member
abbrev pub fields_with : ℕ → MemberRow → ℕ
fields_with fields (row.Field name y line) = suc fields
fields_with fields (row.Method cap name params y body line) = fields

-- so many methods with that member
abbrev pub methods_with : ℕ → MemberRow → ℕ
methods_with methods (row.Field name y line) = methods
methods_with methods (row.Method cap name params y body line) = suc methods

-- the members of a class in order, behind so many of its fields and so many methods of the program
abbrev pub entries_of : Tables → (fields methods : ℕ) → List MemberRow → List (ℕ × Entry)
entries_of t fields methods [] = []
entries_of t fields methods (m ∷ ms) = entry_of t fields methods m ∷ entries_of t (fields_with fields m) (methods_with methods m) ms

-- so many methods with those of these members
abbrev pub methods_with_all : ℕ → List MemberRow → ℕ
methods_with_all methods [] = methods
methods_with_all methods (m ∷ ms) = methods_with_all (methods_with methods m) ms

-- the members of these numbers
abbrev pub rows_of : Tables → List ℕ → List MemberRow
rows_of t ks = filter_map (slice_get t.members) ks

-- the members of a class, of these numbers; an array class has none
abbrev pub rows_under : Tables → (element : Option TypeRow) → Span → List MemberRow
rows_under t None s = rows_of t (numbers_in t s)
rows_under t (Some y) s = []

abbrev pub rows_in : Tables → ClassRow → List MemberRow
rows_in t c = rows_under t c.element c.members

-- the members of each class in order, behind so many methods
abbrev pub members_of : Tables → (methods : ℕ) → List ClassRow → List (List (ℕ × Entry))
members_of t methods [] = []
members_of t methods (c ∷ cs) =
    entries_of t 0 methods (rows_in t c) ∷ members_of t (methods_with_all methods (rows_in t c)) cs

-- the type of the elements of a class
abbrev pub element_of : Tables → ClassRow → Option Ty
element_of t c = option_map (ty_of t) c.element

-- the table of a program
abbrev pub table_of : Tables → Table
table_of t = record { heads = heads_of t; members = members_of t 0 t.classes; elements = map (element_of t) t.classes }

-- the program's headers have no fault, and this is its table
pub record IsTableOf (program : Tables) (table : Table) : Type 0 where
  pub rows : AreRows program
  pub headers : judge_headers (program_of program).classes ≡ Ok tt
  pub table_is : table ≡ table_of program
