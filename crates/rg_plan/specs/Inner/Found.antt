-- What is found of a name: a class, and a member of a class (docs/architecture.md, "Plans").
use Rattle.std.specs.Prelude.{◌≡◌, ℕ, ◌+◌, ◌<◌, ◌&&◌, bytes_eq, Bool as Truth, true, false, List, [], ◌∷◌, length, drop, filter_map, find, Option}
use Rattle.std.specs.Prelude.{Some, None}
use Rattle.rg_tree.specs.declared.rows.MemberRow.{MemberRow}
use Rattle.rg_tree.specs.declared.rows.MemberRow.TheVariants.{Field, Method}
use Rattle.rg_tree.specs.Tree.{Name, Class, Member, Method as MethodTree}
use Rattle.rg_tree.specs.Rows.Tables.{Tables, name_at, numbers_in}
use Rattle.rg_tree.specs.Rows.RowTrees.{class_of, classes_of}
use Rattle.rg_tree.specs.Rows.RowsExist.{IsNameIn}
use Rattle.rg_rules.specs.Types.{class_named, class_number, method_member, method_named}
use Rattle.rg_names.specs.declared.entry.Sig.{Sig}
use Rattle.rg_plan.specs.declared.classes.ClassAt.{ClassAt}
use Rattle.rg_plan.specs.Lines.{is_mut, no_result}

-- the first class of a name, with its number
pub record IsClassAt (t : Tables) (x : Name) (c : ClassAt) : Type 0 where
  pub named : class_named (classes_of t) x ≡ Some (class_of t c.row)
  pub number : class_number (classes_of t) x ≡ c.class
  pub within : c.class < length (classes_of t)

-- the answer for a class
abbrev pub ClassFound : Tables → Name → Option ClassAt → Type 0
ClassFound t x None = class_named (classes_of t) x ≡ None
ClassFound t x (Some c) = IsClassAt t x c

-- the classes in front of a number have another name
pub record IsBehind (classes : List Class) (x : Name) (i : ℕ) : Type 0 where
  pub named : class_named (drop i classes) x ≡ class_named classes x
  pub number : i + class_number (drop i classes) x ≡ class_number classes x

-- the number of a member's name
abbrev pub name_of : MemberRow → ℕ
name_of (Field name y line) = name
name_of (Method cap name params y body line) = name

-- the number of a name under which a class may have a method
pub record IsNameOf (t : Tables) (x : Name) (n : ℕ) : Type 0 where
  pub there : IsNameIn t n
  pub is : name_at t n ≡ x

-- the answer for a name: where there is none, no method of the class has that name
abbrev pub NameFound : Tables → (class : ℕ) → Name → Option ℕ → Type 0
NameFound t class x None = method_named (classes_of t) class x ≡ None
NameFound t class x (Some n) = IsNameOf t x n

-- the first method of a name among members
abbrev pub method_among : List Member → Name → Option MethodTree
method_among members x = find (λ m. bytes_eq m.name x) (filter_map method_member members)

-- whether there are no numbers
abbrev pub no_numbers : List ℕ → Truth
no_numbers [] = true
no_numbers (n ∷ ns) = false

-- whether a method is `def mut m() { .. }`, by what the class table says of it
abbrev pub is_plain_sig : Tables → Sig → Truth
is_plain_sig t s = is_mut s.cap && (no_numbers (numbers_in t s.params) && no_result s.result)
