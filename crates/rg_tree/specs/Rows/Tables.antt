-- The flat tables of a program, as contracts see them: each row goes by its number, from 0 (docs/language.md, "The tree").
use Rattle.std.specs.Prelude.{ℕ, ◌≢◌, ◌-◌, List, [], ◌∷◌, ◌++◌, Option, AllPairs, bytes_eq, if◌then◌else◌, is_some, position, slice_index_or, take}
use Rattle.std.specs.Prelude.{drop}
use Rattle.rg_base.specs.declared.words.Manager.{Manager}
use Rattle.rg_base.specs.declared.words.Manager.TheVariants.{Arena}
use Rattle.rg_tree.specs.declared.rows.Span.{Span}
use Rattle.rg_tree.specs.declared.rows.ClassRow.{ClassRow}
use Rattle.rg_tree.specs.declared.rows.MemberRow.{MemberRow}
use Rattle.rg_tree.specs.declared.rows.ParamRow.{ParamRow}
use Rattle.rg_tree.specs.declared.rows.StmtRow.{StmtRow}
use Rattle.rg_tree.specs.declared.rows.ExprRow.{ExprRow}
use Rattle.rg_tree.specs.Tree.{Name}

-- the names and the numbers, the tables of rows, and main
pub record Tables : Type 0 where
  pub names : List (List ℕ)
  pub numbers : List ℕ
  pub params : List ParamRow
  pub members : List MemberRow
  pub classes : List ClassRow
  pub stmts : List StmtRow
  pub exprs : List ExprRow
  pub manager : Manager
  pub body : Span
  pub line : ℕ

-- the span of no numbers
abbrev pub no_numbers : Span
no_numbers = record { from = 0; to = 0 }

-- no rows, and an empty arena block for main at line 1
abbrev pub at_first : Tables
at_first = record {
  names = [];
  numbers = [];
  params = [];
  members = [];
  classes = [];
  stmts = [];
  exprs = [];
  manager = Arena;
  body = no_numbers;
  line = 1;
}

-- the number of a name
abbrev pub number_of : List Name → Name → Option ℕ
number_of names name = position (bytes_eq name) names

-- the names with this one, which goes last if it isn't there
abbrev pub with_name : List Name → Name → List Name
with_name names name = if is_some (number_of names name) then names else names ++ name ∷ []

-- no name stands twice
abbrev pub AreDistinct : List Name → Type 0
AreDistinct names = AllPairs (λ a b. a ≢ b) names

-- the name of that number
abbrev pub name_at : Tables → ℕ → Name
name_at t n = slice_index_or t.names n []

-- the numbers of a span
abbrev pub numbers_in : Tables → Span → List ℕ
numbers_in t s = take (s.to - s.from) (drop s.from t.numbers)
