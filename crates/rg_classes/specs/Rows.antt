-- Classes and bodies of methods as rows (docs/architecture.md, "Modules").
use Rattle.std.specs.Prelude.{◌≡◌, ℕ, ◌+◌, ◌<◌, ◌^◌, List, ◌++◌, length, All, map, Option, option_map, IfSome}
use Rattle.rg_tree.specs.declared.rows.Span.{Span}
use Rattle.rg_tree.specs.declared.rows.TypeRow.{TypeRow}
use Rattle.rg_tree.specs.Tree as tree
use Rattle.rg_tree.specs.Tree.{Param, Member, Class}
use Rattle.rg_tree.specs.Rows.Tables.{Tables, numbers_in}
use Rattle.rg_tree.specs.Rows.RowTrees.{type_of, block_of, param_at, member_at, classes_of, program_of}
use Rattle.rg_tree.specs.Rows.RowsExist.{IsTypeIn, IsBlockIn, IsSpanBelow, IsMemberNumber}
use Rattle.rg_tree.specs.Keeps.{Keeps}
use Rattle.rg_tree.specs.Adds.{Means}
use Rattle.rg_spell.specs.declared.rows.Head.{Head}
use Rattle.rg_classes.specs.declared.body_row.BodyRow.{BodyRow}
use Rattle.rg_classes.specs.Written.{Bodied}

-- the body of a method that a row stands for
abbrev pub body_of : Tables → BodyRow → Bodied
body_of t r = record { block = block_of t r.block; line = r.line }

abbrev pub IsBodyIn : Tables → BodyRow → Type 0
IsBodyIn t r = IsBlockIn t r.block

-- bodies by their rows, in order
abbrev pub AreBodies : Tables → List BodyRow → List Bodied → Type 0
AreBodies t rows bs = Means (λ u. map (body_of u)) (λ u. All (IsBodyIn u)) t rows bs

-- heads of methods, with their bodies as rows; so few that each has a number, and each parameter a slot
pub record AreMethods (t : Tables) (heads : List Head) (rows : List BodyRow) : Type 0 where
  pub few : length heads < 2 ^ 32
  pub params : All (λ (h : Head). length h.params + 1 < 2 ^ 32) heads
  pub bodies : All (IsBodyIn t) rows
  pub same : length rows ≡ length heads

-- members by their numbers, in order
abbrev pub AreMembers : Tables → List ℕ → List Member → Type 0
AreMembers t ns ms = Means (λ u. map (member_at u)) (λ u. All (IsMemberNumber u)) t ns ms

-- a type that may be missing
abbrev pub result_of : Tables → Option TypeRow → Option tree.Ty
result_of t o = option_map (type_of t) o

abbrev pub IsResultIn : Tables → Option TypeRow → Type 0
IsResultIn t o = IfSome o (IsTypeIn t)

-- the parameters of a span
abbrev pub params_in : Tables → Span → List Param
params_in t s = map (param_at t) (numbers_in t s)

abbrev pub AreParamsIn : Tables → Span → Type 0
AreParamsIn t = IsSpanBelow t (length t.params)

-- the members of a span
abbrev pub members_in : Tables → Span → List Member
members_in t s = map (member_at t) (numbers_in t s)

abbrev pub AreMembersIn : Tables → Span → Type 0
AreMembersIn t = IsSpanBelow t (length t.members)

-- classes are put last, and all else stays
pub record AddsClasses (old new : Tables) (cs : List Class) : Type 0 where
  pub keeps : Keeps old new
  pub program : program_of new ≡ record (program_of old) { classes = classes_of old ++ cs }
