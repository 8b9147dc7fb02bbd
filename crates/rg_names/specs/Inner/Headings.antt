-- What the parts of a class table owe while its headers are judged in source order (docs/language.md, "Headers").
use Rattle.std.specs.Prelude.{◌≡◌, ℕ, ◌<◌, ⊤, Bool as Truth, true, false, not, List, [], ◌∷◌, length, map, reverse, Option, None, Some, Ok}
use Rattle.rg_base.specs.declared.words.Cap.{Cap}
use Rattle.rg_base.specs.declared.ty.Ty.{Ty}
use Rattle.rg_base.specs.declared.fault.Code.TheVariants.{BadType}
use Rattle.rg_tree.specs.declared.rows.MemberRow.{MemberRow}
use Rattle.rg_tree.specs.declared.rows.MemberRow.TheVariants as member
use Rattle.rg_tree.specs.declared.rows.MethodRow.{MethodRow}
use Rattle.rg_tree.specs.declared.rows.TypeRow.{TypeRow}
use Rattle.rg_tree.specs.declared.rows.TypeRow.TheVariants as row
use Rattle.rg_tree.specs.Tree.{Name, Ty as Written, Param, Class}
use Rattle.rg_tree.specs.Rows.Tables.{Tables, name_at}
use Rattle.rg_tree.specs.Rows.RowsExist.{AreRows}
use Rattle.rg_rules.specs.Answers.{◌>>=◌, ◌>>◌, test, Answer, Passed}
use Rattle.rg_rules.specs.Capabilities.{is_iso_cap}
use Rattle.rg_rules.specs.Headers.{suits_field, suits_receiver, param_headers, result_header}
use Rattle.rg_names.specs.Table.{judge_type}
use Rattle.rg_names.specs.TableOf.{heads_of}

-- these are the classes of the program
pub record IsHeadsOf (program : Tables) (heads : List (ℕ × Truth)) : Type 0 where
  pub rows : AreRows program
  pub heads_are : heads ≡ heads_of program

-- each number names a name
abbrev pub AreNamed : {V : Type 0} → Tables → List (ℕ × V) → Type 0
AreNamed t [] = ⊤
AreNamed t (e ∷ es) = (e.0 < length t.names) × AreNamed t es

-- the names of earlier entries, the last one first
abbrev pub names_behind : {V : Type 0} → Tables → List (ℕ × V) → List Name
names_behind t es = reverse (map (λ e. name_at t e.0) es)

-- a method as a member
abbrev pub as_member : MethodRow → MemberRow
as_member m = member.Method m.cap m.name m.params m.result m.body m.line

-- whether a field of a type may stand in a class
abbrev pub suits_row : TypeRow → (is_tmp : Truth) → Truth
suits_row row.Int is_tmp = true
suits_row row.Bool is_tmp = true
suits_row (row.Ref cap name) is_tmp = suits_field cap is_tmp

-- the type of a field
abbrev pub judge_field : List (ℕ × Truth) → Truth → TypeRow → Answer Ty
judge_field heads is_tmp y = do
  ty ← judge_type heads y
  test (suits_row y is_tmp) BadType
  Ok ty

-- whether a type is written `iso`
abbrev pub is_iso_row : TypeRow → Truth
is_iso_row row.Int = false
is_iso_row row.Bool = false
is_iso_row (row.Ref cap name) = is_iso_cap cap

-- the type of the elements of an array class
abbrev pub judge_element : List (ℕ × Truth) → Truth → TypeRow → Answer Ty
judge_element heads is_tmp y = do
  ty ← judge_field heads is_tmp y
  test (not (is_iso_row y)) BadType
  Ok ty

-- the type of a result
abbrev pub judge_result : List (ℕ × Truth) → Option TypeRow → Answer (Option Ty)
judge_result heads None = Ok None
judge_result heads (Some y) = do
  ty ← judge_type heads y
  Ok (Some ty)

-- a method's receiver, its parameters, its result
abbrev pub signature_header : List Class → Truth → Cap → List Param → Option Written → Answer Passed
signature_header classes is_tmp receiver params result = do
  test (suits_receiver receiver is_tmp) BadType
  param_headers classes [] params
  result_header classes result
