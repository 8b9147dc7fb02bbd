-- The types that stand with one member, against its header.
use Rattle.std.proofs.Common.{◌≡◌, ℕ, Bool as Truth, true, false, not, List, Option, None, Some, option_map, Ok, Err, refl, ap, ◌∙◌, arith, IfSome}
use Rattle.rg_base.specs.declared.ty.Ty.{Ty}
use Rattle.rg_base.specs.declared.fault.Code.TheVariants.{BadType}
use Rattle.rg_base.specs.declared.fault.Stop.{Stop}
use Rattle.rg_base.specs.declared.fault.Stop.TheVariants.{Fault, Memory}
use Rattle.rg_tree.specs.declared.rows.TypeRow.{TypeRow}
use Rattle.rg_tree.specs.declared.rows.TypeRow.TheVariants as row
use Rattle.rg_tree.specs.Rows.Tables.{Tables}
use Rattle.rg_tree.specs.Rows.RowTrees.{classes_of, type_of as written}
use Rattle.rg_tree.specs.Rows.RowsExist.{IsTypeIn}
use Rattle.rg_rules.specs.Answers.{◌>>=◌, ◌>>◌, test, Answer, Passed, at_line}
use Rattle.rg_rules.specs.Types.{good_type}
use Rattle.rg_rules.specs.Headers.{suits_field_type, is_iso_written, result_header}
use Rattle.rg_names.specs.Table.{judge_type}
use Rattle.rg_names.specs.TableOf.{ty_of}
use Rattle.rg_names.specs.Judged.{FailsAs}
use Rattle.rg_names.specs.Inner.Headings.{IsHeadsOf, suits_row, judge_field, is_iso_row, judge_element, judge_result}
use Rattle.rg_names.proofs.TypeFacts.{judge_type-good_type, judge_type-ty_of}

-- a part that gave a type: the header has no fault, and that is the type
pub record Typed {A : Type 0} (header : Answer Passed) (line : ℕ) (given meant : A) : Type 0 where
  pub passed : at_line line header ≡ Ok tt
  pub is : given ≡ meant

suits_row-written : (t : Tables) (y : TypeRow) (b : Truth) → suits_row y b ≡ suits_field_type (written t y) b
suits_row-written t row.Int b = refl
suits_row-written t row.Bool b = refl
suits_row-written t (row.Ref cap n) b = refl

-- the type of a field, and then whether it may stand there
abbrev pub field_types : Tables → TypeRow → Truth → Answer Passed
field_types t y is_tmp = ◌>>◌ (good_type (classes_of t) (written t y)) (test (suits_field_type (written t y) is_tmp) BadType)

field-fails : (line : ℕ) (r : Answer Ty) (b : Truth) (s : Stop) →
    FailsAs (at_line line (◌>>=◌ r (λ ty. ◌>>◌ (test b BadType) (Ok ty)))) s → FailsAs (at_line line (◌>>◌ r (test b BadType))) s
field-fails line r b Memory h = tt
field-fails line (Ok ty) true (Fault f) h = grind arith
field-fails line (Ok ty) false (Fault f) h = grind arith
field-fails line (Err e) b (Fault f) h = grind arith

field-passes : (line : ℕ) (r : Answer Ty) (b : Truth) (ty : Ty) →
    at_line line (◌>>=◌ r (λ ty. ◌>>◌ (test b BadType) (Ok ty))) ≡ Ok ty → (at_line line (◌>>◌ r (test b BadType)) ≡ Ok tt) × (r ≡ Ok ty)
field-passes line (Ok a) true ty h = (refl, grind arith)
field-passes line (Ok a) false ty h = grind arith
field-passes line (Err e) b ty h = grind arith

is_iso_row-written : (t : Tables) (y : TypeRow) → is_iso_row y ≡ is_iso_written (written t y)
is_iso_row-written t row.Int = refl
is_iso_row-written t row.Bool = refl
is_iso_row-written t (row.Ref cap n) = refl

-- the type of the elements of an array class, and then whether it may stand there
abbrev pub element_types : Tables → TypeRow → Truth → Answer Passed
element_types t y is_tmp = ◌>>◌ (good_type (classes_of t) (written t y)) (◌>>◌ (test (suits_field_type (written t y) is_tmp) BadType)
    (test (not (is_iso_written (written t y))) BadType))

element-fails : (line : ℕ) (r : Answer Ty) (b d : Truth) (s : Stop) →
    FailsAs (at_line line (◌>>=◌ (◌>>=◌ r (λ ty. ◌>>◌ (test b BadType) (Ok ty))) (λ ty. ◌>>◌ (test d BadType) (Ok ty)))) s →
    FailsAs (at_line line (◌>>◌ r (◌>>◌ (test b BadType) (test d BadType)))) s
element-fails line r b d Memory h = tt
element-fails line (Ok ty) true true (Fault f) h = grind arith
element-fails line (Ok ty) true false (Fault f) h = grind arith
element-fails line (Ok ty) false d (Fault f) h = grind arith
element-fails line (Err e) b d (Fault f) h = grind arith

element-passes : (line : ℕ) (r : Answer Ty) (b d : Truth) (ty : Ty) →
    at_line line (◌>>=◌ (◌>>=◌ r (λ ty. ◌>>◌ (test b BadType) (Ok ty))) (λ ty. ◌>>◌ (test d BadType) (Ok ty))) ≡ Ok ty →
    (at_line line (◌>>◌ r (◌>>◌ (test b BadType) (test d BadType))) ≡ Ok tt) × (r ≡ Ok ty)
element-passes line (Ok a) true true ty h = (refl, grind arith)
element-passes line (Ok a) true false ty h = grind arith
element-passes line (Ok a) false d ty h = grind arith
element-passes line (Err e) b d ty h = grind arith

result-fails : (line : ℕ) (r : Answer Ty) (s : Stop) →
    FailsAs (at_line line (◌>>=◌ r (λ ty. Ok (Some ty)))) s → FailsAs (at_line line (◌>>◌ {B = Passed} r (Ok tt))) s
result-fails line r Memory h = tt
result-fails line (Ok ty) (Fault f) h = grind arith
result-fails line (Err e) (Fault f) h = grind arith

result-passes : (line : ℕ) (r : Answer Ty) (y : Option Ty) → at_line line (◌>>=◌ r (λ ty. Ok (Some ty))) ≡ Ok y →
    (ty : Ty) × (r ≡ Ok ty) × (y ≡ Some ty)
result-passes line (Ok a) y h = (a, refl, grind arith)
result-passes line (Err e) y h = grind arith

module _ (t : Tables) (heads : List (ℕ × Truth)) (is : IsHeadsOf t heads) (line : ℕ) where
  pub field_types-fail : (y : TypeRow) → IsTypeIn t y → (is_tmp : Truth) (s : Stop) →
      FailsAs (at_line line (judge_field heads is_tmp y)) s → FailsAs (at_line line (field_types t y is_tmp)) s
  field_types-fail y l is_tmp s f =
      rw (← judge_type-good_type t heads is y l, ← suits_row-written t y is_tmp) (field-fails line (judge_type heads y) (suits_row y is_tmp) s f)

  pub field_types-pass : (y : TypeRow) → IsTypeIn t y → (is_tmp : Truth) (ty : Ty) →
      at_line line (judge_field heads is_tmp y) ≡ Ok ty → Typed (field_types t y is_tmp) line ty (ty_of t y)
  field_types-pass y l is_tmp ty e =
      let p = field-passes line (judge_type heads y) (suits_row y is_tmp) ty e in
      record {
        passed = rw (← judge_type-good_type t heads is y l, ← suits_row-written t y is_tmp) p.0;
        is = judge_type-ty_of t heads is y l ty p.1;
      }

  pub element_types-fail : (y : TypeRow) → IsTypeIn t y → (is_tmp : Truth) (s : Stop) →
      FailsAs (at_line line (judge_element heads is_tmp y)) s → FailsAs (at_line line (element_types t y is_tmp)) s
  element_types-fail y l is_tmp s f =
      rw (← judge_type-good_type t heads is y l, ← suits_row-written t y is_tmp, ← is_iso_row-written t y)
      (element-fails line (judge_type heads y) (suits_row y is_tmp) (not (is_iso_row y)) s f)

  pub element_types-pass : (y : TypeRow) → IsTypeIn t y → (is_tmp : Truth) (ty : Ty) →
      at_line line (judge_element heads is_tmp y) ≡ Ok ty → Typed (element_types t y is_tmp) line ty (ty_of t y)
  element_types-pass y l is_tmp ty e =
      let p = element-passes line (judge_type heads y) (suits_row y is_tmp) (not (is_iso_row y)) ty e in
      record {
        passed = rw (← judge_type-good_type t heads is y l, ← suits_row-written t y is_tmp, ← is_iso_row-written t y) p.0;
        is = judge_type-ty_of t heads is y l ty p.1;
      }

  pub result-fail : (o : Option TypeRow) → IfSome o (IsTypeIn t) → (s : Stop) →
      FailsAs (at_line line (judge_result heads o)) s → FailsAs (at_line line (result_header (classes_of t) (option_map (written t) o))) s
  result-fail None l Memory f = tt
  result-fail None l (Fault f) h = grind arith
  result-fail (Some y) l s f = rw (← judge_type-good_type t heads is y l) (result-fails line (judge_type heads y) s f)

  pub result-pass : (o : Option TypeRow) → IfSome o (IsTypeIn t) → (y : Option Ty) → at_line line (judge_result heads o) ≡ Ok y →
      Typed (result_header (classes_of t) (option_map (written t) o)) line y (option_map (ty_of t) o)
  result-pass None l y e = record { passed = refl; is = grind arith }
  result-pass (Some r) l y e =
      let p = result-passes line (judge_type heads r) y e in
      record {
        passed = rw (← judge_type-good_type t heads is r l, p.1) refl;
        is = p.2 ∙ ap Some (judge_type-ty_of t heads is r l p.0 p.1);
      }
