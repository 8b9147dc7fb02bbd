-- The parameters of a method, judged one after another.
use Rattle.std.proofs.Common.{◌≡◌, ℕ, suc, ◌+◌, ◌<◌, not, List, [], ◌∷◌, ◌++◌, map, drop, length, get_or, is_some, Bool, Ok, nat_eq, refl, sym, ap}
use Rattle.std.proofs.Common.{◌∙◌, add-one, drop-cons}
use Rattle.std.specs.Map.{lookup}
use Rattle.rg_base.specs.declared.ty.Ty.{Ty}
use Rattle.rg_base.specs.declared.fault.Code.TheVariants.{Duplicate}
use Rattle.rg_base.specs.declared.fault.Stop.{Stop}
use Rattle.rg_tree.specs.declared.rows.ParamRow.{ParamRow}
use Rattle.rg_tree.specs.Rows.Tables.{Tables, name_at}
use Rattle.rg_tree.specs.Rows.RowTrees.{param_at, param_of, classes_of, type_of as written}
use Rattle.rg_tree.specs.Rows.RowsExist.{IsParamIn}
use Rattle.rg_rules.specs.Answers.{◌>>◌, test, Answer, Lined, Passed, at_line}
use Rattle.rg_rules.specs.Types.{good_type}
use Rattle.rg_rules.specs.Headers.{param_headers}
use Rattle.rg_names.specs.Table.{judge_type}
use Rattle.rg_names.specs.Judged.{FailsAs}
use Rattle.rg_names.specs.Inner.Headings.{IsHeadsOf, AreNamed, names_behind}
use Rattle.rg_names.proofs.Naming.{among-behind, names_behind-push, AreNamed-push}
use Rattle.rg_names.proofs.Outcomes.{at_line-then}
use Rattle.rg_names.proofs.Fails.{FailsAs-first, FailsAs-second, FailsAs-same}
use Rattle.rg_names.proofs.TypeFacts.{judge_type-good_type}

-- the first i parameters have no fault, and these are their names
pub record ParamsUpTo (t : Tables) (line : ℕ) (ks : List ℕ) (i : ℕ) (earlier : List (ℕ × Ty)) : Type 0 where
  pub named : AreNamed t earlier
  pub judged : at_line line (param_headers (classes_of t) (names_behind t earlier) (map (param_at t) (drop i ks)))
      ≡ at_line line (param_headers (classes_of t) [] (map (param_at t) ks))

pub params-none : (t : Tables) (line : ℕ) (ks : List ℕ) → ParamsUpTo t line ks 0 []
params-none t line ks = record { named = tt; judged = refl }

-- the test of the next name
abbrev pub is_new : ℕ → ParamRow → List (ℕ × Ty) → Lined Passed
is_new line row earlier = at_line line (test (not (is_some (lookup (nat_eq row.name) earlier))) Duplicate)

module _ (t : Tables) (heads : List (ℕ × Bool)) (is : IsHeadsOf t heads) (line : ℕ) (ks : List ℕ) (i : ℕ) (earlier : List (ℕ × Ty))
    (row : ParamRow) (h : ParamsUpTo t line ks i earlier) (l : i < length ks) (tree : param_at t (get_or ks i 0) ≡ param_of t row)
    (in' : IsParamIn t row) where
  -- what is judged behind this parameter
  abbrev behind : Answer Passed
  behind = param_headers (classes_of t) (name_at t row.name ∷ names_behind t earlier) (map (param_at t) (drop (suc i) ks))

  params-next : at_line line (param_headers (classes_of t) [] (map (param_at t) ks))
      ≡ ◌>>◌ (is_new line row earlier) (◌>>◌ (at_line line (judge_type heads row.ty)) (at_line line behind))
  params-next =
      let rest = ap (map (param_at t)) (drop-cons ks i 0 l) ∙ ap (λ p. p ∷ map (param_at t) (drop (suc i) ks)) tree in
      let first : Bool → Answer Passed = λ b. test (not b) Duplicate in
      sym h.judged ∙ ap (λ ps. at_line line (param_headers (classes_of t) (names_behind t earlier) ps)) rest
      ∙ ap (λ b. at_line line (◌>>◌ (first b) (◌>>◌ (good_type (classes_of t) (written t row.ty)) behind)))
      (among-behind t is.rows.names row.name in'.name earlier h.named)
      ∙ ap (λ g. at_line line (◌>>◌ (first (is_some (lookup (nat_eq row.name) earlier))) (◌>>◌ g behind)))
      (sym (judge_type-good_type t heads is row.ty in'.ty))
      ∙ at_line-then line (first (is_some (lookup (nat_eq row.name) earlier))) (◌>>◌ (judge_type heads row.ty) behind)
      ∙ ap (◌>>◌ (is_new line row earlier)) (at_line-then line (judge_type heads row.ty) behind)

  pub params-repeated : (s : Stop) → FailsAs (is_new line row earlier) s → FailsAs
      (at_line line (param_headers (classes_of t) [] (map (param_at t) ks))) s
  params-repeated s f = FailsAs-same _ _ s params-next (FailsAs-first (is_new line row earlier) _ s f)

  pub params-mistyped : (s : Stop) → is_new line row earlier ≡ Ok tt → FailsAs (at_line line (judge_type heads row.ty)) s →
      FailsAs (at_line line (param_headers (classes_of t) [] (map (param_at t) ks))) s
  params-mistyped s p f =
      FailsAs-same _ _ s params-next (FailsAs-second (is_new line row earlier) _ tt s p
      (FailsAs-first (at_line line (judge_type heads row.ty)) _ s f))

  pub params-step : is_new line row earlier ≡ Ok tt → (ty : Ty) → at_line line (judge_type heads row.ty) ≡ Ok ty →
      ParamsUpTo t line ks (i + 1) (earlier ++ (row.name, ty) ∷ [])
  params-step p ty e = rw add-one (record {
    named = AreNamed-push t earlier row.name ty h.named in'.name;
    judged = rw (names_behind-push t earlier row.name ty) (sym (params-next
        ∙ ap (λ r. ◌>>◌ r (◌>>◌ (at_line line (judge_type heads row.ty)) (at_line line behind))) p
        ∙ ap (λ r. ◌>>◌ r (at_line line behind)) e));
  })
