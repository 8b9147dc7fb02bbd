-- Where a name stands among classes.
use Rattle.std.proofs.Common.{◌≡◌, ℕ, suc, ◌+◌, ◌<◌, Bool, true, false, cond, not, List, [], ◌∷◌, map, length, Option, None, Some, option_map}
use Rattle.std.proofs.Common.{position, slice_get, nat_eq, refl, sym, ap, ◌∙◌, arith}
use Rattle.std.specs.List.{position_or_len}
use Rattle.std.specs.Map.{lookup, keys_of}
use Rattle.std.proofs.lemmas.Bool.Decides.{nat_tests}
use Rattle.std.proofs.lemmas.Option.{slice_get-map}
use Rattle.rg_tree.specs.declared.rows.ClassRow.{ClassRow}
use Rattle.rg_tree.specs.Tree.{Class}
use Rattle.rg_tree.specs.Rows.Tables.{Tables, name_at}
use Rattle.rg_tree.specs.Rows.RowTrees.{class_of, classes_of}
use Rattle.rg_rules.specs.Types.{class_named}
use Rattle.rg_names.specs.Table.{values_of}
use Rattle.rg_names.specs.Inner.Headings.{IsHeadsOf}
use Rattle.rg_names.specs.TreeAnswers.{class_place}
use Rattle.rg_names.proofs.TypeFacts.{head_of, lookup-heads_of, position-heads_of}

module _ {V : Type 0} (p : ℕ → Bool) where
  place-found : (es : List (ℕ × V)) (v : V) → lookup p es ≡ Some v → position_or_len p (keys_of es) < length (keys_of es)
  place-found [] v h = grind arith
  place-found (e ∷ es) v h = by (p e.0) h (place-found es v)
    where
      by : (b : Bool) → cond b (Some e.1) (lookup p es) ≡ Some v → (lookup p es ≡ Some v → position_or_len p (keys_of es) < length (keys_of es)) →
          cond (not b) (1 + position_or_len p (keys_of es)) 0 < suc (length (keys_of es))
      by true e rest = omega arith
      by false e rest = let l : position_or_len p (keys_of es) < length (keys_of es) = rest e in omega arith

  place-none : (es : List (ℕ × V)) → lookup p es ≡ None → position_or_len p (keys_of es) ≡ length (keys_of es)
  place-none [] h = refl
  place-none (e ∷ es) h = by (p e.0) h (place-none es)
    where
      by : (b : Bool) → cond b (Some e.1) (lookup p es) ≡ None → (lookup p es ≡ None → position_or_len p (keys_of es) ≡ length (keys_of es)) →
          cond (not b) (1 + position_or_len p (keys_of es)) 0 ≡ suc (length (keys_of es))
      by true e rest = grind arith
      by false e rest = let l : position_or_len p (keys_of es) ≡ length (keys_of es) = rest e in omega arith

  -- a name's place is there where the name is
  pub position-lookup : (es : List (ℕ × V)) → position p (keys_of es) ≡ option_map (λ v. position_or_len p (keys_of es)) (lookup p es)
  position-lookup es = by (lookup p es) refl
    where
      by : (o : Option V) → lookup p es ≡ o → position p (keys_of es) ≡ option_map (λ v. position_or_len p (keys_of es)) o
      by None h = let l : position_or_len p (keys_of es) ≡ length (keys_of es) = place-none es h in grind (arith, nat_tests)
      by (Some v) h = let l : position_or_len p (keys_of es) < length (keys_of es) = place-found es v h in grind (arith, nat_tests)

same_place : (k : ℕ) (o : Option Class) → option_map (λ b. k) (option_map (λ c. c.is_tmp) o) ≡ option_map (λ c. k) o
same_place k None = refl
same_place k (Some c) = refl

-- the class of a name is that of its bytes
pub class-place : (t : Tables) (heads : List (ℕ × Bool)) → IsHeadsOf t heads → (n : ℕ) → n < length t.names →
    position (nat_eq n) (keys_of heads) ≡ class_place (classes_of t) (name_at t n)
class-place t heads h n l =
    position-lookup (nat_eq n) heads
    ∙ ap (option_map (λ b. position_or_len (nat_eq n) (keys_of heads))) (lookup-heads_of t heads h n l)
    ∙ same_place (position_or_len (nat_eq n) (keys_of heads)) (class_named (classes_of t) (name_at t n))
    ∙ ap (λ k. option_map (λ c. k) (class_named (classes_of t) (name_at t n))) (position-heads_of t heads h n l)

same_kind : (t : Tables) (o : Option ClassRow) →
    option_map (λ c. c.is_tmp) (option_map (class_of t) o) ≡ option_map (λ e. e.1) (option_map head_of o)
same_kind t None = refl
same_kind t (Some c) = refl

-- whether a class is a tmp class is what the tree says
pub class-is_tmp : (t : Tables) (heads : List (ℕ × Bool)) → IsHeadsOf t heads → (k : ℕ) (b : Bool) → slice_get (values_of heads) k ≡ Some b →
    option_map (λ c. c.is_tmp) (slice_get (classes_of t) k) ≡ Some b
unfolding classes_of
class-is_tmp t heads h k b e =
    ap (option_map (λ c. c.is_tmp)) (slice_get-map (class_of t) t.classes k) ∙ same_kind t (slice_get t.classes k)
    ∙ sym (ap (option_map (λ (e : ℕ × Bool). e.1)) (slice_get-map head_of t.classes k))
    ∙ sym (slice_get-map (λ (e : ℕ × Bool). e.1) (map head_of t.classes) k)
    ∙ ap (λ hs. slice_get (values_of hs) k) (sym h.heads_are) ∙ e
