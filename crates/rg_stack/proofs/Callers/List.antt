-- Tests over lists, and over the numbers below one.
use Rattle.std.proofs.Common.{◌≡◌, ◌⊎◌, inl, inr, ℕ, zero, suc, ◌<◌, Bool as Truth, true, false, true≢false, ◌&&◌, ◌||◌, List, [], ◌∷◌, ◌++◌}
use Rattle.std.proofs.Common.{Some, slice_get, replicate, refl, sym, ap, ◌∙◌, arith, map}
use Rattle.std.proofs.lemmas.Option.{same_Some}
use Rattle.std.specs.List.{list_any}
use Rattle.rg_base.specs.declared.value.Val.{Val}
use Rattle.rg_base.specs.declared.value.Val.TheVariants as val
use Rattle.rg_rules.specs.State.{Local}
use Rattle.rg_sound.proofs.Basics.{none-some}
use Rattle.rg_stack.specs.Needs.{all_below, is_empty}

-- no element passes
pub none-passes : {A : Type 0} (test : A → Truth) (xs : List A) → ((i : ℕ) (x : A) → slice_get xs i ≡ Some x → test x ≡ false) →
    list_any test xs ≡ false
none-passes test [] h = refl
none-passes test (x ∷ xs) h = ap (λ b. b || list_any test xs) (h 0 x refl) ∙ none-passes test xs (λ i y e. h (suc i) y e)

-- what would pass isn't there
pub refused : {A : Type 0} (test : A → Truth) (x : A) → (test x ≡ true → ⊥) → test x ≡ false
refused test x never = by (test x) refl
  where
    by : (b : Truth) → test x ≡ b → b ≡ false
    by true e = absurd (never e)
    by false e = refl

-- a test holds of each number below
pub all_below-each : (n : ℕ) (test : ℕ → Truth) → ((k : ℕ) → k < n → test k ≡ true) → all_below n test ≡ true
all_below-each zero test h = refl
all_below-each (suc n) test h =
    ap (λ b. b && all_below n test) (h n (omega arith)) ∙ all_below-each n test (λ k l. h k (omega (arith, l)))

-- nils

pub get-nils : (k i : ℕ) (v : Val) → slice_get (replicate k val.Nil) i ≡ Some v → v ≡ val.Nil
get-nils zero i v e = none-some e
get-nils (suc k) zero v e = sym (same_Some val.Nil v e)
get-nils (suc k) (suc i) v e = get-nils k i v e

-- a slot that isn't nil shows a variable
pub record AtLocal (locals : List Local) (i : ℕ) (v : Val) : Type 0 where
  pub local : Local
  pub there : slice_get locals i ≡ Some local
  pub value : local.value ≡ v

pub slot-local : (locals : List Local) (k i : ℕ) (v : Val) →
    slice_get (map (λ (l : Local). l.value) locals ++ replicate k val.Nil) i ≡ Some v → (v ≡ val.Nil) ⊎ AtLocal locals i v
slot-local [] k i v e = inl (get-nils k i v e)
slot-local (l ∷ ls) k zero v e = inr (record { local = l; there = refl; value = same_Some l.value v e })
slot-local (l ∷ ls) k (suc i) v e = elim (slot-local ls k i v e) [
  | inl n ↦ inl n
  | inr h ↦ inr (record { local = h.local; there = h.there; value = h.value })
]

-- nothing is on the stack
pub empty-is : (stack : List Val) → is_empty stack ≡ true → stack ≡ []
empty-is [] e = refl
empty-is (v ∷ vs) e = absurd (true≢false (sym e))
