-- Lines of text, one after another.
use Rattle.std.proofs.Common.{◌≡◌, ℕ, zero, suc, ◌+◌, ◌<◌, ◌≤◌, List, [], ◌∷◌, ◌++◌, length, drop, append_assoc, Some, None, slice_get}
use Rattle.std.proofs.Common.{refl, sym, ap, ◌∙◌, arith}
use Rattle.std.proofs.lemmas.List.{drop_more}
use Rattle.std.proofs.lemmas.Option.{slice_get_within, get_or_from_slice_get}
use Rattle.rg_base.specs.declared.value.Val.{Val}
use Rattle.rg_base.specs.Text.{line_text, text}

pub there : {X : Type 0} → (xs : List X) (k : ℕ) → k < length xs → slice_get xs k ≡ None → ⊥
there [] k l e = omega (arith, l)
there (x ∷ xs) zero l e = cc
there (x ∷ xs) (suc k) l e = there xs k (omega (arith, l)) e

pub drop-at : {X : Type 0} → (xs : List X) (n : ℕ) (x : X) → slice_get xs n ≡ Some x → drop n xs ≡ x ∷ drop (n + 1) xs
drop-at xs n x at = drop_more xs n x (slice_get_within xs n x at) ∙ ap (λ z. z ∷ drop (n + 1) xs) (get_or_from_slice_get xs n x x at)

pub text-next : (vs : List Val) (k : ℕ) (v : Val) (line new all : List ℕ) → slice_get vs k ≡ Some v → line ++ text (drop k vs) ≡ all
    → new ≡ line ++ line_text v → new ++ text (drop (k + 1) vs) ≡ all
text-next vs k v line new all at h more =
    ap (λ z. z ++ text (drop (k + 1) vs)) more ∙ append_assoc line (line_text v) (text (drop (k + 1) vs))
    ∙ ap (λ z. line ++ text z) (sym (drop-at vs k v at)) ∙ h

pub right-nil : (xs : List ℕ) → xs ++ [] ≡ xs
right-nil [] = refl
right-nil (x ∷ xs) = ap (λ z. x ∷ z) (right-nil xs)

pub drop-past : {X : Type 0} → (xs : List X) (k : ℕ) → length xs ≤ k → drop k xs ≡ []
drop-past [] zero l = refl
drop-past [] (suc k) l = refl
drop-past (x ∷ xs) zero l = absurd (omega (arith, l))
drop-past (x ∷ xs) (suc k) l = drop-past xs k (omega (arith, l))

pub text-end : (vs : List Val) (k : ℕ) (line all : List ℕ) → length vs ≤ k → line ++ text (drop k vs) ≡ all → line ≡ all
text-end vs k line all past h = sym (right-nil line) ∙ ap (λ z. line ++ text z) (sym (drop-past vs k past)) ∙ h
