-- What is left of a list, and pieces of code one behind another.
use Rattle.std.proofs.Common.{◌≡◌, ℕ, zero, suc, ◌+◌, ◌≤◌, List, [], ◌∷◌, ◌++◌, length, drop, slice_get, Some}
use Rattle.std.proofs.Common.{refl, sym, ap, ◌∙◌, append_assoc, arith}
use Rattle.std.proofs.lemmas.List.{drop-drop, length-append, length-drop}
use Rattle.rg_code.specs.declared.op.Op.{Op}
use Rattle.rg_verify_expressions.specs.Blocks.{Piece}

-- what is left of a list begins with the element at its number
pub drop-is : {X : Type 0} (xs : List X) (n : ℕ) (x : X) (ys : List X) → drop n xs ≡ x ∷ ys → slice_get xs n ≡ Some x
drop-is [] zero x ys h = absurd cc
drop-is [] (suc n) x ys h = absurd cc
drop-is (z ∷ zs) zero x ys h = cc
drop-is (z ∷ zs) (suc n) x ys h = drop-is zs n x ys h

-- and what is left behind that
pub drop-next : {X : Type 0} (xs : List X) (n : ℕ) (x : X) (ys : List X) → drop n xs ≡ x ∷ ys → drop (suc n) xs ≡ ys
drop-next [] zero x ys h = absurd cc
drop-next [] (suc n) x ys h = absurd cc
drop-next (z ∷ zs) zero x ys h = cc
drop-next (z ∷ zs) (suc n) x ys h = drop-next zs n x ys h

drop-front : (xs ys : List Op) → drop (length xs) (xs ++ ys) ≡ ys
drop-front [] ys = refl
drop-front (x ∷ xs) ys = drop-front xs ys

module _ (ops : List Op) where
  -- what stands behind the beginning of what is left
  pub behind-front : (at : ℕ) (x y : List Op) → drop at ops ≡ x ++ y → drop (at + length x) ops ≡ y
  behind-front at x y h = sym (drop-drop (length x) at ops) ∙ ap (drop (length x)) h ∙ drop-front x y

  pub piece-front : (at : ℕ) (x y : List Op) → drop at ops ≡ x ++ y → Piece ops at x (at + length x)
  piece-front at x y h = record { parts = h ∙ ap (λ (os : List Op). x ++ os) (sym (behind-front at x y h)); place = refl }

  -- it lies within the whole
  pub within-front : (at : ℕ) (x y : List Op) → at ≤ length ops → drop at ops ≡ x ++ y → at + length x ≤ length ops
  within-front at x y le h = omega (arith, le, length-drop at ops, ap length h, length-append x y)

  -- two pieces are one, and one is two
  pub piece-then : {at mid end : ℕ} {x y : List Op} → Piece ops at x mid → Piece ops mid y end → Piece ops at (x ++ y) end
  piece-then {end = end} {x = x} {y = y} p q = record {
    parts = p.parts ∙ ap (λ (os : List Op). x ++ os) q.parts ∙ sym (append_assoc x y (drop end ops));
    place = omega (arith, p.place, q.place, length-append x y);
  }

  pub piece-parts : (at end : ℕ) (x y : List Op) → Piece ops at (x ++ y) end → Piece ops at x (at + length x) × Piece ops (at + length x) y end
  piece-parts at end x y p =
      let whole : drop at ops ≡ x ++ (y ++ drop end ops) = p.parts ∙ append_assoc x y (drop end ops) in (
        piece-front at x (y ++ drop end ops) whole,
        record { parts = behind-front at x (y ++ drop end ops) whole; place = omega (arith, p.place, length-append x y) },
      )
