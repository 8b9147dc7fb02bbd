-- Names that are each new behind the earlier ones: no two of them are one.
use Rattle.std.proofs.Common.{◌≡◌, ◌≢◌, zero, suc, Bool as Truth, true, false, cond, is_some, List, [], ◌∷◌, All, find, slice_index_or, Some}
use Rattle.std.proofs.Common.{bytes_eq, refl, sym, ap, ◌∙◌, true≢false, arith}
use Rattle.std.specs.Prelude.{⊤}
use Rattle.std.proofs.lemmas.List.Elements.{All-nil, All-cons, All-head, All-tail}
use Rattle.std.proofs.lemmas.List.Kept.{AllPairs-cons}
use Rattle.std.proofs.lemmas.Slice.Eq.{bytes_eq-Decides}
use Rattle.rg_tree.specs.Tree.{Name}
use Rattle.rg_tree.specs.Rows.Tables.{AreDistinct}
use Rattle.rg_rules.specs.Headers.{among}
use Rattle.rg_names.proofs.MembersFound.{among-later, among-here}

-- each name is new behind the earlier ones
abbrev pub AreNew : (earlier names : List Name) → Type 0
AreNew earlier [] = ⊤
AreNew earlier (x ∷ xs) = (among x earlier ≡ false) × AreNew (x ∷ earlier) xs

-- a name among earlier ones is none of the new ones
new-apart : (earlier xs : List Name) (y : Name) → AreNew earlier xs → among y earlier ≡ true → All (λ x. y ≢ x) xs
new-apart earlier [] y h a = All-nil (λ x. y ≢ x)
new-apart earlier (x ∷ xs) y h a =
    All-cons (λ x. y ≢ x) x xs (λ e. true≢false (sym a ∙ ap (λ z. among z earlier) e ∙ h.0))
    (new-apart (x ∷ earlier) xs y h.1 (among-later y x earlier a))

-- new names differ
pub AreNew-AreDistinct : (earlier xs : List Name) → AreNew earlier xs → AreDistinct xs
AreNew-AreDistinct earlier [] h = λ i j d l within. absurd (omega arith)
AreNew-AreDistinct earlier (x ∷ xs) h =
    AllPairs-cons (λ a b. a ≢ b) x xs (new-apart (x ∷ earlier) xs x h.1 (among-here x x earlier ((bytes_eq-Decides x x).1 refl)))
    (AreNew-AreDistinct (x ∷ earlier) xs h.1)

-- a name that differs from all earlier ones is new
among-none : (x : Name) (earlier : List Name) → All (λ y. x ≢ y) earlier → among x earlier ≡ false
among-none x [] a = refl
among-none x (y ∷ ys) a = by (bytes_eq x y) refl (among-none x ys (All-tail (λ z. x ≢ z) y ys a))
  where
    by : (b : Truth) → bytes_eq x y ≡ b → among x ys ≡ false → is_some (cond b (Some y) (find (bytes_eq x) ys)) ≡ false
    by true e none = absurd (All-head (λ z. x ≢ z) y ys a ((bytes_eq-Decides x y).0 e))
    by false e none = none

-- each of these names differs from each earlier one
abbrev AreApart : (earlier names : List Name) → Type 0
AreApart earlier names = All (λ x. All (λ y. x ≢ y) earlier) names

apart-tail : (earlier : List Name) (x : Name) (xs : List Name) → AreDistinct (x ∷ xs) → AreApart earlier (x ∷ xs) → AreApart (x ∷ earlier) xs
apart-tail earlier x xs d a k z l =
    All-cons (λ y. slice_index_or xs k z ≢ y) x earlier (λ e. d zero (suc k) z (omega arith) (omega arith) (sym e))
    (a (suc k) z (omega arith))

distinct-tail : (x : Name) (xs : List Name) → AreDistinct (x ∷ xs) → AreDistinct xs
distinct-tail x xs d i j z l within = d (suc i) (suc j) z (omega arith) (omega arith)

-- names that differ, from each other and from the earlier ones, are new
AreDistinct-AreNew-behind : (earlier xs : List Name) → AreApart earlier xs → AreDistinct xs → AreNew earlier xs
AreDistinct-AreNew-behind earlier [] a d = tt
AreDistinct-AreNew-behind earlier (x ∷ xs) a d = (
  among-none x earlier (All-head (λ z. All (λ y. z ≢ y) earlier) x xs a),
  AreDistinct-AreNew-behind (x ∷ earlier) xs (apart-tail earlier x xs d a) (distinct-tail x xs d),
)

-- names that differ are new
pub AreDistinct-AreNew : (xs : List Name) → AreDistinct xs → AreNew [] xs
AreDistinct-AreNew xs d = AreDistinct-AreNew-behind [] xs (λ k z l. All-nil (λ y. slice_index_or xs k z ≢ y)) d
