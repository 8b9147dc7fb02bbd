-- One pass over the objects is each of its tests.
use Rattle.std.proofs.Common.{◌≡◌, ℕ, suc, ◌+◌, ◌≤◌, length, Bool as Truth, true, false, if◌then◌else◌, ◌&&◌, List, [], ◌∷◌, drop, Option, Some, None, slice_get}
use Rattle.std.proofs.Common.{option_and_then, refl, sym, ap, ◌∙◌, arith}
use Rattle.std.specs.Prelude.{nat_lt, nat_eq}
use Rattle.std.specs.List.{list_all}
use Rattle.std.proofs.lemmas.List.{drop_all}
use Rattle.rg_base.proofs.Callers.Lists.{drop-here}
use Rattle.rg_cown.specs.declared.cargo.CargoCell.{CargoCell}
use Rattle.rg_cown.specs.Cargo.{named_in, named_from, region_named, regions_named, frozen_fits, comes_to, is_in, label_of}
use Rattle.rg_typed.proofs.OneByOne.{and_false}
use Rattle.rg_image.proofs.NumbersGiven.{regions-start}
use Rattle.rg_image.specs.Inner.Order.{pass, passes, come_to}

-- one object more
pub pass-next : (cells : List CargoCell) (k n m a b : ℕ) (c : CargoCell) → slice_get cells k ≡ Some c → pass cells k n m c ≡ Some (a, b)
    → passes cells k n m (drop k cells) ≡ passes cells (k + 1) a b (drop (k + 1) cells)
pass-next cells k n m a b c there e =
    ap (passes cells k n m) (drop-here cells k c there)
    ∙ ap (λ o. option_and_then (λ (p : ℕ × ℕ). passes cells (suc k) p.0 p.1 (drop (k + 1) cells)) o) e
    ∙ ap (λ (j : ℕ). passes cells j a b (drop (k + 1) cells)) on
  where
    on : suc k ≡ k + 1
    on = omega arith

-- one that isn't passed
pub pass-stops : (cells : List CargoCell) (k n m : ℕ) (c : CargoCell) → slice_get cells k ≡ Some c → pass cells k n m c ≡ None
    → passes cells k n m (drop k cells) ≡ None
pass-stops cells k n m c there e =
    ap (passes cells k n m) (drop-here cells k c there)
    ∙ ap (λ o. option_and_then (λ (p : ℕ × ℕ). passes cells (suc k) p.0 p.1 (drop (k + 1) cells)) o) e

and_true : (x y : Truth) → (x && y) ≡ (x && y && true)
and_true true true = refl
and_true true false = refl
and_true false y = refl

false_between : (x z : Truth) → false ≡ (x && false && z)
false_between true z = refl
false_between false z = refl

pub joined : (x y z w : Truth) → (x && y && z && w) ≡ ((x && y && z) && w)
joined false y z w = refl
joined true false z w = refl
joined true true false w = refl
joined true true true w = refl

module _ (o r : ℕ) where
  -- one object more, by what is found of it
  one : (early : Truth) (objects regions : Option ℕ) (frozen : Truth) (f g : ℕ → Option ℕ) (rest : Truth) (go : ℕ → ℕ → Option (ℕ × ℕ))
      → ((a b : ℕ) → come_to o r (go a b) ≡ (comes_to o (f a) && comes_to r (g b) && rest))
      → come_to o r (option_and_then (λ (p : ℕ × ℕ). go p.0 p.1)
      (if early then option_and_then (λ a. option_and_then (λ b. if frozen then Some (a, b) else None) regions) objects else None))
      ≡ (comes_to o (if early then option_and_then f objects else None) && comes_to r (option_and_then g regions) && (frozen && rest))
  one false objects regions frozen f g rest go h = refl
  one true None regions frozen f g rest go h = refl
  one true (Some a) None frozen f g rest go h = false_between (comes_to o (f a)) (frozen && rest)
  one true (Some a) (Some b) false f g rest go h = sym (and_false (comes_to o (f a)) (comes_to r (g b)))
  one true (Some a) (Some b) true f g rest go h = h a b

  passes-are : (cells : List CargoCell) (k n m : ℕ) (cs : List CargoCell)
      → come_to o r (passes cells k n m cs)
      ≡ (comes_to o (named_from k n cs) && comes_to r (regions_named m cs)
      && list_all (λ (x : CargoCell). frozen_fits cells x.label x.fields) cs)
  passes-are cells k n m [] = and_true (nat_eq n o) (nat_eq m r)
  passes-are cells k n m (c ∷ cs) =
      one (nat_lt k n) (named_in n c.fields) (region_named m c.label) (frozen_fits cells c.label c.fields)
      (λ a. named_from (suc k) a cs) (λ b. regions_named b cs) (list_all (λ (x : CargoCell). frozen_fits cells x.label x.fields) cs)
      (λ a b. passes cells (suc k) a b cs) (λ a b. passes-are cells (suc k) a b cs)

-- behind the last object
pub none-left : (cells : List CargoCell) (k n m : ℕ) → length cells ≤ k → passes cells k n m (drop k cells) ≡ Some (n, m)
none-left cells k n m past = ap (passes cells k n m) (drop_all k cells past)

-- the tests of all objects, where the first one is in region 0
pub all-are : (cells : List CargoCell) (r : ℕ) → is_in 0 (label_of cells 0) ≡ true
    → come_to (length cells) r (passes cells 0 1 1 cells)
    ≡ (comes_to (length cells) (named_from 0 1 cells) && comes_to r (regions_named 0 cells)
    && list_all (λ (x : CargoCell). frozen_fits cells x.label x.fields) cells)
all-are cells r e =
    passes-are (length cells) r cells 0 1 1 cells
    ∙ ap (λ (o : Option ℕ). comes_to (length cells) (named_from 0 1 cells) && comes_to r o
    && list_all (λ (x : CargoCell). frozen_fits cells x.label x.fields) cells) (regions-start cells e)
