-- Numbers that are given one behind the other, where the last one that was given is kept.
use Rattle.std.proofs.Common.{◌≡◌, ℕ, zero, suc, ◌+◌, ◌≤◌, true, List, [], ◌∷◌, length, drop}
use Rattle.std.proofs.Common.{slice_get, Some, None, option_and_then, refl, sym, ap, subst, ◌∙◌}
use Rattle.std.proofs.lemmas.Bool.{eqb-true}
use Rattle.std.proofs.lemmas.List.{drop_all}
use Rattle.rg_base.proofs.Callers.Lists.{drop-here}
use Rattle.rg_base.specs.declared.object.Label.{Label}
use Rattle.rg_base.specs.declared.object.Label.TheVariants.{Region, Temp, Frozen}
use Rattle.rg_base.specs.declared.value.Val.{Val}
use Rattle.rg_cown.specs.declared.cargo.CargoCell.{CargoCell}
use Rattle.rg_cown.specs.Cargo.{label_of, is_in, named, named_by, named_in, region_named, regions_named}

-- one value more
pub in-next : (fields : List Val) (k last next : ℕ) (v : Val) → slice_get fields k ≡ Some v → named_by (suc last) v ≡ Some (suc next)
    → named_in (suc last) (drop k fields) ≡ named_in (suc next) (drop (k + 1) fields)
in-next fields k last next v there e =
    ap (named_in (suc last)) (drop-here fields k v there) ∙ ap (λ o. option_and_then (λ m. named_in m (drop (k + 1) fields)) o) e

-- a value that passes a number over
pub in-stops : (fields : List Val) (k last : ℕ) (v : Val) → slice_get fields k ≡ Some v → named_by (suc last) v ≡ None
    → named_in (suc last) (drop k fields) ≡ None
in-stops fields k last v there e =
    ap (named_in (suc last)) (drop-here fields k v there) ∙ ap (λ o. option_and_then (λ m. named_in m (drop (k + 1) fields)) o) e

-- no value behind a place
pub no-more : (fields : List Val) (k last : ℕ) → length fields ≤ k → Some (suc last) ≡ named_in (suc last) (drop k fields)
no-more fields k last past = sym (ap (named_in (suc last)) (drop_all k fields past))

-- no value at a place
pub none-there : (fields : List Val) (k last : ℕ) → slice_get fields k ≡ None → Some (suc last) ≡ named_in (suc last) (drop k fields)
none-there [] zero last e = refl
none-there [] (suc k) last e = refl
none-there (v ∷ fields) zero last e = absurd cc
none-there (v ∷ fields) (suc k) last e = none-there fields k last e

-- one value behind a place
pub last-one : (fields : List Val) (k last next : ℕ) (v : Val) → length fields ≤ k + 1 → slice_get fields k ≡ Some v
    → named_by (suc last) v ≡ Some (suc next) → Some (suc next) ≡ named_in (suc last) (drop k fields)
last-one fields k last next v past there e = no-more fields (k + 1) next past ∙ sym (in-next fields k last next v there e)

-- region 0 is numbered from the start, where the first object lies in it
first_region : (l : Label) → is_in 0 (Some l) ≡ true → region_named 1 l ≡ region_named 0 l
first_region (Region r) e = subst (λ (z : ℕ). named 1 z ≡ named 0 z) (sym (eqb-true r 0 e)) refl
first_region (Temp t) e = absurd cc
first_region Frozen e = absurd cc

pub regions-start : (cells : List CargoCell) → is_in 0 (label_of cells 0) ≡ true → regions_named 1 cells ≡ regions_named 0 cells
regions-start [] e = absurd cc
regions-start (c ∷ cs) e = ap (λ o. option_and_then (λ m. regions_named m cs) o) (first_region c.label e)
