-- A content of one region is entered by no field: what isn't frozen is in that region.
use Rattle.std.proofs.Common.{◌≡◌, ℕ, suc, Bool as Truth, true, false, ◌&&◌, if◌then◌else◌, List, [], ◌∷◌, length, Some, None, option_and_then}
use Rattle.std.proofs.Common.{sum_by, refl, sym, ap, ◌∙◌, subst, arith}
use Rattle.std.specs.Prelude.{◌==◌, nat_lt}
use Rattle.std.specs.List.{list_all, range_with_len}
use Rattle.std.proofs.lemmas.Bool.{eqb-true, false≢true}
use Rattle.std.proofs.lemmas.Bool.Decides.{nat_tests}
use Rattle.std.proofs.lemmas.List.Sums.{sum_by-cons}
use Rattle.rg_base.specs.declared.object.Label.{Label}
use Rattle.rg_base.specs.declared.object.Label.TheVariants.{Region, Temp, Frozen}
use Rattle.rg_base.specs.declared.value.Val.{Val}
use Rattle.rg_base.specs.declared.words.Manager.{Manager}
use Rattle.rg_cown.specs.declared.cargo.CargoCell.{CargoCell}
use Rattle.rg_cown.specs.Cargo.{label_of, is_in, region_named, regions_named, entries_of, is_entered, comes_to, named_from, frozen_fits, CargoList, is_sound}
use Rattle.rg_image.proofs.NumbersGiven.{regions-start}
use Rattle.rg_image.proofs.InOrder.{joined}

-- behind two regions there are never fewer
two-named : (n : ℕ) (l : Label) (cs : List CargoCell) → ((k : ℕ) → comes_to 1 (regions_named (suc (suc k)) cs) ≡ true → ⊥)
    → comes_to 1 (option_and_then (λ m. regions_named m cs) (region_named (suc (suc n)) l)) ≡ true → ⊥
two-named n (Region r) cs never e = by (nat_lt r (suc (suc n))) (r == suc (suc n)) e
  where
    by : (a b : Truth)
        → comes_to 1 (option_and_then (λ m. regions_named m cs) (if a then Some (suc (suc n)) else (if b then Some (suc (suc (suc n))) else None))) ≡ true
        → ⊥
    by true b e = never n e
    by false true e = never (suc n) e
    by false false e = false≢true e
two-named n (Temp t) cs never e = false≢true e
two-named n Frozen cs never e = never n e

two : (n : ℕ) → suc (suc n) == 1 ≡ true → ⊥
two n e = omega (arith, eqb-true (suc (suc n)) 1 e)

never-fewer : (cs : List CargoCell) (n : ℕ) → comes_to 1 (regions_named (suc (suc n)) cs) ≡ true → ⊥
never-fewer [] n e = two n e
never-fewer (c ∷ cs) n e = two-named n c.label cs (never-fewer cs) e

-- an object of one region alone, and those behind it
first : (cells : List CargoCell) (l : Label) (vs : List Val) (cs : List CargoCell)
    → comes_to 1 (option_and_then (λ m. regions_named m cs) (region_named 1 l)) ≡ true
    → (entries_of cells 0 l vs ≡ 0) × (comes_to 1 (regions_named 1 cs) ≡ true)
first cells (Region r) vs cs e = by (nat_lt r 1) (r == 1) refl e
  where
    by : (a b : Truth) → nat_lt r 1 ≡ a
        → comes_to 1 (option_and_then (λ m. regions_named m cs) (if a then Some 1 else (if b then Some 2 else None))) ≡ true
        → (entries_of cells 0 (Region r) vs ≡ 0) × (comes_to 1 (regions_named 1 cs) ≡ true)
    by true b t e =
        let none : r ≡ 0 = grind (arith, nat_tests, t) in
        (ap (λ (z : ℕ). entries_of cells 0 (Region z) vs) none, e)
    by false true t e = absurd (never-fewer cs 0 e)
    by false false t e = absurd (false≢true e)
first cells (Temp t) vs cs e = absurd (false≢true e)
first cells Frozen vs cs e = (refl, e)

no-entries : (cells cs : List CargoCell) → comes_to 1 (regions_named 1 cs) ≡ true
    → sum_by (λ (c : CargoCell). entries_of cells 0 c.label c.fields) cs ≡ 0
no-entries cells [] e = refl
no-entries cells (c ∷ cs) e =
    let here = first cells c.label c.fields cs e in
    let rest = no-entries cells cs here.1 in
    sum_by-cons (λ (x : CargoCell). entries_of cells 0 x.label x.fields) c cs ∙ omega (arith, here.0, rest)

entered-alone : (cells : List CargoCell) → is_in 0 (label_of cells 0) ≡ true → comes_to 1 (regions_named 0 cells) ≡ true
    → list_all (is_entered cells) (range_with_len 0 1) ≡ true
entered-alone cells start e =
    let none = no-entries cells cells (ap (comes_to 1) (regions-start cells start) ∙ e) in
    ap (λ (n : ℕ). (n == 0) && true) none

middle : (x y z : Truth) → true ≡ (x && y && z) → y ≡ true
middle true true true e = refl
middle true true false e = absurd (false≢true (sym e))
middle true false z e = absurd (false≢true (sym e))
middle false y z e = absurd (false≢true (sym e))

-- all tests, where the pass over the objects has passed
all-alone : (cells : List CargoCell) (regions : ℕ) → regions ≡ 1 → is_in 0 (label_of cells 0) ≡ true
    → true ≡ (comes_to (length cells) (named_from 0 1 cells) && comes_to regions (regions_named 0 cells)
    && list_all (λ (x : CargoCell). frozen_fits cells x.label x.fields) cells)
    → true ≡ (is_in 0 (label_of cells 0) && comes_to (length cells) (named_from 0 1 cells) && comes_to regions (regions_named 0 cells)
    && list_all (λ (x : CargoCell). frozen_fits cells x.label x.fields) cells
    && list_all (is_entered cells) (range_with_len 0 regions))
all-alone cells regions one start passed =
    let named : Truth = comes_to (length cells) (named_from 0 1 cells) in
    let regioned : Truth = comes_to regions (regions_named 0 cells) in
    let frozen : Truth = list_all (λ (x : CargoCell). frozen_fits cells x.label x.fields) cells in
    let entered : Truth = list_all (is_entered cells) (range_with_len 0 regions) in
    let here : comes_to 1 (regions_named 0 cells) ≡ true =
    subst (λ (n : ℕ). comes_to n (regions_named 0 cells) ≡ true) one (middle named regioned frozen passed) in
    let alone : list_all (is_entered cells) (range_with_len 0 regions) ≡ true =
    subst (λ (n : ℕ). list_all (is_entered cells) (range_with_len 0 n) ≡ true) (sym one) (entered-alone cells start here) in
    sym (ap (λ (b : Truth). b && named && regioned && frozen && entered) start ∙ joined named regioned frozen entered
    ∙ ap (λ (b : Truth). b && entered) (sym passed) ∙ alone)

pub sound-alone : (c : CargoList) (cells : List CargoCell) (managers : List Manager) → cells ≡ c.cells → managers ≡ c.managers
    → length managers == 1 ≡ true → is_in 0 (label_of cells 0) ≡ true
    → true ≡ (comes_to (length cells) (named_from 0 1 cells) && comes_to (length managers) (regions_named 0 cells)
    && list_all (λ (x : CargoCell). frozen_fits cells x.label x.fields) cells)
    → true ≡ is_sound c
sound-alone c cells managers same_cells same_managers one start passed =
    subst (λ (ms : List Manager). true ≡ is_sound (record { cells = c.cells; managers = ms })) same_managers
    (subst (λ (xs : List CargoCell). true ≡ is_sound (record { cells = xs; managers = managers })) same_cells
    (all-alone cells (length managers) (eqb-true (length managers) 1 one) start passed))
