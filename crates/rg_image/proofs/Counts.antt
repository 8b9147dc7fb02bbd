-- Counts of entries by region, up to two.
use Rattle.std.proofs.Common.{◌≡◌, ℕ, suc, ◌+◌, ◌<◌, min, Bool as Truth, true, false, cond, if◌then◌else◌, List, [], ◌∷◌}
use Rattle.std.proofs.Common.{length, drop, replicate, slice_get, Option, Some, None, sum_by, count_by, refl, sym, ap, ◌∙◌, subst, arith}
use Rattle.std.specs.Prelude.{◌==◌, ◌&&◌, not}
use Rattle.std.specs.List.{list_all, range_with_len}
use Rattle.std.proofs.lemmas.Bool.Decides.{same_from_decides, Decides-eqb, Decides-like}
use Rattle.std.proofs.lemmas.Bool.{eqb-true, false≢true}
use Rattle.std.proofs.lemmas.List.{length-replicate, get_or-replicate}
use Rattle.std.proofs.lemmas.List.Sums.{sum_by-cons}
use Rattle.std.proofs.lemmas.Option.{same_Some, slice_get_within, slice_get-get_or}
use Rattle.rg_base.proofs.Callers.Lists.{drop-here}
use Rattle.rg_base.specs.declared.object.Label.{Label}
use Rattle.rg_base.specs.declared.object.Label.TheVariants.{Region, Temp, Frozen}
use Rattle.rg_base.specs.declared.value.Val.{Val}
use Rattle.rg_base.specs.declared.value.Val.TheVariants.{Obj}
use Rattle.rg_cown.specs.declared.cargo.CargoCell.{CargoCell}
use Rattle.rg_cown.specs.Cargo.{label_of, is_in, leads_into, entries_of, entries, is_entered}
use Rattle.rg_image.specs.Inner.Entries.{Adds, enters, region_in, are_right}

-- one addition behind another
pub adds_then : (old mid new : List ℕ) (f g h : ℕ → ℕ) → ((r : ℕ) → h r ≡ f r + g r) → Adds old mid f → Adds mid new g → Adds old new h
adds_then old mid new f g h sum first second = record {
  even = second.even ∙ first.even;
  each = λ r n there capped.
      second.each r (min (n + f r) 2) (first.each r n there capped) (omega arith) ∙ ap Some (omega (arith, sum r));
}

-- a reference that enters a region

label-is : (l : Option Label) (region : ℕ) → region_in l ≡ Some region → l ≡ Some (Region region)
label-is None region e = absurd cc
label-is (Some (Region r)) region e = ap (λ (z : ℕ). Some (Region z)) (same_Some r region e)
label-is (Some (Temp t)) region e = absurd cc
label-is (Some Frozen) region e = absurd cc

not_true : (b : Truth) → not b ≡ true → b ≡ false
not_true true e = absurd cc
not_true false e = refl

outside : (own same : Truth) → (same ≡ true → own ≡ false) → ◌≡◌ {A = ℕ} (cond same 1 0) (cond own 0 (cond same 1 0))
outside true true h = absurd (false≢true (sym (h refl)))
outside true false h = refl
outside false same h = refl

one-count : (cells : List CargoCell) (r object region : ℕ) → label_of cells object ≡ Some (Region region)
    → cond (region == r) 1 0 ≡ count_by (leads_into cells r) (Obj object ∷ [])
one-count cells r object region e =
    let one = sum_by-cons (λ x. cond (leads_into cells r x) 1 0) (Obj object) [] in
    let here : ◌≡◌ {A = ℕ} (cond (leads_into cells r (Obj object)) 1 0) (cond (region == r) 1 0) = ap (λ l. cond (is_in r l) 1 0) e in
    let none : cond (leads_into cells r (Obj object)) 1 0 + 0 ≡ cond (leads_into cells r (Obj object)) 1 0 = omega arith in
    sym (one ∙ none ∙ here)

entry-is : (cells : List CargoCell) (own : Label) (object region r : ℕ) → label_of cells object ≡ Some (Region region)
    → enters own region ≡ true → cond (region == r) 1 0 ≡ entries_of cells r own (Obj object ∷ [])
entry-is cells (Region q) object region r e t =
    let apart : region == r ≡ true → q == r ≡ false =
    λ s. not_true (q == r) (subst (λ (z : ℕ). not (q == z) ≡ true) (eqb-true region r s) t) in
    outside (q == r) (region == r) apart ∙ ap (λ n. cond (q == r) 0 n) (one-count cells r object region e)
entry-is cells (Temp n) object region r e t = one-count cells r object region e
entry-is cells Frozen object region r e t = absurd cc

pub entry-adds : (cells : List CargoCell) (own : Label) (v : Val) (object region : ℕ) (old new : List ℕ) → v ≡ Obj object
    → region_in (label_of cells object) ≡ Some region → enters own region ≡ true → Adds old new (λ r. if region == r then 1 else 0)
    → Adds old new (λ r. entries_of cells r own (v ∷ []))
entry-adds cells own v object region old new is e t added = record {
  even = added.even;
  each = λ r n at capped.
      added.each r n at capped
      ∙ ap (λ k. Some (min (n + k) 2)) (entry-is cells own object region r (label-is (label_of cells object) region e) t
      ∙ ap (λ (w : Val). entries_of cells r own (w ∷ [])) (sym is));
}

-- one field more
counts-cons : (p : Val → Truth) (v : Val) (vs : List Val) → count_by p (v ∷ vs) ≡ count_by p (v ∷ []) + count_by p vs
counts-cons p v vs = let one = sum_by-cons (λ x. cond (p x) 1 0) v [] in sum_by-cons (λ x. cond (p x) 1 0) v vs ∙ omega (arith, one)

entries-cons : (cells : List CargoCell) (r : ℕ) (own : Label) (v : Val) (vs : List Val)
    → entries_of cells r own (v ∷ vs) ≡ entries_of cells r own (v ∷ []) + entries_of cells r own vs
entries-cons cells r (Region q) v vs = by_own (q == r)
  where
    by_own : (b : Truth) → cond b 0 (count_by (leads_into cells r) (v ∷ vs))
        ≡ cond b 0 (count_by (leads_into cells r) (v ∷ [])) + cond b 0 (count_by (leads_into cells r) vs)
    by_own true = refl
    by_own false = counts-cons (leads_into cells r) v vs
entries-cons cells r (Temp t) v vs = counts-cons (leads_into cells r) v vs
entries-cons cells r Frozen v vs = refl

pub field-next : (cells : List CargoCell) (own : Label) (fields : List Val) (k : ℕ) (v : Val) (old mid : List ℕ)
    → slice_get fields k ≡ Some v → Adds old mid (λ r. entries_of cells r own (v ∷ [])) → (all : List ℕ)
    → Adds mid all (λ r. entries_of cells r own (drop (k + 1) fields)) → Adds old all (λ r. entries_of cells r own (drop k fields))
field-next cells own fields k v old mid there first all second =
    adds_then old mid all (λ r. entries_of cells r own (v ∷ [])) (λ r. entries_of cells r own (drop (k + 1) fields)) _
    (λ r. ap (entries_of cells r own) (drop-here fields k v there) ∙ entries-cons cells r own v (drop (k + 1) fields)) first second

-- one object more
pub cell-next : (cells : List CargoCell) (k : ℕ) (c : CargoCell) (old mid : List ℕ) → slice_get cells k ≡ Some c
    → Adds old mid (λ r. entries_of cells r c.label c.fields) → (all : List ℕ)
    → Adds mid all (λ r. sum_by (λ (x : CargoCell). entries_of cells r x.label x.fields) (drop (k + 1) cells))
    → Adds old all (λ r. sum_by (λ (x : CargoCell). entries_of cells r x.label x.fields) (drop k cells))
cell-next cells k c old mid there first all second =
    adds_then old mid all (λ r. entries_of cells r c.label c.fields)
    (λ r. sum_by (λ (x : CargoCell). entries_of cells r x.label x.fields) (drop (k + 1) cells)) _
    (λ r. ap (sum_by (λ (x : CargoCell). entries_of cells r x.label x.fields)) (drop-here cells k c there)
    ∙ sum_by-cons (λ (x : CargoCell). entries_of cells r x.label x.fields) c (drop (k + 1) cells)) first second

-- Whether counts are right

same_test : (e n : ℕ) (b : Truth) → n ≡ min e 2 → (n == (if b then 0 else 1)) ≡ (e == (if b then 0 else 1))
same_test e n true capped =
    same_from_decides (n == 0) (e == 0) (Decides-eqb n 0)
    (Decides-like (e == 0) (λ same. omega (arith, same, capped)) (λ same. omega (arith, same, capped)) (Decides-eqb e 0))
same_test e n false capped =
    same_from_decides (n == 1) (e == 1) (Decides-eqb n 1)
    (Decides-like (e == 1) (λ same. omega (arith, same, capped)) (λ same. omega (arith, same, capped)) (Decides-eqb e 1))

pub right_are : (cells : List CargoCell) (k : ℕ) (counts : List ℕ)
    → ((r n : ℕ) → slice_get counts r ≡ Some n → n ≡ min (entries cells (k + r)) 2)
    → are_right k counts ≡ list_all (is_entered cells) (range_with_len k (length counts))
right_are cells k [] capped = refl
right_are cells k (n ∷ ns) capped =
    let here : k + 0 ≡ k = omega arith in
    let one : suc k ≡ k + 1 = omega arith in
    let next : (r m : ℕ) → slice_get ns r ≡ Some m → m ≡ min (entries cells ((k + 1) + r)) 2 =
    λ r m there.
    let shifted : k + suc r ≡ (k + 1) + r = omega arith in
    capped (suc r) m there ∙ ap (λ j. min (entries cells j) 2) shifted in
    let first : (n == (if k == 0 then 0 else 1)) ≡ is_entered cells k =
    same_test (entries cells k) n (k == 0) (capped 0 n refl ∙ ap (λ j. min (entries cells j) 2) here) in
    ap (λ b. b && are_right (suc k) ns) first
    ∙ ap (λ b. is_entered cells k && b) (ap (λ j. are_right j ns) one ∙ right_are cells (k + 1) ns next)

-- counts of all entries, where there was none
pub counted-all : (cells : List CargoCell) (old new : List ℕ) (regions : ℕ) → old ≡ replicate regions 0
    → Adds old new (λ r. entries cells r) → (r n : ℕ) → slice_get new r ≡ Some n → n ≡ min (entries cells (0 + r)) 2
counted-all cells old new regions none added r n at =
    let within : r < regions =
    omega (arith, slice_get_within new r n at, added.even, ap length none, length-replicate {A = ℕ} regions 0) in
    let first : slice_get old r ≡ Some 0 =
    ap (λ xs. slice_get xs r) none ∙ slice_get-get_or (replicate regions 0) r 0 (omega (arith, within, length-replicate {A = ℕ} regions 0))
    ∙ ap Some (get_or-replicate regions r 0 0 within) in
    let shifted : 0 + r ≡ r = omega arith in
    let from_none : 0 + entries cells r ≡ entries cells (0 + r) = omega (arith, ap (entries cells) shifted) in
    same_Some n (min (0 + entries cells r) 2) (sym at ∙ added.each r 0 first refl) ∙ ap (λ k. min k 2) from_none
