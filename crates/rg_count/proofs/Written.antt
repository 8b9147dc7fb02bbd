-- Counts where a field is written or a cell is made; what the heap's own calls need beside `added` and `removed`.
use Rattle.std.proofs.Common.{◌≡◌, ℕ, ◌+◌, ◌<◌, ◌≤◌, zero, suc, Bool, true, false, cond, List, [], ◌∷◌, length, Option}
use Rattle.std.proofs.Common.{Some, None, set, refl, ap, sym, ◌∙◌, arith, inl, inr, slice_get, count_by, option_map}
use Rattle.std.proofs.Common.{option_and_then}
use Rattle.std.proofs.lemmas.List.Sums.{sum_by-cons, count_by-le-length}
use Rattle.std.proofs.lemmas.Bool.{cases_eq}
use Rattle.std.proofs.lemmas.Option.{same_Some}
use Rattle.rg_base.specs.declared.object.Label.TheVariants.{Region}
use Rattle.rg_cells.specs.declared.cell.Body.{Body}
use Rattle.rg_base.specs.declared.value.Word.{Word}
use Rattle.rg_cells.specs.Table.{Heap, Table, body_at, body_in, field_at, field_total, total, width, with_field}
use Rattle.rg_cells.specs.Table.{with_body, Made}
use Rattle.rg_regions.proofs.Callers.Freed.{lies_within}
use Rattle.rg_regions.specs.Reach.{LiesIn, belongs}
use Rattle.rg_regions.specs.Grove.{leads_to, referrers}
use Rattle.rg_regions.proofs.Callers.Fewer.{lies_belongs}
use Rattle.rg_count.specs.Inner.Counting.{weight}
use Rattle.rg_count.proofs.CountsLowered.{referrers-total}
use Rattle.rg_regions.proofs.Callers.Shares.{share}
use Rattle.rg_regions.proofs.Callers.Fewer.{total_alike}

total-le : (f g : Option Body → ℕ) → ((b : Option Body) → f b ≤ g b) → (xs : List (Option (Option Body)))
    → total f xs ≤ total g xs
total-le f g h [] = omega arith
total-le f g h (x ∷ xs) = omega (arith, h (body_in x), total-le f g h xs)

weight-le : (r s : ℕ) (b : Option Body) → weight r s b ≤ width b
weight-le r s None = omega arith
weight-le r s (Some b) = by_case (belongs r (Some b)) (count_by (leads_to s) b.fields) (length b.fields)
    (count_by-le-length (leads_to s) b.fields)
  where
    by_case : (c : Bool) (n m : ℕ) → n ≤ m → cond {A = ℕ} c n 0 ≤ m
    by_case true n m l = l
    by_case false n m l = omega arith

-- a count is at most the number of all fields
pub count-fits : (h : Heap) (r s : ℕ) → referrers h r s ≤ field_total h
count-fits h r s = let a = total-le (weight r s) width (weight-le r s) h.slots in
    omega (arith, a, referrers-total h r s)

-- another body at a slot
total-set : (f : Option Body → ℕ) (xs : List (Option (Option Body))) (s : ℕ) (b : Option (Option Body)) → s < length xs
    → total f (set xs s b) + share f xs s ≡ total f xs + f (body_in b)
total-set f [] s b l = absurd (omega (arith, l))
total-set f (x ∷ xs) zero b l = omega arith
total-set f (x ∷ xs) (suc s) b l = omega (arith, total-set f xs s b (omega (arith, l)))

count-set : (p : Word → Bool) (ws : List Word) (k : ℕ) (old w : Word) → slice_get ws k ≡ Some old
    → count_by p (set ws k w) + cond {A = ℕ} (p old) 1 0 ≡ count_by p ws + cond {A = ℕ} (p w) 1 0
count-set p [] k old w e = cc
count-set p (x ∷ ws) zero old w e =
    let q : x ≡ old = same_Some x old e in
    let z : cond {A = ℕ} (p x) 1 0 ≡ cond {A = ℕ} (p old) 1 0 = ap (λ y. cond {A = ℕ} (p y) 1 0) q in
    omega (arith, z, sum_by-cons (λ y. cond {A = ℕ} (p y) 1 0) x ws, sum_by-cons (λ y. cond {A = ℕ} (p y) 1 0) w ws)
count-set p (x ∷ ws) (suc k) old w e =
    let ih = count-set p ws k old w e in
    omega (
      arith,
      ih,
      sum_by-cons (λ y. cond {A = ℕ} (p y) 1 0) x ws,
      sum_by-cons (λ y. cond {A = ℕ} (p y) 1 0) x (set ws k w),
    )

-- where a field of a region's cell is written, one referrer goes and one comes
pub referrers-written : (h : Heap) (r s k x : ℕ) (old w : Word) → LiesIn h r s → field_at h s k ≡ Some old
    → referrers (with_field h s k w) r x + cond {A = ℕ} (leads_to x old) 1 0 ≡ referrers h r x + cond {A = ℕ}
    (leads_to x w) 1 0
referrers-written h r s k x old w l f = by_body (body_at h s) refl
  where
    room : s < length h.slots
    room = lies_within h r s l

    by_body : (o : Option Body) → body_at h s ≡ o
        → referrers (with_field h s k w) r x + cond {A = ℕ} (leads_to x old) 1 0 ≡ referrers h r x + cond {A = ℕ}
        (leads_to x w) 1 0
    by_body None e = let q : None ≡ Some (Region r) = sym (ap (option_map (λ (b : Body). b.label)) e) ∙ l in cc
    by_body (Some b) e =
        let n : Body = record b { fields = set b.fields k w } in
        let new : with_field h s k w ≡ with_body h s n =
        ap (λ (o : Option Body). elim o
        [ None ↦ h | Some b ↦ with_body h s (record b { fields = set b.fields k w }) ]) e in
        let lb : belongs r (Some b) ≡ true =
        lies_belongs r (Some b) (sym (ap (option_map (λ (b : Body). b.label)) e) ∙ l) in
        let at : slice_get b.fields k ≡ Some old = sym (ap (option_and_then (λ (b : Body). slice_get b.fields k)) e)
        ∙ f in
        let a : weight r x (Some b) ≡ count_by (leads_to x) b.fields =
        ap (λ c. cond {A = ℕ} c (count_by (leads_to x) b.fields) 0) lb in
        let c : weight r x (Some n) ≡ count_by (leads_to x) (set b.fields k w) =
        ap (λ c. cond {A = ℕ} c (count_by (leads_to x) (set b.fields k w)) 0) lb in
        let t = total-set (weight r x) h.slots s (Some (Some n)) room in
        let u : share (weight r x) h.slots s ≡ weight r x (Some b) = ap (weight r x) e in
        let v : referrers (with_field h s k w) r x ≡ total (weight r x) (set h.slots s (Some (Some n))) =
        ap (λ z. referrers z r x) new ∙ referrers-total (with_body h s n) r x in
        omega (arith, a, c, t, u, v, count-set (leads_to x) b.fields k old w at, referrers-total h r x)

-- where a cell is made whose fields lead nowhere, all counts stay
pub referrers-made : (old new : Table) (slot r x : ℕ) (b : Body) → Made old new slot b → body_at old.heap slot ≡ None
    → count_by (leads_to x) b.fields ≡ 0 → referrers new.heap r x ≡ referrers old.heap r x
referrers-made old new slot r x b m none nowhere =
    let a = total_alike (weight r x) refl old.heap.slots new.heap.slots (λ k. elim (cases_eq k slot) [
      | inl e ↦
          ap (λ z. weight r x (body_at new.heap z)) e ∙ ap (weight r x) m.body
          ∙ by_case (belongs r (Some b)) (count_by (leads_to x) b.fields) nowhere
          ∙ sym (ap (λ z. weight r x (body_at old.heap z)) e ∙ ap (weight r x) none)
      | inr d ↦ ap (λ o. weight r x (body_in o)) (m.others k d)
    ]) in
    omega (arith, a, referrers-total new.heap r x, referrers-total old.heap r x)
  where
    by_case : (c : Bool) (n : ℕ) → n ≡ 0 → cond {A = ℕ} c n 0 ≡ 0
    by_case true n e = e
    by_case false n e = refl
