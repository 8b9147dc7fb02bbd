-- The bound on ticks: what is looked at is at most the fields of the region's cells and of the temporaries
-- (docs/architecture.md, "Mark and sweep").
use Rattle.std.proofs.Common.{◌≡◌, ◌≢◌, ℕ, ◌+◌, ◌<◌, ◌≤◌, zero, suc, Bool, true, false, cond, if◌then◌else◌, ◌==◌, List}
use Rattle.std.proofs.Common.{[], ◌∷◌, length, Option}
use Rattle.std.proofs.Common.{None, get_or, set, sum_by, refl, ap, sym, arith, inl, inr}
use Rattle.std.proofs.lemmas.List.{get_or-set_other}
use Rattle.std.proofs.lemmas.Bool.Decides.{eqb_tells}
use Rattle.std.proofs.lemmas.List.Sums.{sum_by-cons}
use Rattle.rg_cells.specs.declared.cell.Body.{Body}
use Rattle.rg_cells.specs.Table.{Heap, total, body_in, body_at, width}
use Rattle.rg_regions.specs.Reach.{LiesIn, belongs}
use Rattle.rg_trace.specs.Marking.{weighed, if_black, black_fields}
use Rattle.rg_trace.specs.Orphans.{if_white}
use Rattle.rg_regions.specs.Collection.{region_fields}
use Rattle.rg_regions.proofs.Callers.Fewer.{lies_belongs}

abbrev spot : (Option Body → ℕ → ℕ) → List (Option (Option Body)) → List ℕ → ℕ → ℕ
spot f xs ms s = f (body_in (get_or xs s None)) (get_or ms s 0)

-- a slot less
weighed-drop : (f : Option Body → ℕ → ℕ) → ((m : ℕ) → f None m ≡ 0)
    → (xs : List (Option (Option Body))) (ms : List ℕ) (s : ℕ)
    → weighed f (set xs s None) ms + spot f xs ms s ≡ weighed f xs ms
weighed-drop f z [] ms s = omega (arith, z (get_or ms s 0))
weighed-drop f z (x ∷ xs) [] zero = omega (arith, z 0)
weighed-drop f z (x ∷ xs) (m ∷ ms) zero = omega (arith, z m)
weighed-drop f z (x ∷ xs) [] (suc s) = omega (arith, weighed-drop f z xs [] s)
weighed-drop f z (x ∷ xs) (m ∷ ms) (suc s) = omega (arith, weighed-drop f z xs ms s)

sum-agree : (f g : ℕ → ℕ) (ks : List ℕ) → ((i : ℕ) → i < length ks → f (get_or ks i 0) ≡ g (get_or ks i 0))
    → sum_by f ks ≡ sum_by g ks
sum-agree f g [] h = refl
sum-agree f g (k ∷ ks) h =
    let a = h 0 (omega arith) in
    let b = sum-agree f g ks (λ i l. h (suc i) (omega arith)) in
    omega (arith, sum_by-cons f k ks, sum_by-cons g k ks, a, b)

-- different slots weigh together at most what all slots weigh
sum-distinct : (f : Option Body → ℕ → ℕ) → ((m : ℕ) → f None m ≡ 0)
    → (ms : List ℕ) (xs : List (Option (Option Body))) (ks : List ℕ)
    → ((i j : ℕ) → i < j → j < length ks → get_or ks i 0 ≢ get_or ks j 0) → sum_by (spot f xs ms) ks ≤ weighed f xs ms
sum-distinct f z ms xs [] once = omega arith
sum-distinct f z ms xs (k ∷ ks) once =
    let drop = weighed-drop f z xs ms k in
    let ih = sum-distinct f z ms (set xs k None) ks (λ i j l m. once (suc i) (suc j) (omega arith) (omega arith)) in
    let same = sum-agree (spot f xs ms) (spot f (set xs k None) ms) ks (λ i l.
    let d : get_or ks i 0 ≢ k = λ q. once 0 (suc i) (omega arith) (omega arith) (sym q) in
    ap (λ o. f (body_in o) (get_or ms (get_or ks i 0) 0)) (sym (get_or-set_other xs k (get_or ks i 0) None None d))) in
    omega (arith, sum_by-cons (spot f xs ms) k ks, same, drop, ih)

weighed-two : (f g : Option Body → ℕ → ℕ) (h : Option Body → ℕ) → ((b : Option Body) (m : ℕ) → f b m + g b m ≤ h b)
    → (xs : List (Option (Option Body))) (ms : List ℕ) → weighed f xs ms + weighed g xs ms ≤ total h xs
weighed-two f g h p [] ms = omega arith
weighed-two f g h p (x ∷ xs) [] = omega (arith, p (body_in x) 0, weighed-two f g h p xs [])
weighed-two f g h p (x ∷ xs) (m ∷ ms) = omega (arith, p (body_in x) m, weighed-two f g h p xs ms)

white : ℕ → Option Body → ℕ → ℕ
white r b m = cond (belongs r b) (if m == 0 then width b else 0) 0

white-none : (r m : ℕ) → white r None m ≡ 0
unfolding white
white-none r m = refl

both-le : (c : Bool) (w m : ℕ)
    → cond {A = ℕ} c (if m == 0 then w else 0) 0 + cond {A = ℕ} c (if_black w m) 0 ≤ cond {A = ℕ} c w 0
both-le false w m = omega arith
both-le true w zero = omega arith
both-le true w (suc zero) = omega arith
both-le true w (suc (suc m)) =
    elim (eqb_tells (suc (suc m)) 0) [ inl e ↦ absurd (omega (arith, e.1)) | inr e ↦ rw e.0 (omega arith) ]

white-black : (r : ℕ) (b : Option Body) (m : ℕ)
    → white r b m + cond {A = ℕ} (belongs r b) (if_black (width b) m) 0 ≤ cond {A = ℕ} (belongs r b)
    (width b) 0
unfolding white
white-black r b m = both-le (belongs r b) (width b) m

white-spot : (h : Heap) (r : ℕ) (marks : List ℕ) (s : ℕ) → LiesIn h r s
    → if_white h marks s ≡ spot (white r) h.slots marks s
unfolding white
white-spot h r marks s l = let b : belongs r (body_at h s) ≡ true = lies_belongs r (body_at h s) l in rw b refl

pub ticks : (h : Heap) (r : ℕ) (marks members : List ℕ)
    → ((j : ℕ) → j < length members → LiesIn h r (get_or members j 0))
    → ((i j : ℕ) → i < j → j < length members → get_or members i 0 ≢ get_or members j 0)
    → black_fields h r marks + sum_by (if_white h marks) members ≤ region_fields h r
ticks h r marks members lie once =
    let a = sum-agree (if_white h marks)
    (spot (white r) h.slots marks) members (λ i l. white-spot h r marks (get_or members i 0) (lie i l)) in
    let b = sum-distinct (white r) (white-none r) marks h.slots members once in
    let c = weighed-two (white r) (λ b m. cond (belongs r b) (if_black (width b) m) 0)
    (λ b. cond (belongs r b) (width b) 0) (white-black r) h.slots
    marks in
    omega (arith, a, b, c)
