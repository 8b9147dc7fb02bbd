-- Weights of marked slots after one mark is written (docs/architecture.md, "Mark and sweep").
use Rattle.std.proofs.Common.{◌≡◌, ℕ, ◌+◌, ◌<◌, ◌≤◌, zero, suc, Bool, true, false, cond, List, [], ◌∷◌, length, Option}
use Rattle.std.proofs.Common.{None, get_or}
use Rattle.std.proofs.Common.{set, refl, arith}
use Rattle.rg_cells.specs.declared.cell.Body.{Body}
use Rattle.rg_cells.specs.Table.{Heap, total, body_in, body_at, width}
use Rattle.rg_regions.specs.Reach.{LiesIn, belongs, region_size}
use Rattle.rg_regions.proofs.Callers.Fewer.{lies_belongs}
use Rattle.rg_trace.specs.Marking.{if_black, weighed, black_fields}
use Rattle.rg_trace.specs.Inner.Marking.{known, unfinished, known_count, pending}

pub weighed-set : (f : Option Body → ℕ → ℕ) → ((m : ℕ) → f None m ≡ 0)
    → (xs : List (Option (Option Body))) (ms : List ℕ) (s v : ℕ) → s < length ms
    → weighed f xs (set ms s v) + f (body_in (get_or xs s None))
    (get_or ms s 0) ≡ weighed f xs ms + f (body_in (get_or xs s None)) v
weighed-set f z [] ms s v l = omega (arith, z v, z (get_or ms s 0))
weighed-set f z (x ∷ xs) [] s v l = absurd (omega arith)
weighed-set f z (x ∷ xs) (m ∷ ms) zero v l = omega arith
weighed-set f z (x ∷ xs) (m ∷ ms) (suc s) v l = omega (arith, weighed-set f z xs ms s v (omega arith))

pub weighed-le : (f : Option Body → ℕ → ℕ) (g : Option Body → ℕ) → ((b : Option Body) (m : ℕ) → f b m ≤ g b)
    → (xs : List (Option (Option Body))) (ms : List ℕ) → weighed f xs ms ≤ total g xs
weighed-le f g h [] ms = omega arith
weighed-le f g h (x ∷ xs) [] = omega (arith, h (body_in x) 0, weighed-le f g h xs [])
weighed-le f g h (x ∷ xs) (m ∷ ms) = omega (arith, h (body_in x) m, weighed-le f g h xs ms)

known-le : (m : ℕ) → known m ≤ 1
known-le zero = omega arith
known-le (suc m) = omega arith

known-le_by : (c : Bool) (m : ℕ) → cond c (known m) 0 ≤ cond {A = ℕ} c 1 0
known-le_by true m = known-le m
known-le_by false m = omega arith

-- no more cells are known than the region has
pub known-size : (h : Heap) (r : ℕ) (marks : List ℕ) → known_count h r marks ≤ region_size h r
known-size h r marks = weighed-le (λ b m. cond (belongs r b) (known m) 0) (λ b. cond (belongs r b) 1 0)
    (λ b m. known-le_by (belongs r b) m) h.slots
    marks

-- one cell of a region more is known
pub known-grey : (h : Heap) (r s : ℕ) (marks : List ℕ) → LiesIn h r s → get_or marks s 0 ≡ 0 → s < length marks
    → known_count h r (set marks s 1)
    ≡ known_count h r marks + 1
known-grey h r s marks lies w l =
    let b : belongs r (body_at h s) ≡ true = lies_belongs r (body_at h s) lies in
    let e = weighed-set (λ b m. cond (belongs r b) (known m) 0) (λ m. refl) h.slots marks s 1 l in
    let p : cond (belongs r (body_at h s)) (known (get_or marks s 0)) 0 ≡ 0 = rw (b, w) refl in
    let q : cond {A = ℕ} (belongs r (body_at h s)) 1 0 ≡ 1 = rw b refl in
    omega (arith, e, p, q)

pub pending-grey : (h : Heap) (r s : ℕ) (marks : List ℕ) → LiesIn h r s → get_or marks s 0 ≡ 0 → s < length marks
    → pending h r (set marks s 1)
    ≡ pending h r marks
pending-grey h r s marks lies w l =
    let b : belongs r (body_at h s) ≡ true = lies_belongs r (body_at h s) lies in
    let e = weighed-set (λ b m. cond (belongs r b) (unfinished m) 0)
    (λ m. cond-zero (belongs r None) (unfinished m)) h.slots marks s 1 l in
    let p : cond (belongs r (body_at h s)) (unfinished (get_or marks s 0)) 0 ≡ 1 = rw (b, w) refl in
    let q : cond {A = ℕ} (belongs r (body_at h s)) 1 0 ≡ 1 = rw b refl in
    omega (arith, e, p, q)
  where
    cond-zero : (c : Bool) (n : ℕ) → cond false n 0 ≡ 0
    cond-zero c n = refl

pub fields-grey : (h : Heap) (r s : ℕ) (marks : List ℕ) → LiesIn h r s → get_or marks s 0 ≡ 0 → s < length marks
    → black_fields h r (set marks s 1)
    ≡ black_fields h r marks
fields-grey h r s marks lies w l =
    let b : belongs r (body_at h s) ≡ true = lies_belongs r (body_at h s) lies in
    let e = weighed-set (λ b m. cond (belongs r b) (if_black (width b) m) 0) (λ m. refl) h.slots marks s 1 l in
    let p : cond (belongs r (body_at h s)) (if_black (width (body_at h s)) (get_or marks s 0)) 0 ≡ 0 = rw (b, w) refl in
    let q : cond (belongs r (body_at h s)) (if_black (width (body_at h s)) 1) 0 ≡ 0 = rw b refl in
    omega (arith, e, p, q)

-- a grey cell becomes black
pub known-black : (h : Heap) (r s : ℕ) (marks : List ℕ) → LiesIn h r s → get_or marks s 0 ≡ 1 → s < length marks
    → known_count h r (set marks s 2)
    ≡ known_count h r marks
known-black h r s marks lies w l =
    let b : belongs r (body_at h s) ≡ true = lies_belongs r (body_at h s) lies in
    let e = weighed-set (λ b m. cond (belongs r b) (known m) 0) (λ m. refl) h.slots marks s 2 l in
    let p : cond (belongs r (body_at h s)) (known (get_or marks s 0)) 0 ≡ 1 = rw (b, w) refl in
    let q : cond {A = ℕ} (belongs r (body_at h s)) 1 0 ≡ 1 = rw b refl in
    omega (arith, e, p, q)

pub pending-black : (h : Heap) (r s : ℕ) (marks : List ℕ) → LiesIn h r s → get_or marks s 0 ≡ 1 → s < length marks
    → pending h r (set marks s 2) + 1
    ≡ pending h r marks
pending-black h r s marks lies w l =
    let b : belongs r (body_at h s) ≡ true = lies_belongs r (body_at h s) lies in
    let e = weighed-set (λ b m. cond (belongs r b) (unfinished m) 0) (λ m. refl) h.slots marks s 2 l in
    let p : cond (belongs r (body_at h s)) (unfinished (get_or marks s 0)) 0 ≡ 1 = rw (b, w) refl in
    let q : cond {A = ℕ} (belongs r (body_at h s)) 0 0 ≡ 0 = rw b refl in
    omega (arith, e, p, q)

pub fields-black : (h : Heap) (r s : ℕ) (marks : List ℕ) → LiesIn h r s → get_or marks s 0 ≡ 1 → s < length marks
    → black_fields h r (set marks s 2)
    ≡ black_fields h r marks + width (body_at h s)
fields-black h r s marks lies w l =
    let b : belongs r (body_at h s) ≡ true = lies_belongs r (body_at h s) lies in
    let e = weighed-set (λ b m. cond (belongs r b) (if_black (width b) m) 0) (λ m. refl) h.slots marks s 2 l in
    let p : cond (belongs r (body_at h s)) (if_black (width (body_at h s)) (get_or marks s 0)) 0 ≡ 0 = rw (b, w) refl in
    let q : cond (belongs r (body_at h s)) (width (body_at h s)) 0 ≡ width (body_at h s) = rw b refl in
    omega (arith, e, p, q)
