-- The numbers that are kept beside the table, after a slot changes.
use Rattle.std.proofs.Common.{◌≡◌, ◌≢◌, ℕ, ◌+◌, ◌-◌, ◌^◌, ◌<◌, ◌≤◌, zero, suc, List, [], ◌∷◌, length, Option, Some, None, get_or, set, refl, ap, subst}
use Rattle.std.proofs.Common.{arith}
use Rattle.rg_base.specs.declared.object.Label.TheVariants.{Region, Temp, Frozen}
use Rattle.rg_cells.specs.declared.cell.Body.{Body}
use Rattle.rg_cells.specs.Table.{Heap, body_in, body_at, IsHeld, with_body, freed, total, one, one_frozen, one_frozen_by, width}
use Rattle.rg_cells.specs.Inner.Counts.{Counts}
use Rattle.rg_cells.proofs.Totals.{total-set, total-update}
use Rattle.rg_cells.proofs.Exchanged.{held_within}

part-le : (f : Option Body → ℕ) → f None ≡ 0 → (xs : List (Option (Option Body))) (k : ℕ) → f (body_in (get_or xs k None)) ≤ total f xs
part-le f z [] k = omega (arith, z)
part-le f z (x ∷ xs) zero = omega arith
part-le f z (x ∷ xs) (suc k) = omega (arith, part-le f z xs k)

-- a cell weighs no more than all
weight-le : (f : Option Body → ℕ) (h : Heap) (slot : ℕ) (b : Body) → f None ≡ 0 → body_at h slot ≡ Some b → f (Some b) ≤ total f h.slots
weight-le f h slot b z e =
    let p = part-le f z h.slots slot in let q : f (body_at h slot) ≡ f (Some b) = ap f e in omega (arith, p, q)

pub icy-le : (h : Heap) (slot : ℕ) (b : Body) → body_at h slot ≡ Some b → one_frozen_by b.label ≤ total one_frozen h.slots
icy-le h slot b e = weight-le one_frozen h slot b refl e

pub wide-le : (h : Heap) (slot : ℕ) (b : Body) → body_at h slot ≡ Some b → length b.fields ≤ total width h.slots
wide-le h slot b e = weight-le width h slot b refl e

frozen-one : (b : Option Body) → one_frozen b ≤ one b
frozen-one None = omega arith
frozen-one (Some b) = elim (b.label) as (λ l. one_frozen_by l ≤ 1) [ Region r ↦ omega arith | Temp n ↦ omega arith | Frozen ↦ omega arith ]

pub frozen-le : (xs : List (Option (Option Body))) → total one_frozen xs ≤ total one xs
frozen-le [] = omega arith
frozen-le (x ∷ xs) = omega (arith, frozen-one (body_in x), frozen-le xs)

-- the slots together, after a held one is written
weighed : (f : Option Body → ℕ) (h : Heap) (slot : ℕ) (b : Body) (v : Option (Option Body)) → body_at h slot ≡ Some b
    → total f (set h.slots slot v) + f (Some b) ≡ total f h.slots + f (body_in v)
weighed f h slot b v e =
    let held : IsHeld h slot = rw e refl in
    let t = total-set f h.slots slot v (get_or h.slots slot None) (held_within h slot held) refl in
    let P : Option Body → Type 0 = λ o. total f (set h.slots slot v) + f o ≡ total f h.slots + f (body_in v) in
    subst P e t

pub counts-put : (h : Heap) (slot frozen words icy : ℕ) (b d : Body) → body_at h slot ≡ Some b → length d.fields ≡ length b.fields
    → icy + one_frozen_by b.label ≡ frozen + one_frozen_by d.label → Counts h frozen words → Counts (with_body h slot d) icy words
counts-put h slot frozen words icy b d e n l c =
    let x : total one_frozen (set h.slots slot (Some (Some d))) + one_frozen_by b.label ≡ total one_frozen h.slots + one_frozen_by d.label =
    weighed one_frozen h slot b (Some (Some d)) e in
    let y : total width (set h.slots slot (Some (Some d))) + length b.fields ≡ total width h.slots + length d.fields =
    weighed width h slot b (Some (Some d)) e in
    record { frozen_is = omega (arith, c.frozen_is, x, l); words_is = omega (arith, c.words_is, y, n); few = c.few }

-- a cell is freed
pub counts-freed : (h : Heap) (slot frozen words : ℕ) (b : Body) → body_at h slot ≡ Some b → Counts h frozen words
    → Counts (freed h slot) (frozen - one_frozen_by b.label) (words - length b.fields)
counts-freed h slot frozen words b e c =
    let x : total one_frozen (set h.slots slot (Some None)) + one_frozen_by b.label ≡ total one_frozen h.slots + 0 =
    weighed one_frozen h slot b (Some None) e in
    let y : total width (set h.slots slot (Some None)) + length b.fields ≡ total width h.slots + 0 = weighed width h slot b (Some None) e in
    record { frozen_is = omega (arith, c.frozen_is, x); words_is = omega (arith, c.words_is, y); few = omega (arith, c.few) }

-- a cell is made
pub counts-made : (h g : Heap) (slot frozen words : ℕ) (b : Body) → body_at h slot ≡ None → body_at g slot ≡ Some b
    → ((other : ℕ) → other ≢ slot → get_or g.slots other None ≡ get_or h.slots other None) → words + length b.fields < 2 ^ 64 - 1
    → Counts h frozen words → Counts g (frozen + one_frozen_by b.label) (words + length b.fields)
counts-made h g slot frozen words b vacant body others few c =
    let x : total one_frozen g.slots + one_frozen (body_at h slot) ≡ total one_frozen h.slots + one_frozen (body_at g slot) =
    total-update one_frozen h.slots g.slots slot refl others in
    let y : total width g.slots + width (body_at h slot) ≡ total width h.slots + width (body_at g slot) =
    total-update width h.slots g.slots slot refl others in
    let p : one_frozen (body_at h slot) ≡ 0 = ap one_frozen vacant in
    let q : width (body_at h slot) ≡ 0 = ap width vacant in
    let r : one_frozen (body_at g slot) ≡ one_frozen_by b.label = ap one_frozen body in
    let s : width (body_at g slot) ≡ length b.fields = ap width body in
    record { frozen_is = omega (arith, c.frozen_is, x, p, r); words_is = omega (arith, c.words_is, y, q, s); few = few }
