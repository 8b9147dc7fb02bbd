-- Cells that get another label, one by one (docs/architecture.md, "Freeze and merge").
use Rattle.std.proofs.Common.{◌≡◌, ◌≢◌, ℕ, ◌+◌, ◌<◌, zero, suc, List, [], ◌∷◌, length, Option, Some, None, IsSome}
use Rattle.std.proofs.Common.{is_some, count_by, cond}
use Rattle.std.proofs.Common.{get_or, set, refl, ap, sym, ◌∙◌, subst, arith, inl, inr}
use Rattle.std.proofs.lemmas.List.{get_or-set_same, get_or-set_other}
use Rattle.std.proofs.lemmas.List.Sums.{sum_by-cons}
use Rattle.std.proofs.lemmas.Bool.{cases_eq, cases_lt}
use Rattle.rg_base.specs.declared.object.Label.{Label}
use Rattle.rg_base.proofs.Callers.Options.{some-there}
use Rattle.rg_cells.specs.declared.cell.Body.{Body}
use Rattle.rg_cells.specs.Table.{Heap, Table, IsHeld, body_at, body_in, mark_at, with_label, high_of}
use Rattle.rg_cells.proofs.Shown.{label-of}
use Rattle.rg_regions.specs.Same.{IsSameCell, AllDiffer}
use Rattle.rg_regions.proofs.Callers.Freed.{held_once}
use Rattle.rg_move.specs.Frozen.{labelled, IsLabelled}
use Rattle.rg_move.specs.Inner.Labels.{LabelledFirst}

set_there : {X : Type 0} (xs : List (Option X)) (s : ℕ) (x : X) (y : Option X) → get_or xs s None ≡ Some x
    → get_or (set xs s y) s None ≡ y
set_there [] s x y e = cc
set_there (z ∷ xs) zero x y e = refl
set_there (z ∷ xs) (suc s) x y e = set_there xs s x y e

count-kept : (xs : List (Option (Option Body))) (s : ℕ) (o y : Option Body) → get_or xs s None ≡ Some o
    → count_by is_some (set xs s (Some y)) ≡ count_by is_some xs
count-kept [] s o y e = cc
count-kept (x ∷ xs) zero o y e = rw e
count-kept (x ∷ xs) (suc s) o y e =
    sum_by-cons (λ z. cond (is_some z) 1 0) x (set xs s (Some y))
    ∙ ap (λ n. cond (is_some x) 1 0 + n) (count-kept xs s o y e)
    ∙ sym (sum_by-cons (λ z. cond (is_some z) 1 0) x xs)

-- one cell gets another label
pub label_here : (h : Heap) (s : ℕ) (l : Label) → IsHeld h s → body_at (with_label h s l) s ≡ labelled l (body_at h s)
label_here h s l held =
    let b = some-there (body_at h s) held in
    let o = held_once h s held in
    ap (λ z. body_at z s) (label-of h s l b.0 b.1)
    ∙ ap body_in (set_there h.slots s o.0 (Some (Some (record b.0 { label = l }))) o.1)
    ∙ ap (labelled l) (sym b.1)

pub label_apart : (h : Heap) (s : ℕ) (l : Label) (x : ℕ) → IsHeld h s → x ≢ s
    → body_at (with_label h s l) x ≡ body_at h x
label_apart h s l x held d =
    let b = some-there (body_at h s) held in
    ap (λ z. body_at z x) (label-of h s l b.0 b.1)
    ∙ ap body_in (get_or-set_other h.slots s x (Some (Some (record b.0 { label = l }))) None d)

pub label_kept : (h : Heap) (s : ℕ) (l : Label) → IsHeld h s
    → ((with_label h s l).next ≡ h.next) × (high_of (with_label h s l) ≡ high_of h)
label_kept h s l held =
    let b = some-there (body_at h s) held in
    let o = held_once h s held in
    let e = label-of h s l b.0 b.1 in
    (ap (λ (z : Heap). z.next) e, ap high_of e ∙ count-kept h.slots s o.0 (Some (record b.0 { label = l })) o.1)

-- the next one is still held
pub next_held : (l : Label) (old t : Table) (members : List ℕ) (i : ℕ) → AllDiffer members
    → IsHeld old.heap (get_or members i 0)
    → i < length members → LabelledFirst l old members i t → IsHeld t.heap (get_or members i 0)
next_held l old t members i once held m f =
    let P : Option Body → Type 0 = λ o. IsSome o in
    subst P (sym (f.others (get_or members i 0) (λ j n. once j i n m)).0) held

-- one more has the label, and mark 0
pub labelled_more : (l : Label) (old t new : Table) (members : List ℕ) (i : ℕ) → AllDiffer members → i < length members
    → IsHeld t.heap (get_or members i 0) → get_or members i 0 < length t.marks
    → new ≡ record t { heap = with_label t.heap (get_or members i 0) l; marks = set t.marks (get_or members i 0) 0 }
    → LabelledFirst l old members i t → LabelledFirst l old members (i + 1) new
labelled_more l old t new members i once m held within is f =
    let s = get_or members i 0 in
    let was = f.others s (λ j n. once j i n m) in
    let apart : (x : ℕ) → x ≢ s → IsSameCell t new x =
    λ x d. (
      ap (λ (z : Table). body_at z.heap x) is ∙ label_apart t.heap s l x held d,
      ap (λ z. mark_at z x) is ∙ get_or-set_other t.marks s x 0 0 d,
      ap (λ (z : Table). get_or z.links x None) is,
    ) in
    let here : IsLabelled l old new s = (
      ap (λ (z : Table). body_at z.heap s) is ∙ label_here t.heap s l held ∙ ap (labelled l) was.0,
      ap (λ z. mark_at z s) is ∙ get_or-set_same t.marks s 0 0 within,
      ap (λ (z : Table). get_or z.links s None) is ∙ was.2,
    ) in
    let keep = label_kept t.heap s l held in
    record {
      done = λ j n. elim (cases_eq (get_or members j 0) s) [
        | inl e ↦ let P : ℕ → Type 0 = λ y. IsLabelled l old new y in subst P (sym e) here
        | inr d ↦
            let k : j < i = elim (cases_lt j i) [
              | inl a ↦ a
              | inr a ↦ let q : j ≡ i = omega (arith, a, n) in absurd (d (ap (λ k. get_or members k 0) q))
            ] in
            let g = f.done j k in
            let a = apart (get_or members j 0) d in
            (a.0 ∙ g.0, a.1 ∙ g.1, a.2 ∙ g.2)
      ];
      others = λ x d.
          let off : x ≢ s = λ q. d i (omega arith) (sym q) in
          let a = apart x off in
          let o = f.others x (λ j n. d j (omega (arith, n))) in
          (a.0 ∙ o.0, a.1 ∙ o.1, a.2 ∙ o.2);
      serials = ap (λ (z : Table). z.heap.next) is ∙ keep.0 ∙ f.serials;
      high = ap (λ (z : Table). high_of z.heap) is ∙ keep.1 ∙ f.high;
    }
