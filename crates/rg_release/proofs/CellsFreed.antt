-- Cells that are freed one by one (docs/architecture.md, "Release").
use Rattle.std.proofs.Common.{◌≡◌, ◌≢◌, ℕ, ◌+◌, ◌<◌, List, length, Option, Some, None, IsSome, get_or}
use Rattle.std.proofs.Common.{ap, sym, ◌∙◌, subst, arith, inl, inr}
use Rattle.std.proofs.lemmas.List.{get_or-set_other}
use Rattle.std.proofs.lemmas.Bool.{cases_eq, cases_lt}
use Rattle.rg_cells.specs.declared.cell.Body.{Body}
use Rattle.rg_cells.specs.Table.{Table, IsHeld, body_at, body_in, mark_at, freed_from}
use Rattle.rg_cells.proofs.SerialsKept.{none_at}
use Rattle.rg_regions.proofs.Callers.Freed.{zero_here, count-freed, held_once}
use Rattle.rg_regions.specs.Same.{IsSameCell, AllDiffer}
use Rattle.rg_release.specs.Inner.Turns.{FreedFirst}

-- the next one is still held
pub still_held : (old t : Table) (members : List ℕ) (i : ℕ) → AllDiffer members → IsHeld old.heap (get_or members i 0)
    → i < length members → FreedFirst old members i t → IsHeld t.heap (get_or members i 0)
still_held old t members i once held l f =
    let P : Option Body → Type 0 = λ o. IsSome o in
    subst P (sym (f.others (get_or members i 0) (λ j m. once j i m l)).0) held

pub freed_more : (old t : Table) (members : List ℕ) (i : ℕ) → IsHeld t.heap (get_or members i 0) → FreedFirst old members i t
    → FreedFirst old members (i + 1) (freed_from t (get_or members i 0))
freed_more old t members i held f =
    let s = get_or members i 0 in
    let h = t.heap in
    let here : body_at (freed_from t s).heap s ≡ None = none_at h.slots s in
    let white : mark_at (freed_from t s) s ≡ 0 = zero_here t.marks s in
    let apart : (x : ℕ) → x ≢ s → IsSameCell t (freed_from t s) x =
    λ x d. (
      ap body_in (get_or-set_other h.slots s x (Some None) None d),
      get_or-set_other t.marks s x 0 0 d,
      get_or-set_other t.links s x None None d,
    ) in
    record {
      gone = λ j l. elim (cases_eq (get_or members j 0) s) [
        | inl e ↦ (ap (body_at (freed_from t s).heap) e ∙ here, ap (mark_at (freed_from t s)) e ∙ white)
        | inr d ↦
            let m : j < i = elim (cases_lt j i) [
              | inl a ↦ a
              | inr a ↦ let q : j ≡ i = omega (arith, a, l) in absurd (d (ap (λ k. get_or members k 0) q))
            ] in
            let g = f.gone j m in
            let a = apart (get_or members j 0) d in
            (a.0 ∙ g.0, a.1 ∙ g.1)
      ];
      others = λ x d.
          let off : x ≢ s = λ q. d i (omega arith) (sym q) in
          let a = apart x off in
          let o = f.others x (λ j l. d j (omega (arith, l))) in
          (a.0 ∙ o.0, a.1 ∙ o.1, a.2 ∙ o.2);
      serials = f.serials;
      high = let o = held_once h s held in count-freed h.slots s o.0 o.1 ∙ f.high;
    }
