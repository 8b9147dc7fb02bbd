-- Each turn of sweeping: a white member is freed, a black one becomes white (docs/architecture.md, "Mark and sweep").
use Rattle.std.proofs.Common.{◌≡◌, ◌≢◌, ℕ, ◌+◌, ◌<◌, List, length, None, get_or, set, ap}
use Rattle.std.proofs.Common.{sym, ◌∙◌, subst, arith, inl, inr, option_map}
use Rattle.std.specs.List.{swap_remove}
use Rattle.std.proofs.lemmas.List.{get_or-set_other}
use Rattle.std.proofs.lemmas.Bool.{cases_eq}
use Rattle.rg_cells.specs.declared.cell.Body.{Body}
use Rattle.rg_cells.specs.Table.{Table, body_at, body_in, mark_at, freed, freed_from}
use Rattle.rg_regions.specs.Reach.{LiesIn}
use Rattle.rg_trace.specs.Sweeping.{Swept}
use Rattle.rg_regions.proofs.Callers.Freed.{zero_here, count-freed, held_once, lies_within, freed_here, freed_other}
use Rattle.rg_regions.proofs.Callers.Freed.{lies_freed, swapped, swapped-length}
use Rattle.rg_regions.proofs.Callers.Freed.{swapped-other}
use Rattle.rg_regions.proofs.Callers.MembersSwept.{Lists, lists-here, lists-apart, lists-freed}
use Rattle.rg_regions.proofs.Callers.Told.{lies_held}

-- what is said of the members
pub swept-lists : (c : Table) (r : ℕ) (members : List ℕ) (p : ℕ) (t : Table) → Swept c r members p t → Lists t.heap r members
swept-lists c r members p t w = record { lie = w.lie; once = w.once; all = w.all }

-- a white member is freed
pub swept-free : (c : Table) (r : ℕ) (members : List ℕ) (p s : ℕ) (t : Table) → get_or members p 0 ≡ s → mark_at t s ≡ 0
    → Swept c r members (p + 1) t → Swept c r (swap_remove members p 0) p (freed_from t s)
swept-free c r members p s t is white w =
    let inside : p < length members = omega (arith, w.fits) in
    let lies = lists-here t.heap r members p s inside is (swept-lists c r members (p + 1) t w) in
    let room : s < length t.heap.slots = lies_within t.heap r s lies in
    let was : get_or c.marks s 0 ≡ 0 = ap (λ z. get_or c.marks z 0) (sym is) ∙ sym (w.before p (omega arith))
    ∙ ap (λ z. mark_at t z) is ∙ white in
    let here : LiesIn c.heap r s = ap (option_map (λ (b : Body). b.label)) (sym (w.only s lies)) ∙ lies in
    let n = swapped-length members p inside in
    let on = swept-lists c r members (p + 1) t w in
    let apart = lists-apart t.heap r members p s inside is on in
    let left = lists-freed t.heap r members p s inside is on in
    let mark : (x : ℕ) → x ≢ s → get_or (set t.marks s 0) x 0 ≡ get_or t.marks x 0 =
    λ x d. get_or-set_other t.marks s x 0 0 d in
    record {
      fits = omega (arith, n, inside);
      lie = left.lie;
      once = left.once;
      all = left.all;
      before = λ j l.
          let d : j ≢ p = omega arith in
          let e = swapped-other members p j d (omega (arith, inside)) in
          let off = apart j (omega (arith, inside)) d in
          ap (λ z. get_or (set t.marks s 0) z 0) e ∙ mark (get_or members j 0) off ∙ w.before j (omega arith)
          ∙ ap (λ z. get_or c.marks z 0) (sym e);
      after = λ j l m.
          let e = swapped members p j inside (omega (arith, n, m)) in
          let a = w.after e.0 (elim (e.4) [ inl x ↦ omega (arith, x.0, x.1, l) | inr x ↦ omega (arith, x.1, n, m, l) ])
          e.1 in
          let black : get_or c.marks (get_or (swap_remove members p 0) j 0) 0
          ≡ get_or c.marks (get_or members e.0 0) 0 = ap (λ z. get_or c.marks z 0) e.3 in (
            omega (arith, black, a.0),
            ap (λ z. get_or (set t.marks s 0) z 0) e.3 ∙ mark (get_or members e.0 0)
                (apart e.0 e.1 e.2) ∙ a.1,
          );
      black = λ x i m.
          let d : x ≢ s = λ q. let z : get_or c.marks x 0 ≡ 0 = ap (λ k. get_or c.marks k 0) q ∙ was in
          absurd (omega (arith, z, m)) in
          ap body_in (freed_other t.heap s x d) ∙ w.black x i m;
      others = λ x i.
          let d : x ≢ s = λ q. let L : ℕ → Type 0 = λ k. LiesIn c.heap r k in i (subst L (sym q) here) in
          let o = w.others x i in
          (freed_other t.heap s x d ∙ o.0, mark x d ∙ o.1, get_or-set_other t.links s x None None d ∙ o.2);
      only = λ x i. let f = lies_freed t.heap r s x room i in ap body_in (freed_other t.heap s x f.0) ∙ w.only x f.1;
      either = λ x i. elim (cases_eq x s) [
        | inl e ↦ inr (
          ap (body_at (freed t.heap s)) e ∙ freed_here t.heap s room,
          ap (λ z. get_or (set t.marks s 0) z 0) e ∙ zero_here t.marks s,
        )
        | inr d ↦ elim (w.either x i) [
          | inl q ↦ inl (ap body_in (freed_other t.heap s x d) ∙ q)
          | inr q
              ↦ inr (ap body_in (freed_other t.heap s x d) ∙ q.0, mark x d ∙ q.1)
        ]
      ];
      next = w.next;
      high = let o = held_once t.heap s (lies_held t.heap r s lies) in count-freed t.heap.slots s o.0 o.1 ∙ w.high;
    }

-- a black member becomes white
pub swept-keep : (c : Table) (r : ℕ) (members : List ℕ) (p s : ℕ) (t : Table) → get_or members p 0 ≡ s → mark_at t s ≢ 0
    → ((x : ℕ) → LiesIn c.heap r x → get_or c.marks x 0 ≢ 1) → Swept c r members (p + 1) t
    → Swept c r members p (record t { marks = set t.marks s 0 })
swept-keep c r members p s t is black none w =
    let inside : p < length members = omega (arith, w.fits) in
    let lies = lists-here t.heap r members p s inside is (swept-lists c r members (p + 1) t w) in
    let here : LiesIn c.heap r s = ap (option_map (λ (b : Body). b.label)) (sym (w.only s lies)) ∙ lies in
    let was : mark_at t s ≡ get_or c.marks s 0 = ap (λ z. mark_at t z) (sym is) ∙ w.before p (omega arith)
    ∙ ap (λ z. get_or c.marks z 0) is in
    let deep : 1 < get_or c.marks s 0 = let z = none s here in omega (arith, was, black, z) in
    let mark : (x : ℕ) → x ≢ s → get_or (set t.marks s 0) x 0 ≡ get_or t.marks x 0 =
    λ x d. get_or-set_other t.marks s x 0 0 d in
    let apart = lists-apart t.heap r members p s inside is (swept-lists c r members (p + 1) t w) in
    record {
      fits = omega (arith, w.fits);
      lie = w.lie;
      once = w.once;
      all = w.all;
      before = λ j l. mark (get_or members j 0) (apart j (omega (arith, inside)) (omega arith))
          ∙ w.before j (omega arith);
      after = λ j l m. elim (cases_eq j p) [
        | inl e ↦
            let at : get_or members j 0 ≡ s = ap (λ z. get_or members z 0) e ∙ is in
            let q : get_or c.marks (get_or members j 0) 0 ≡ get_or c.marks s 0 = ap (λ z. get_or c.marks z 0) at in
            (omega (arith, q, deep), ap (λ z. get_or (set t.marks s 0) z 0) at ∙ zero_here t.marks s)
        | inr d ↦ let a = w.after j (omega arith) m in (a.0, mark (get_or members j 0) (apart j m d) ∙ a.1)
      ];
      black = w.black;
      others = λ x i. let d : x ≢ s = λ q. let L : ℕ → Type 0 = λ k. LiesIn c.heap r k in i (subst L (sym q) here) in
          let o = w.others x i in
          (o.0, mark x d ∙ o.1, o.2);
      only = w.only;
      either = λ x i. elim (w.either x i) [
        | inl q ↦ inl q
        | inr q ↦ elim (cases_eq x s) [
          | inl e ↦ inr (q.0, ap (λ z. get_or (set t.marks s 0) z 0) e ∙ zero_here t.marks s)
          | inr d
              ↦ inr (q.0, mark x d ∙ q.1)
        ]
      ];
      next = w.next;
      high = w.high;
    }
