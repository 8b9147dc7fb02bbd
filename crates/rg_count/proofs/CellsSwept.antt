-- Each turn of sweeping: a member without a count and a flag is freed, any other stays.
use Rattle.std.proofs.Common.{◌≡◌, ◌≢◌, ℕ, ◌+◌, ◌<◌, List, length, Some, None, get_or, set, ap, sym, ◌∙◌, subst}
use Rattle.std.proofs.Common.{arith, ◌⊎◌, inl, inr, option_map}
use Rattle.std.specs.List.{swap_remove}
use Rattle.std.proofs.lemmas.List.{get_or-set_other}
use Rattle.std.proofs.lemmas.Bool.{cases_eq}
use Rattle.rg_base.specs.declared.object.Label.TheVariants.{Region}
use Rattle.rg_cells.specs.declared.cell.Body.{Body}
use Rattle.rg_cells.specs.Table.{Table, body_at, body_in, mark_at, link_at, freed, freed_from}
use Rattle.rg_regions.specs.Reach.{LiesIn}
use Rattle.rg_regions.proofs.Callers.Told.{lies_or_not}
use Rattle.rg_regions.proofs.Callers.MembersSwept.{Lists, lists-here, lists-freed}
use Rattle.rg_regions.proofs.Callers.Told.{lies_held}
use Rattle.rg_regions.proofs.Callers.Freed.{zero_here, count-freed, held_once, lies_within, freed_here, freed_other}
use Rattle.rg_regions.proofs.Callers.Freed.{swapped, swapped-length}
use Rattle.rg_count.specs.Inner.Sweeping.{Swept, Goes}

-- what lies in the region lay in it before
pub swept-in : (c : Table) (r : ℕ) (members : List ℕ) (p : ℕ) (t : Table) (x : ℕ) → Swept c r members p t
    → LiesIn t.heap r x → LiesIn c.heap r x
swept-in c r members p t x w l = elim (lies_or_not c.heap r x) [
  | inr i ↦ i
  | inl out ↦
      let o = w.others x out in
      ap (option_map (λ (b : Body). b.label)) (sym (ap body_in o.0)) ∙ l
]

-- what lies in the region is as it was
pub swept-same : (c : Table) (r : ℕ) (members : List ℕ) (p : ℕ) (t : Table) (x : ℕ) → Swept c r members p t
    → LiesIn t.heap r x → (body_at t.heap x ≡ body_at c.heap x) × (mark_at t x ≡ mark_at c x)
    × (link_at t x ≡ link_at c x)
swept-same c r members p t x w l = elim (w.either x (swept-in c r members p t x w l)) [
  | inl a ↦ a
  | inr a ↦ let q : None ≡ Some (Region r) = sym (ap (option_map (λ (b : Body). b.label)) a.0) ∙ l in cc
]

-- what is said of the members
pub swept-lists : (c : Table) (r : ℕ) (members : List ℕ) (p : ℕ) (t : Table) → Swept c r members p t → Lists t.heap r members
swept-lists c r members p t w = record { lie = w.lie; once = w.once; all = w.all }

-- a member without a count and a flag is freed
pub swept-free : (c : Table) (r : ℕ) (members : List ℕ) (p s : ℕ) (t : Table) → get_or members p 0 ≡ s → mark_at t s ≡ 0
    → link_at t s ≢ Some s → Swept c r members (p + 1) t → Swept c r (swap_remove members p 0) p (freed_from t s)
swept-free c r members p s t is none off w =
    let inside : p < length members = omega (arith, w.fits) in
    let on = swept-lists c r members (p + 1) t w in
    let lies = lists-here t.heap r members p s inside is on in
    let room : s < length t.heap.slots = lies_within t.heap r s lies in
    let here : LiesIn c.heap r s = swept-in c r members (p + 1) t s w lies in
    let same = swept-same c r members (p + 1) t s w lies in
    let goes : Goes c s = (sym same.1 ∙ none, (λ q. off (same.2 ∙ q))) in
    let n = swapped-length members p inside in
    let left = lists-freed t.heap r members p s inside is on in
    let mark : (x : ℕ) → x ≢ s → get_or (set t.marks s 0) x 0 ≡ get_or t.marks x 0 =
    λ x d. get_or-set_other t.marks s x 0 0 d in
    let link : (x : ℕ) → x ≢ s → get_or (set t.links s None) x None ≡ get_or t.links x None =
    λ x d. get_or-set_other t.links s x None None d in
    record {
      fits = omega (arith, n, inside);
      lie = left.lie;
      once = left.once;
      all = left.all;
      after = λ j l m g.
          let e = swapped members p j inside (omega (arith, n, m)) in
          let G : ℕ → Type 0 = λ z. Goes c z in
          w.after e.0 (elim (e.4) [ inl x ↦ omega (arith, x.0, x.1, l) | inr x ↦ omega (arith, x.1, n, m, l) ]) e.1
          (subst G e.3 g);
      either = λ x i. elim (cases_eq x s) [
        | inl e ↦
            let G : ℕ → Type 0 = λ z. Goes c z in
            inr (
              ap (body_at (freed t.heap s)) e ∙ freed_here t.heap s room,
              ap (λ z. get_or (set t.marks s 0) z 0) e ∙ zero_here t.marks s,
              subst G (sym e) goes,
            )
        | inr d ↦ elim (w.either x i) [
          | inl q ↦ inl (ap body_in (freed_other t.heap s x d) ∙ q.0, mark x d ∙ q.1, link x d ∙ q.2)
          | inr q ↦ inr (ap body_in (freed_other t.heap s x d) ∙ q.0, mark x d ∙ q.1, q.2)
        ]
      ];
      others = λ x i.
          let d : x ≢ s = λ q. let L : ℕ → Type 0 = λ k. LiesIn c.heap r k in i (subst L (sym q) here) in
          let o = w.others x i in
          (freed_other t.heap s x d ∙ o.0, mark x d ∙ o.1, link x d ∙ o.2);
      next = w.next;
      high = let o = held_once t.heap s (lies_held t.heap r s lies) in count-freed t.heap.slots s o.0 o.1 ∙ w.high;
    }

-- a member with a count or a flag stays
pub swept-keep : (c : Table) (r : ℕ) (members : List ℕ) (p s : ℕ) (t : Table) → get_or members p 0 ≡ s
    → ((mark_at t s ≢ 0) ⊎ (link_at t s ≡ Some s)) → Swept c r members (p + 1) t → Swept c r members p t
swept-keep c r members p s t is why w =
    let inside : p < length members = omega (arith, w.fits) in
    let on = swept-lists c r members (p + 1) t w in
    let lies = lists-here t.heap r members p s inside is on in
    let same = swept-same c r members (p + 1) t s w lies in
    record {
      fits = omega (arith, w.fits);
      lie = w.lie;
      once = w.once;
      all = w.all;
      after = λ j l m g. elim (cases_eq j p) [
        | inl e ↦
            let G : ℕ → Type 0 = λ z. Goes c z in
            let q : Goes c s = subst G (ap (λ z. get_or members z 0) e ∙ is) g in
            elim why [ inl a ↦ a (same.1 ∙ q.0) | inr a ↦ q.1 (sym same.2 ∙ a) ]
        | inr d ↦ w.after j (omega arith) m g
      ];
      either = w.either;
      others = w.others;
      next = w.next;
      high = w.high;
    }
