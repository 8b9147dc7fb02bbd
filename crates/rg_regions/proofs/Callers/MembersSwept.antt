-- A loop that sweeps the members of one region, from the last one down (docs/architecture.md, "Regions").
use Rattle.std.proofs.Common.{◌≡◌, ◌≢◌, ℕ, ◌+◌, ◌-◌, ◌<◌, ◌≤◌, List, length, Some, get_or, ap, sym, ◌∙◌, subst, arith}
use Rattle.std.proofs.Common.{inl, inr, option_map}
use Rattle.std.specs.List.{swap_remove}
use Rattle.std.proofs.lemmas.Bool.{cases_eq, cases_lt}
use Rattle.std.proofs.lemmas.Option.{slice_get_within, slice_get-get_or, same_Some}
use Rattle.rg_cells.specs.Table.{Heap, Table, IsHeld, freed, freed_from}
use Rattle.rg_regions.specs.Table.{Record, RegionTable, record_at, changed, without_member}
use Rattle.rg_regions.specs.Reach.{LiesIn}
use Rattle.rg_regions.specs.Grove.{Members}
use Rattle.rg_regions.specs.Dropped.{MembersLeft}
use Rattle.rg_regions.proofs.Callers.Told.{same_members, lies_held}
use Rattle.rg_regions.proofs.Callers.Freed.{lies_within, lies_freed, freed_lies, swapped, swapped-length, swapped-here}
use Rattle.rg_regions.proofs.Callers.Freed.{swapped-other}
use Rattle.rg_regions.proofs.Callers.Dropped.{left_begin, left_now, left_keep, left_drop}

-- each of the members lies in the region, none stands twice, and all that lies in it stands there
pub record Lists (h : Heap) (r : ℕ) (members : List ℕ) : Type 0 where
  pub lie : (j : ℕ) → j < length members → LiesIn h r (get_or members j 0)
  pub once : (j k : ℕ) → j < k → k < length members → get_or members j 0 ≢ get_or members k 0
  pub all : (s : ℕ) → LiesIn h r s → (j : ℕ) × (j < length members) × (get_or members j 0 ≡ s)

-- so it is said of places what the forest says of members, and back
pub lists_of : (h : Heap) (r : ℕ) (members : List ℕ) → Members h r members → Lists h r members
lists_of h r members m = record {
  lie = λ j l. m.lie j (get_or members j 0) (slice_get-get_or members j 0 l);
  once = λ j k l n z.
      let q : j ≡ k = m.once j k (get_or members j 0) (slice_get-get_or members j 0 (omega arith))
      (slice_get-get_or members k 0 n ∙ ap Some (sym z)) in
      omega (arith, l, q);
  all = λ s l.
      let a = m.all s l in
      let within = slice_get_within members a.0 s a.1 in
      (a.0, within, same_Some (get_or members a.0 0) s (sym (slice_get-get_or members a.0 0 within) ∙ a.1));
}

pub members_of : (h : Heap) (r : ℕ) (members : List ℕ) → Lists h r members → Members h r members
members_of h r members w = record {
  lie = λ j x q.
      let a = slice_get_within members j x q in
      let e = same_Some (get_or members j 0) x (sym (slice_get-get_or members j 0 a) ∙ q) in
      let L : ℕ → Type 0 = λ y. LiesIn h r y in
      subst L e (w.lie j a);
  all = λ x l. let p = w.all x l in (p.0, slice_get-get_or members p.0 0 p.1 ∙ ap Some p.2);
  once = λ i j x p q.
      let a = slice_get_within members i x p in
      let b = slice_get_within members j x q in
      let z : get_or members i 0 ≡ get_or members j 0 = same_Some (get_or members i 0) (get_or members j 0)
      (sym (slice_get-get_or members i 0 a) ∙ p ∙ sym q ∙ slice_get-get_or members j 0 b) in
      elim (cases_lt i j) [
        | inl y ↦ absurd (w.once i j y b z)
        | inr y ↦ elim (cases_eq i j)
            [ inl k ↦ k | inr k ↦ let v : j < i = omega arith in absurd (w.once j i v a (sym z)) ]
      ];
}

module _ (h : Heap) (r : ℕ) (members : List ℕ) (p s : ℕ) (inside : p < length members)
    (is : get_or members p 0 ≡ s) (w : Lists h r members) where
  -- the member at a place is a cell of the region, and no other member is it
  pub lists-here : LiesIn h r s
  lists-here = let P : ℕ → Type 0 = λ z. LiesIn h r z in subst P is (w.lie p inside)

  pub lists-apart : (k : ℕ) → k < length members → k ≢ p → get_or members k 0 ≢ s
  lists-apart k l d e = elim (cases_lt k p) [
    | inl m ↦ w.once k p m inside (e ∙ sym is)
    | inr m ↦ let q : p < k = omega arith in w.once p k q l (is ∙ sym e)
  ]

  -- where it is freed and dropped, the same holds of what is left
  pub lists-freed : Lists (freed h s) r (swap_remove members p 0)
  lists-freed =
      let room = lies_within h r s lists-here in
      let n = swapped-length members p inside in
      record {
        lie = λ j l.
            let e = swapped members p j inside (omega (arith, n, l)) in
            let L : ℕ → Type 0 = λ z. LiesIn (freed h s) r z in
            subst L (sym e.3) (freed_lies h r s (get_or members e.0 0) (lists-apart e.0 e.1 e.2) (w.lie e.0 e.1));
        once = λ j k m l q.
            let a = swapped members p j inside (omega (arith, n, l)) in
            let b = swapped members p k inside (omega (arith, n, l)) in
            let same : get_or members a.0 0 ≡ get_or members b.0 0 = sym a.3 ∙ q ∙ b.3 in
            let d : a.0 ≢ b.0 = λ z. elim (a.4) [
              | inl x ↦ elim (b.4) [
                | inl y ↦ absurd (omega (arith, x.1, y.1))
                | inr y ↦ absurd (omega (arith, x.1, y.1, n, l))
              ]
              | inr x ↦ elim (b.4) [
                | inl y ↦ absurd (omega (arith, x.1, y.1, n, l))
                | inr y ↦ absurd (omega (arith, x.0, y.0))
              ]
            ] in
            elim (cases_lt a.0 b.0) [
              | inl z ↦ w.once a.0 b.0 z b.1 same
              | inr z ↦ let v : b.0 < a.0 = omega arith in
                  w.once b.0 a.0 v a.1 (sym same)
            ];
        all = λ x i.
            let f = lies_freed h r s x room i in
            let a = w.all x f.1 in
            let off : a.0 ≢ p = λ z. f.0 (sym a.2 ∙ ap (λ k. get_or members k 0) z ∙ is) in
            elim (cases_lt (a.0 + 1) (length members)) [
              | inl m ↦ (a.0, omega (arith, n, m), swapped-other members p a.0 off m ∙ a.2)
              | inr m ↦
                  let last : a.0 ≡ length members - 1 = omega (arith, a.1) in
                  let z : p + 1 < length members = omega (arith, inside) in
                  (p, omega (arith, n, z), swapped-here members p z ∙ ap (λ k. get_or members k 0) (sym last) ∙ a.2)
            ];
      }

-- a turn: the record as it is now, with the member in front of the place, which is held
pub record Turn (h : Heap) (regions : RegionTable) (key place slot : ℕ) : Type 0 where
  pub now : Record
  pub there : record_at regions key ≡ Some now
  pub within : place - 1 < length now.members
  pub is : get_or now.members (place - 1) 0 ≡ slot
  pub held : IsHeld h slot

-- what is said of the members that are left, of the place that the loop stands before, and of the cells
module _ (S : ℕ → List ℕ → ℕ → Table → Type 0) (t : RegionTable) (key : ℕ) (rec : Record)
    (e : record_at t key ≡ Some rec) where
  -- before the first turn, with the members as they were read
  pub sweep_begins : (c : Table) (members : List ℕ) → option_map (λ (r : Record). r.members) (record_at t key) ≡ Some members
      → S rec.number rec.members (length rec.members) c → MembersLeft t key (λ r ms. S r ms (length members) c) t
  sweep_begins c members is s =
      let P : List ℕ → Type 0 = λ z. MembersLeft t key (λ r ms. S r ms (length z) c) t in
      subst P (same_members (record_at t key) rec members e is)
      (left_begin t key rec e (λ r ms. S r ms (length rec.members) c) s)

  module _ (cells : Table) (regions : RegionTable) (place : ℕ)
      (w : MembersLeft t key (λ r ms. S r ms place cells) regions) (l : 0 < place) where
    abbrev before : ℕ → List ℕ → Type 0
    before r ms = S r ms place cells

    pub turn_of : ((ms : List ℕ) → S rec.number ms place cells → (place ≤ length ms) × Lists cells.heap rec.number ms)
        → (members : List ℕ) → option_map (λ (r : Record). r.members) (record_at regions key) ≡ Some members
        → Turn cells.heap regions key place (get_or members (place - 1) 0)
    turn_of said members is =
        let s = left_now t key rec e before before regions w in
        let a = said s.0.members s.2 in
        let same : s.0.members ≡ members = same_members (record_at regions key) s.0 members s.1 is in
        let H : List ℕ → Type 0 = λ z. IsHeld cells.heap (get_or z (place - 1) 0) in
        record {
          now = s.0;
          there = s.1;
          within = omega (arith, a.0, l);
          is = ap (λ (z : List ℕ). get_or z (place - 1) 0) same;
          held = subst H same (lies_held cells.heap rec.number (get_or s.0.members (place - 1) 0)
              (a.1.lie (place - 1) (omega (arith, a.0, l))));
        }

    module _ (slot : ℕ) (x : Turn cells.heap regions key place slot) where
      one_more : S rec.number x.now.members place cells → S rec.number x.now.members (place - 1 + 1) cells
      one_more s = let T : ℕ → Type 0 = λ z. S rec.number x.now.members z cells in subst T (omega (arith, l)) s

      -- the member is freed and dropped
      pub turn_drops : (next : RegionTable) (new : Table) → next ≡ changed regions key (without_member (place - 1))
          → new ≡ freed_from cells slot
          → ((ms : List ℕ) (p : ℕ) → get_or ms p 0 ≡ slot → S rec.number ms (p + 1) cells
          → S rec.number (swap_remove ms p 0) p (freed_from cells slot))
          → MembersLeft t key (λ r ms. S r ms (place - 1) new) next
      turn_drops next new n a turn =
          left_drop t key rec e before (λ r ms. S r ms (place - 1) new) regions w x.now x.there (place - 1) next n (λ s.
          let N : Table → Type 0 = λ z. S rec.number (swap_remove x.now.members (place - 1) 0) (place - 1) z in
          subst N (sym a) (turn x.now.members (place - 1) x.is (one_more s)))

      -- the member is kept
      pub turn_keeps : (new : Table)
          → ((ms : List ℕ) (p : ℕ) → get_or ms p 0 ≡ slot → S rec.number ms (p + 1) cells → S rec.number ms p new)
          → MembersLeft t key (λ r ms. S r ms (place - 1) new) regions
      turn_keeps new turn =
          left_keep t key rec e before (λ r ms. S r ms (place - 1) new) regions w x.now x.there
          (λ s. turn x.now.members (place - 1) x.is (one_more s))
