-- What managers and windows show where the records of a table change.
use Rattle.std.proofs.Common.{◌≡◌, ◌⊎◌, inl, inr, ℕ, Some, None, slice_get, refl, sym, ap, ◌∙◌, arith}
use Rattle.std.proofs.Common.{reverse}
use Rattle.std.proofs.lemmas.Bool.{cases_eq}
use Rattle.std.proofs.lemmas.Option.{none-some, same_Some}
use Rattle.rg_base.specs.declared.words.Manager.{Manager}
use Rattle.rg_regions.specs.Table.{Record, RegionTable, record_at, IsKey, with_room}
use Rattle.rg_regions.proofs.Callers.Told.{record_of_key}
use Rattle.rg_frames.specs.declared.rows.Window.{Window as WindowRow}
use Rattle.rg_frames.specs.Stack.{Stack}
use Rattle.rg_heap.specs.Changes.{Rewritten, SameRecords, Opens}
use Rattle.rg_held.proofs.Lists.{reverse-back}
use Rattle.rg_view.specs.View.{number_in, number_of, windows_of}
use Rattle.rg_view.specs.Numbers.{Numbers}
use Rattle.rg_view.proofs.Callers.Manager.{SameNumbers}
use Rattle.rg_view.proofs.Callers.Window.{windows-same}

-- a record that changes but for its number and manager
pub rewritten-numbers : (old new : RegionTable) (key : ℕ) (f : Record → Record) → Rewritten old new key f → IsKey old key
    → ((r : Record) → (f r).number ≡ r.number) → ((r : Record) → (f r).manager ≡ r.manager) → SameNumbers old new
rewritten-numbers old new key f w known number manager =
    let r = record_of_key old key known in
    let now = w.is r.0 r.1 in
    record {
      next = w.next;
      there = λ k u e. elim (cases_eq k key) [
        | inl is ↦
            let same : with_room now.0 (f r.0) ≡ u = same_Some (with_room now.0 (f r.0)) u (sym now.1 ∙ ap (record_at new) (sym is) ∙ e) in (
              r.0,
              ap (record_at old) is ∙ r.1,
              sym (number r.0) ∙ ap (λ (x : Record). x.number) same,
              sym (manager r.0) ∙ ap (λ (x : Record). x.manager) same,
            )
        | inr d ↦ (u, sym (w.others k d) ∙ e, refl, refl)
      ];
      back = λ k u e. elim (cases_eq k key) [
        | inl is ↦
            let same : r.0 ≡ u = same_Some r.0 u (sym r.1 ∙ ap (record_at old) (sym is) ∙ e) in
            (with_room now.0 (f r.0), ap (record_at new) is ∙ now.1, ap (λ (x : Record). x.number) (sym same) ∙ sym (number r.0))
        | inr d ↦ (u, w.others k d ∙ e, refl)
      ];
    }

-- records that stay
pub same-records : (old new : RegionTable) → SameRecords old new → SameNumbers old new
same-records old new s = record {
  next = s.next;
  there = λ k u e. (u, sym (s.records k) ∙ e, refl, refl);
  back = λ k u e. (u, s.records k ∙ e, refl);
}

-- a number of a record
pub number-at : (t : RegionTable) (key : ℕ) (r : Record) → record_at t key ≡ Some r → number_of t key ≡ r.number
number-at t key r e = ap number_in e

-- a key whose record keeps its number
pub same-number : (old new : RegionTable) (key : ℕ) → SameNumbers old new → IsKey old key → number_of new key ≡ number_of old key
same-number old new key s known =
    let u = record_of_key old key known in
    let r = s.back key u.0 u.1 in
    number-at new key r.0 r.1 ∙ sym r.2 ∙ sym (number-at old key u.0 u.1)

-- windows on regions that keep their numbers
pub kept-windows : (old new : RegionTable) (v : Stack)
    → ((i : ℕ) (w : WindowRow) → slice_get v.windows i ≡ Some w → number_of new w.region ≡ number_of old w.region)
    → windows_of new v ≡ windows_of old v
kept-windows old new v h = windows-same old new (reverse v.windows) (λ i w e. let j = reverse-back v.windows i w e in h j.0 w j.1)

pub same-windows : (old new : RegionTable) (v : Stack) → SameNumbers old new
    → ((i : ℕ) (w : WindowRow) → slice_get v.windows i ≡ Some w → IsKey old w.region) → windows_of new v ≡ windows_of old v
same-windows old new v s known = kept-windows old new v (λ i w e. same-number old new w.region s (known i w e))

-- so it is where a region comes
pub opens-windows : (old new : RegionTable) (v : Stack) (key slot : ℕ) (manager : Manager) → Opens old new key slot manager
    → ((i : ℕ) (w : WindowRow) → slice_get v.windows i ≡ Some w → IsKey old w.region) → windows_of new v ≡ windows_of old v
opens-windows old new v key slot manager o known = kept-windows old new v (λ i w e.
    let r = record_of_key old w.region (known i w e) in
    ap number_in (o.others w.region (λ is. none-some r.0 (sym o.vacant ∙ ap (record_at old) (sym is) ∙ r.1))))

-- Some regions go, and the others keep their records' numbers and managers.
pub record FewerNumbers (old new : RegionTable) : Type 0 where
  pub next : new.next ≡ old.next
  pub there : (key : ℕ) (r : Record) → record_at new key ≡ Some r
      → (u : Record) × (record_at old key ≡ Some u) × (u.number ≡ r.number) × (u.manager ≡ r.manager)

-- numbers still differ
pub fewer-numbers : (old new : RegionTable) → FewerNumbers old new → Numbers old → Numbers new
fewer-numbers old new f q = record {
  below = λ k r e.
      let u = f.there k r e in
      let lt = q.below k u.0 u.1 in
      let n = f.next in
      let same = u.2 in
      omega (arith, lt, n, same);
  differ = λ k m r x e g same.
      let u = f.there k r e in
      let w = f.there m x g in
      q.differ k m u.0 w.0 u.1 w.1 (u.2 ∙ same ∙ sym w.2);
}

-- where records go or stay, as at a release, a freeze and a merge
pub gone-or-same : (old new : RegionTable) → new.next ≡ old.next
    → ((key : ℕ) → (record_at new key ≡ None) ⊎ (record_at new key ≡ record_at old key)) → FewerNumbers old new
gone-or-same old new n h = record {
  next = n;
  there = λ k r e. elim (h k) [
    | inl g ↦ absurd (none-some r (sym g ∙ e))
    | inr s ↦ (r, sym s ∙ e, refl, refl)
  ];
}
