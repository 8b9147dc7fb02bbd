-- Regions that keep their numbers and bridges where records change or one comes.
use Rattle.std.proofs.Common.{◌≡◌, ◌<◌, inl, inr, ℕ, [], ◌∷◌, Option, Some, None, option_map, refl, sym, ap, ◌∙◌, subst, arith}
use Rattle.std.proofs.lemmas.Bool.{cases_eq}
use Rattle.std.proofs.lemmas.Option.{none-some, same_Some}
use Rattle.rg_base.specs.declared.words.Manager.{Manager}
use Rattle.rg_regions.specs.Table.{Record, RegionTable, record_at, HasNumber, IsBridge, IsKey, with_room}
use Rattle.rg_regions.proofs.Callers.Told.{record_of_key, number_of as has-number}
use Rattle.rg_heap.specs.Changes.{Opens, Rewritten, SameRecords}
use Rattle.rg_view.specs.Numbers.{Bridged, HasBridges, Numbers}
use Rattle.rg_view.proofs.Callers.Manager.{SameNumbers, opens-numbers}
use Rattle.rg_view.proofs.Callers.Manager.{kept}

-- The regions

-- each region that was there has the number and the bridge that it had
pub record Kept (old new : RegionTable) : Type 0 where
  pub number : (k n : ℕ) → HasNumber old k n → HasNumber new k n
  pub bridge : (r s : ℕ) → IsBridge old r s → IsBridge new r s
  pub numbers : Numbers new
  pub bridges : HasBridges new

-- the same records but for members and room
record Kin (old new : RegionTable) : Type 0 where
  next : new.next ≡ old.next
  on : (k : ℕ) (r : Record) → record_at old k ≡ Some r → (u : Record) × (record_at new k ≡ Some u) × (u.number ≡ r.number) × (u.bridge ≡ r.bridge)
  back : (k : ℕ) (u : Record) → record_at new k ≡ Some u → (r : Record) × (record_at old k ≡ Some r) × (u.number ≡ r.number) × (u.bridge ≡ r.bridge)

-- the record of a number
pub numbered : (t : RegionTable) (k n : ℕ) → HasNumber t k n → (r : Record) × (record_at t k ≡ Some r) × (r.number ≡ n)
numbered t k n h = by (record_at t k) refl
  where
    by : (o : Option Record) → record_at t k ≡ o → (r : Record) × (record_at t k ≡ Some r) × (r.number ≡ n)
    by None e = absurd (none-some n (sym (ap (option_map (λ (x : Record). x.number)) e) ∙ h))
    by (Some r) e = (r, e, same_Some r.number n (sym (ap (option_map (λ (x : Record). x.number)) e) ∙ h))

-- another record with its number and its bridge
pub bridged-as : (u r : Record) → u.number ≡ r.number → u.bridge ≡ r.bridge → Bridged u.number u.bridge → Bridged r.number r.bridge
bridged-as u r number bridge b = subst (λ n. Bridged n r.bridge) number (subst (Bridged u.number) bridge b)

kin-kept : (old new : RegionTable) → Kin old new → Numbers old → HasBridges old → Kept old new
kin-kept old new w q b = record {
  number = λ k n h. let r = numbered old k n h in let u = w.on k r.0 r.1 in has-number new k n u.0 u.1 (u.2 ∙ r.2);
  bridge = λ r s h. let u = w.on h.0 h.1 h.2 in (h.0, u.0, u.1, u.2 ∙ h.3, u.3 ∙ h.4);
  numbers = record {
    below = λ k r e.
        let u = w.back k r e in
        let lt = q.below k u.0 u.1 in
        let n = w.next in
        let same = u.2 in
        omega (arith, lt, n, same);
    differ = λ k o r u e f same.
        let x = w.back k r e in
        let y = w.back o u f in
        q.differ k o x.0 y.0 x.1 y.1 (sym x.2 ∙ same ∙ y.2);
  };
  bridges = λ k r e. let u = w.back k r e in bridged-as u.0 r (sym u.2) (sym u.3) (b k u.0 u.1);
}

-- a record is written again, but for its number and bridge
pub rewritten-kept : (old new : RegionTable) (key : ℕ) (f : Record → Record) → Rewritten old new key f → IsKey old key
    → ((r : Record) → (f r).number ≡ r.number) → ((r : Record) → (f r).bridge ≡ r.bridge) → Numbers old → HasBridges old → Kept old new
rewritten-kept old new key f w known number bridge q b = kin-kept old new kin q b
  where
    kin : Kin old new
    kin =
        let r = record_of_key old key known in
        let now = w.is r.0 r.1 in
        record {
          next = w.next;
          on = λ k u e. elim (cases_eq k key) [
            | inl is ↦
                let same : r.0 ≡ u = same_Some r.0 u (sym r.1 ∙ ap (record_at old) (sym is) ∙ e) in (
                  with_room now.0 (f r.0),
                  ap (record_at new) is ∙ now.1,
                  number r.0 ∙ ap (λ (x : Record). x.number) same,
                  bridge r.0 ∙ ap (λ (x : Record). x.bridge) same,
                )
            | inr d ↦ (u, w.others k d ∙ e, refl, refl)
          ];
          back = λ k u e. elim (cases_eq k key) [
            | inl is ↦
                let same : with_room now.0 (f r.0) ≡ u = same_Some (with_room now.0 (f r.0)) u (sym now.1 ∙ ap (record_at new) (sym is) ∙ e) in (
                  r.0,
                  ap (record_at old) is ∙ r.1,
                  ap (λ (x : Record). x.number) (sym same) ∙ number r.0,
                  ap (λ (x : Record). x.bridge) (sym same) ∙ bridge r.0,
                )
            | inr d ↦ (u, sym (w.others k d) ∙ e, refl, refl)
          ];
        }

-- records stay
pub same-kept : (old new : RegionTable) → SameRecords old new → Numbers old → HasBridges old → Kept old new
same-kept old new s q b = kin-kept old new (record {
  next = s.next;
  on = λ k r e. (r, s.records k ∙ e, refl, refl);
  back = λ k u e. (u, sym (s.records k) ∙ e, refl, refl);
}) q b

pub equal-kept : (old new : RegionTable) → new ≡ old → Numbers old → HasBridges old → Kept old new
equal-kept old new e q b = subst (λ (t : RegionTable). Kept old t) (sym e) (record {
  number = λ k n h. h;
  bridge = λ r s h. h;
  numbers = q;
  bridges = b;
})

-- a region comes with its bridge
pub opens-kept : (old new : RegionTable) (key slot : ℕ) (manager : Manager) → Opens old new key slot manager → Numbers old → HasBridges old
    → 0 < old.next → Kept old new
opens-kept old new key slot manager o q b made = record {
  number = λ k n h. let r = numbered old k n h in has-number new k n r.0 (kept old new key slot manager o q k r.0 r.1) r.2;
  bridge = λ r s h. (h.0, h.1, kept old new key slot manager o q h.0 h.1 h.2, h.3, h.4);
  numbers = opens-numbers old new key slot manager o q;
  bridges = λ k r e. elim (cases_eq k key) [
    | inl is ↦
        let same : Some fresh ≡ Some r = sym o.is.1 ∙ ap (record_at new) (sym is) ∙ e in
        subst (λ (x : Record). Bridged x.number x.bridge) (same_Some fresh r same)
        (λ d. refl, λ zero. absurd (omega (arith, zero, made)))
    | inr n ↦ b k r (sym (o.others k n) ∙ e)
  ];
}
  where
    fresh : Record
    fresh = record { number = old.next; manager = manager; members = slot ∷ []; bridge = Some slot; room = o.is.0 }

-- the new region has its bridge
pub opens-bridge : (old new : RegionTable) (key slot : ℕ) (manager : Manager) → Opens old new key slot manager → IsBridge new old.next slot
opens-bridge old new key slot manager o =
    (key, record { number = old.next; manager = manager; members = slot ∷ []; bridge = Some slot; room = o.is.0 }, o.is.1, refl, refl)

pub equal-numbers : (old new : RegionTable) → new ≡ old → SameNumbers old new
equal-numbers old new e = subst (λ (t : RegionTable). SameNumbers old t) (sym e) (record {
  next = refl;
  there = λ k r f. (r, f, refl, refl);
  back = λ k r f. (r, f, refl);
})
