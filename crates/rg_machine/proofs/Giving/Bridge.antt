-- A region gets another bridge, and what leads into it from outside leads to that: what the machine holds stands again.
use Rattle.std.proofs.Common.{◌≡◌, ◌≢◌, ◌⊎◌, inl, inr, ℕ, List, Option, Some, None, is_some, length, reverse, slice_get, slice_set, refl, sym, ap, subst, ◌∙◌}
use Rattle.std.proofs.lemmas.Bool.{cases_eq}
use Rattle.std.proofs.lemmas.Option.{same_Some}
use Rattle.rg_base.specs.declared.value.Word.{Word}
use Rattle.rg_base.specs.declared.value.Word.TheVariants.{Slot}
use Rattle.rg_base.proofs.Callers.Labels.{region-same, temp-region}
use Rattle.rg_cells.specs.Table.{IsHeld, field_at, label_at}
use Rattle.rg_regions.specs.Table.{Record, RegionTable, HasNumber, IsBridge, changed, record_at, with_bridge}
use Rattle.rg_regions.specs.Reach.{LiesIn}
use Rattle.rg_regions.proofs.Callers.Changed.{changed_at, changed_other}
use Rattle.rg_regions.proofs.Callers.Told.{lies_held, number_of as has-number}
use Rattle.rg_frames.specs.declared.rows.Window.{Window as WindowRow}
use Rattle.rg_frames.specs.Stack.{Stack}
use Rattle.rg_heap.specs.Parts.{Parts}
use Rattle.rg_heap.specs.Opened.{IsWindow}
use Rattle.rg_view.specs.Lain.{Nested}
use Rattle.rg_view.specs.Numbers.{HasBridges, Numbers}
use Rattle.rg_view.proofs.Callers.Manager.{SameNumbers}
use Rattle.rg_view.proofs.Callers.Table.{fewer-numbers}
use Rattle.rg_machine.specs.Stands.{Stands}
use Rattle.rg_machine.proofs.Kept.{numbered}

-- the same records, but for the bridge of one region
pub record Rebridged (old new : RegionTable) (r slot : ℕ) : Type 0 where
  pub same : SameNumbers old new
  pub number : (k n : ℕ) → HasNumber old k n → HasNumber new k n
  pub was : (k n : ℕ) → HasNumber new k n → HasNumber old k n
  pub bridge : IsBridge new r slot
  pub others : (n s : ℕ) → n ≢ r → IsBridge old n s → IsBridge new n s
  pub numbers : Numbers new
  pub bridges : HasBridges new

module _ (t : RegionTable) (key r slot : ℕ) (has : HasNumber t key r) (first : r ≢ 0) (q : Numbers t) (b : HasBridges t) where
  abbrev new : RegionTable
  new = changed t key (with_bridge slot)

  abbrev it : (x : Record) × (record_at t key ≡ Some x) × (x.number ≡ r)
  it = numbered t key r has

  at-key : record_at new key ≡ Some (with_bridge slot it.0)
  at-key = changed_at t key it.0 (with_bridge slot) it.1

  other : (k : ℕ) → k ≢ key → record_at new k ≡ record_at t k
  other k d = changed_other t key (with_bridge slot) k d

  next : new.next ≡ t.next
  next =
      ap (λ (o : Option Record). (λ (x : RegionTable). x.next) (elim o [
        | None ↦ t
        | Some x ↦ record t { records = slice_set t.records key (Some (with_bridge slot x)) }
      ])) it.1

  -- a record is what it was, or that of the region
  record-was : (k : ℕ) (x : Record) → record_at new k ≡ Some x
      → ((k ≢ key) × (record_at t k ≡ Some x)) ⊎ ((k ≡ key) × (x ≡ with_bridge slot it.0))
  record-was k x e = elim (cases_eq k key) [
    | inl is ↦ inr (is, same_Some x (with_bridge slot it.0) (sym e ∙ ap (record_at new) is ∙ at-key))
    | inr d ↦ inl (d, sym (other k d) ∙ e)
  ]

  numbers-same : SameNumbers t new
  numbers-same = record {
    next = next;
    there = λ k x e. elim (record-was k x e) [
      | inl a ↦ (x, a.1, refl, refl)
      | inr a ↦
          (it.0, ap (record_at t) a.0 ∙ it.1, ap (λ (x : Record). x.number) (sym a.1), ap (λ (x : Record). x.manager) (sym a.1))
    ];
    back = λ k x e. elim (cases_eq k key) [
      | inl is ↦
          let same : it.0 ≡ x = same_Some it.0 x (sym it.1 ∙ ap (record_at t) (sym is) ∙ e) in
          (with_bridge slot it.0, ap (record_at new) is ∙ at-key, ap (λ (x : Record). x.number) (sym same))
      | inr d ↦ (x, other k d ∙ e, refl)
    ];
  }

  bridges-on : (n s : ℕ) → n ≢ r → IsBridge t n s → IsBridge new n s
  bridges-on n s d x = elim (cases_eq x.0 key) [
    | inl is ↦
        let same : it.0 ≡ x.1 = same_Some it.0 x.1 (sym it.1 ∙ ap (record_at t) (sym is) ∙ x.2) in
        absurd (d (sym x.3 ∙ ap (λ (x : Record). x.number) (sym same) ∙ it.2))
    | inr e ↦ (x.0, x.1, other x.0 e ∙ x.2, x.3, x.4)
  ]

  pub rebridged : Rebridged t new r slot
  rebridged = record {
    same = numbers-same;
    number = λ k n x. let u = numbered t k n x in let y = numbers-same.back k u.0 u.1 in has-number new k n y.0 y.1 (sym y.2 ∙ u.2);
    was = λ k n x. let u = numbered new k n x in let y = numbers-same.there k u.0 u.1 in has-number t k n y.0 y.1 (y.2 ∙ u.2);
    bridge = (key, with_bridge slot it.0, at-key, it.2, refl);
    others = bridges-on;
    numbers = fewer-numbers t new (record { next = next; there = numbers-same.there }) q;
    bridges = λ k x e. elim (record-was k x e) [
      | inl a ↦ b k x a.1
      | inr a ↦
          let number : x.number ≡ r = ap (λ (x : Record). x.number) a.1 ∙ it.2 in (
            λ d. ap (λ (x : Record). is_some x.bridge) a.1,
            λ zero. absurd (first (sym number ∙ zero)),
          )
    ];
  }

-- A region that no window has open gets another bridge; what led there from outside leads to the bridge or elsewhere.
module _ (old new : Parts) (v : Stack) (words : List Word) (r slot : ℕ) (h : Stands old v) (t : Rebridged old.regions new.regions r slot)
    (shut : (i : ℕ) (u : WindowRow) → IsWindow v i u → HasNumber old.regions u.region r → ⊥) (lies : LiesIn old.cells.heap r slot)
    (labels : (s : ℕ) → label_at new.cells.heap s ≡ label_at old.cells.heap s)
    (held : (s : ℕ) → IsHeld old.cells.heap s → IsHeld new.cells.heap s) (many : length words ≡ length v.slots)
    (slots : (j s : ℕ) → slice_get words j ≡ Some (Slot s)
    → (s ≡ slot) ⊎ ((slice_get v.slots j ≡ Some (Slot s)) × (LiesIn old.cells.heap r s → ⊥)))
    (fields : (x k to : ℕ) → field_at new.cells.heap x k ≡ Some (Slot to)
    → (to ≡ slot) ⊎ ((field_at old.cells.heap x k ≡ Some (Slot to)) × (LiesIn old.cells.heap r x ⊎ (LiesIn old.cells.heap r to → ⊥)))) where
  lay : (n s : ℕ) → LiesIn new.cells.heap n s → LiesIn old.cells.heap n s
  lay n s l = sym (labels s) ∙ l

  -- what lies where the new bridge does lies in its region
  same-region : (n s : ℕ) → s ≡ slot → LiesIn new.cells.heap n s → r ≡ n
  same-region n s e l = region-same r n (sym lies ∙ ap (label_at old.cells.heap) (sym e) ∙ lay n s l)

  to-bridge : (n s : ℕ) → s ≡ slot → LiesIn new.cells.heap n s → IsBridge new.regions n s
  to-bridge n s e l =
      subst (λ n. IsBridge new.regions n s) (same-region n s e l) (subst (IsBridge new.regions r) (sym e) t.bridge)

  away : (n s : ℕ) → (LiesIn old.cells.heap r s → ⊥) → LiesIn old.cells.heap n s → n ≢ r
  away n s out l e = out (subst (λ n. LiesIn old.cells.heap n s) e l)

  pub bridged-stands : Stands new (record v { slots = words })
  bridged-stands = record {
    opened = record {
      as_many = h.opened.as_many;
      first = λ u e. t.number u.region 0 (h.opened.first u e);
      some = h.opened.some;
      known = λ i u e. let n = h.opened.known i u e in (n.0, t.number u.region n.0 n.1);
      differ = h.opened.differ;
      temps = λ i s u e of. labels s ∙ h.opened.temps i s u e of;
      all_temps = λ i s u e l. h.opened.all_temps i s u e (sym (labels s) ∙ l);
      once = h.opened.once;
      slots = λ j s e. held s (elim (slots j s e) [
        | inl is ↦ subst (IsHeld old.cells.heap) (sym is) (lies_held old.cells.heap r slot lies)
        | inr was ↦ h.opened.slots j s was.0
      ]);
      lead = λ j s e k to f. held to (elim (fields s k to f) [
        | inl is ↦ subst (IsHeld old.cells.heap) (sym is) (lies_held old.cells.heap r slot lies)
        | inr was ↦ h.opened.lead j s e k to was.0
      ]);
      parents = λ i u n p e has a. elim (fields a.from a.field a.to a.leads) [
        | inl is ↦ absurd (shut i u e (subst (HasNumber old.regions u.region) (sym (same-region n a.to is a.child_has)) (t.was u.region n has)))
        | inr was ↦
            let y = h.opened.parents i u n p e (t.was u.region n has) (record {
              differ = a.differ;
              from = a.from;
              field = a.field;
              to = a.to;
              lies = lay p a.from a.lies;
              leads = was.0;
              child_has = lay n a.to a.child_has;
            }) in
            (y.0, y.1, y.2, y.3, t.number y.1.region p y.4)
      ];
    };
    lain = (let P : ℕ → Type 0 = λ n. Nested v.first n (reverse v.frames) in subst P (sym many) h.lain);
    some = h.some;
    numbers = t.numbers;
    bridges = t.bridges;
    window_numbers = h.window_numbers;
    windows_next = h.windows_next;
    temps = λ s n e. h.temps s n (sym (labels s) ∙ e);
    slots = λ j s n e l behind. elim (slots j s e) [
      | inl is ↦ to-bridge n s is l
      | inr was ↦
          t.others n s (away n s was.1 (lay n s l)) (h.slots j s n was.0 (lay n s l) (λ i u f has. behind i u f (t.number u.region n has)))
    ];
    fields = λ i s k to n u e of f l later. elim (fields s k to f) [
      | inl is ↦ to-bridge n to is l
      | inr was ↦ elim was.1 [
        | inl inside ↦ absurd (temp-region u.number r (sym (h.opened.temps i s u e of) ∙ inside))
        | inr out ↦
            t.others n to (away n to out (lay n to l))
            (h.fields i s k to n u e of was.0 (lay n to l) (λ j o x has. later j o x (t.number o.region n has)))
      ]
    ];
    first_mark = h.first_mark;
  }
