-- What is read of a closed region is a sound list (docs/architecture.md, "Cargo").
use Rattle.std.proofs.Common.{◌≡◌, ◌≢◌, ℕ, zero, suc, ◌≤◌, ◌⊎◌, inl, inr, true, List, [], ◌∷◌, map, length, Option, Some, None, IsSome, slice_get}
use Rattle.std.proofs.Common.{option_map}
use Rattle.std.proofs.Common.{refl, sym, ap, ◌∙◌, subst, arith}
use Rattle.std.specs.Prelude.{nat_eq, eqb}
use Rattle.std.specs.List.{list_any, position_or_len, IsDistinct}
use Rattle.std.proofs.lemmas.List.{length-map}
use Rattle.std.proofs.lemmas.Option.{same_Some, slice_get_within}
use Rattle.rg_base.specs.declared.object.Label.{Label}
use Rattle.rg_base.specs.declared.object.Label.TheVariants.{Region, Temp, Frozen}
use Rattle.rg_base.specs.declared.object.Seen.{Seen}
use Rattle.rg_base.specs.declared.words.Manager.{Manager}
use Rattle.rg_base.specs.declared.value.Val.{Val}
use Rattle.rg_base.specs.declared.value.Val.TheVariants.{Nil, Int, Bool, Obj}
use Rattle.rg_base.specs.declared.value.Word.TheVariants as words
use Rattle.rg_base.proofs.Callers.Labels.{region-number}
use Rattle.rg_cells.specs.declared.cell.Body.{Body}
use Rattle.rg_cells.specs.Table.{Heap, Table, body_at, label_at, field_at, high_of}
use Rattle.rg_regions.specs.Table.{RegionTable, IsBridge}
use Rattle.rg_regions.specs.Reach.{LiesIn}
use Rattle.rg_regions.specs.Grove.{Grove, Parent, Above, direct, further}
use Rattle.rg_regions.proofs.Callers.Told.{one_region}
use Rattle.rg_regions.proofs.Callers.Shares.{Distinct, place_has}
use Rattle.rg_regions.specs.Table.{Has}
use Rattle.rg_cown.specs.declared.cargo.CargoCell.{CargoCell}
use Rattle.rg_cown.specs.Cargo.{CargoList, SoundCargo, label_of, named_from, regions_named}
use Rattle.rg_cown.specs.Contents.{Reading, new_value, new_label, read_on, seen_in, manager_in, cargo_at}
use Rattle.rg_cown.specs.Inner.Reads.{Lasts}
use Rattle.rg_cown.proofs.Numbered.{Spreads, AllMet, numbered_where_few, read_once, one_distinct, stands_any}
use Rattle.rg_cown.proofs.ObjectsRead.{lasts_held, field_back, seen_label}
use Rattle.rg_cown.proofs.GroveLoaded.{there_is}
use Rattle.rg_cown.proofs.SoundParts.{HasField, Enters, from_below, regions_below, label_there}
use Rattle.rg_cown.proofs.SoundMade.{Holds, first_zero, sound_from}
use Rattle.rg_cown.proofs.PlacesKept.{Longer, Stays, longer_same, all_stay, numbered, number_there, numbered_back, cell_within}
use Rattle.rg_cown.proofs.FewHeld.{distinct, held_few}

-- a field of an object of the one region leads to an object of the other
pub record Leads (at : ℕ → Seen) (p q a j b : ℕ) : Type 0 where
  pub from : (at a).label ≡ Region p
  pub field : slice_get (at a).fields j ≡ Some (Obj b)
  pub to : (at b).label ≡ Region q
  pub other : p ≢ q

-- What a store has to say of the objects that are read, from the first object of a region on: frozen ones lead to frozen ones, into each
-- region one field leads at most, and into the first one none.
pub record Closed (at : ℕ → Seen) (P : ℕ → Type 0) (start region : ℕ) : Type 0 where
  pub here : P start
  pub lies : (at start).label ≡ Region region
  pub spreads : Spreads at P
  pub frozen : (a j b : ℕ) → P a → (at a).label ≡ Frozen → slice_get (at a).fields j ≡ Some (Obj b) → (at b).label ≡ Frozen
  pub once : (p q a j b p₂ a₂ j₂ b₂ : ℕ) → P a → P a₂ → Leads at p q a j b → Leads at p₂ q a₂ j₂ b₂ → (a ≡ a₂) × (j ≡ j₂)
  pub none_back : (p a j b : ℕ) → P a → Leads at p region a j b → ⊥

distinct_once : (xs : List ℕ) → Distinct xs → (i j x : ℕ) → slice_get xs i ≡ Some x → slice_get xs j ≡ Some x → i ≡ j
distinct_once [] d i j x e f = cc
distinct_once (y ∷ ys) d zero zero x e f = refl
distinct_once (y ∷ ys) d zero (suc j) x e f =
    let P : ℕ → Type 0 = λ z. Has ys z in absurd (d.0 (subst P (sym (same_Some y x e)) (place_has ys x j f)))
distinct_once (y ∷ ys) d (suc i) zero x e f =
    let P : ℕ → Type 0 = λ z. Has ys z in absurd (d.0 (subst P (sym (same_Some y x f)) (place_has ys x i e)))
distinct_once (y ∷ ys) d (suc i) (suc j) x e f = ap suc (distinct_once ys d.1 i j x e f)

-- the value that was given another number
value_back : (order : List ℕ) (y : ℕ) (vs : List Val) (j : ℕ) → slice_get (map (new_value order) vs) j ≡ Some (Obj y)
    → (b : ℕ) × (slice_get vs j ≡ Some (Obj b)) × (position_or_len (nat_eq b) order ≡ y)
value_back order y [] j e = cc
value_back order y (v ∷ vs) zero e = one v e
  where
    one : (v : Val) → Some (new_value order v) ≡ Some (Obj y) → (b : ℕ) × (Some v ≡ Some (Obj b)) × (position_or_len (nat_eq b) order ≡ y)
    one Nil e = cc
    one (Int i) e = cc
    one (Bool b) e = cc
    one (Obj a) e = (a, refl, number_is e)
      where
        number_is : Some (Obj (position_or_len (nat_eq a) order)) ≡ Some (Obj y) → position_or_len (nat_eq a) order ≡ y
        number_is q = cc
value_back order y (v ∷ vs) (suc j) e = value_back order y vs j e

region_back : (regions : List ℕ) (i : ℕ) (l : Label) → new_label regions l ≡ Region i
    → (r : ℕ) × (l ≡ Region r) × (position_or_len (nat_eq r) regions ≡ i)
region_back regions i (Region r) e = (r, refl, number_is e)
  where
    number_is : Region (position_or_len (nat_eq r) regions) ≡ Region i → position_or_len (nat_eq r) regions ≡ i
    number_is q = cc
region_back regions i (Temp n) e = cc
region_back regions i Frozen e = cc

frozen_back : (regions : List ℕ) (l : Label) → new_label regions l ≡ Frozen → l ≡ Frozen
frozen_back regions (Region r) e = cc
frozen_back regions (Temp n) e = cc
frozen_back regions Frozen e = refl

module _ (at : ℕ → Seen) (P : ℕ → Type 0) (manager : ℕ → Manager) (most start region : ℕ) (h : Closed at P start region)
    (few : (xs : List ℕ) → IsDistinct eqb xs → ((x : ℕ) → list_any (nat_eq x) xs ≡ true → P x) → length xs ≤ most) where
  abbrev pub begin : Reading
  begin = record { order = start ∷ []; regions = []; cells = [] }

  abbrev pub final : Reading
  final = read_on at most begin

  abbrev pub c : CargoList
  c = record { cells = final.cells; managers = map manager final.regions }

  objects : named_from 0 1 final.cells ≡ Some (length final.cells)
  objects = (numbered_where_few at P most start h.spreads h.here few).0

  regions : regions_named 0 final.cells ≡ Some (length final.regions)
  regions = (numbered_where_few at P most start h.spreads h.here few).1

  pub many : length final.order ≡ length final.cells
  many = (numbered_where_few at P most start h.spreads h.here few).2

  pub met : AllMet P final
  met = (numbered_where_few at P most start h.spreads h.here few).3

  stays : Stays at final × Longer begin.order final.order
  stays = all_stay at most begin (record { cells = λ k a x order regions e f. none_there k x f; fewer = omega arith })
    where
      none_there : (k : ℕ) (x : CargoCell) → slice_get [] k ≡ Some x → {X : Type 0} → X
      none_there k x f = cc

  pub start_there : slice_get final.order 0 ≡ Some start
  start_there = stays.1.there 0 start refl

  pub object_at : (k : ℕ) (x : CargoCell) → slice_get final.cells k ≡ Some x
      → (a : ℕ) × (slice_get final.order k ≡ Some a) × P a × (x ≡ numbered final.order final.regions (at a))
  object_at k x e =
      let l = cell_within final.cells k x e in
      let a = number_there final.order k (omega (arith, l, many)) in (
        a.0,
        a.1,
        met a.0 (stands_any final.order k a.0 a.1),
        stays.0.cells k a.0 x final.order final.regions a.1 e (longer_same final.order) (longer_same final.regions),
      )

  -- the same where the object is known
  pub object_is : (k a : ℕ) (x : CargoCell) → slice_get final.order k ≡ Some a → slice_get final.cells k ≡ Some x
      → x ≡ numbered final.order final.regions (at a)
  object_is k a x e f = stays.0.cells k a x final.order final.regions e f (longer_same final.order) (longer_same final.regions)

  field_read : (k j y : ℕ) → HasField final.cells k j (Obj y)
      → (a : ℕ) × (b : ℕ) × (slice_get final.order k ≡ Some a) × P a × (slice_get (at a).fields j ≡ Some (Obj b)) × (slice_get final.order y ≡ Some b)
  field_read k j y f =
      let o = object_at k f.cell f.there in
      let v : slice_get (map (new_value final.order) (at o.0).fields) j ≡ Some (Obj y) =
      sym (ap (λ (z : CargoCell). slice_get z.fields j) o.3) ∙ f.value in
      let b = value_back final.order y (at o.0).fields j v in
      let l = from_below final.cells 0 1 (length final.cells) k j y objects f in
      let n = b.2 in
      let Q : ℕ → Type 0 = λ z. slice_get final.order z ≡ Some b.0 in
      (o.0, b.0, o.1, o.2, b.1, subst Q n (numbered_back final.order b.0 (omega (arith, l, many, n))))

  label_read : (k i a : ℕ) → slice_get final.order k ≡ Some a → label_of final.cells k ≡ Some (Region i)
      → (r : ℕ) × ((at a).label ≡ Region r) × (position_or_len (nat_eq r) final.regions ≡ i) × (slice_get final.regions i ≡ Some r)
  label_read k i a e l =
      let x = label_there final.cells k (Region i) l in
      let q : new_label final.regions (at a).label ≡ Region i = sym (ap (λ (z : CargoCell). z.label) (object_is k a x.0 e x.1)) ∙ x.2 in
      let r = region_back final.regions i (at a).label q in
      let below = regions_below final.cells 0 (length final.regions) k i regions l in
      let n = r.2 in
      let Q : ℕ → Type 0 = λ z. slice_get final.regions z ≡ Some r.0 in
      (r.0, r.1, n, subst Q n (numbered_back final.regions r.0 (omega (arith, below, n))))

  frozen_read : (k a : ℕ) → slice_get final.order k ≡ Some a → label_of final.cells k ≡ Some Frozen → (at a).label ≡ Frozen
  frozen_read k a e l =
      let x = label_there final.cells k Frozen l in
      frozen_back final.regions (at a).label (sym (ap (λ (z : CargoCell). z.label) (object_is k a x.0 e x.1)) ∙ x.2)

  pub label_told : (k a : ℕ) → slice_get final.order k ≡ Some a → label_of final.cells k ≡ Some (new_label final.regions (at a).label)
  label_told k a e =
      let l = slice_get_within final.order k a e in
      let x = there_is final.cells k (omega (arith, l, many)) in
      ap (option_map (λ (z : CargoCell). z.label)) x.1 ∙ ap (λ (z : CargoCell). Some z.label) (object_is k a x.0 e x.1)

  first : label_of final.cells 0 ≡ Some (Region (position_or_len (nat_eq region) final.regions))
  first = label_told 0 start start_there ∙ ap (λ z. Some (new_label final.regions z)) h.lies

  -- region 0 is that of the first object
  region_first : slice_get final.regions 0 ≡ Some region
  region_first =
      let i = position_or_len (nat_eq region) final.regions in
      let z = first_zero final.cells (length final.regions) i regions first in
      let r = label_read 0 i start start_there first in
      let same : r.0 ≡ region = region-number r.0 region (sym r.1 ∙ h.lies) in
      let Q : ℕ → Type 0 = λ y. slice_get final.regions y ≡ Some region in
      subst Q z (r.3 ∙ ap Some same)

  leads_read : (p q k j y a b : ℕ) → Enters final.cells p q k j y → slice_get final.order k ≡ Some a → slice_get (at a).fields j ≡ Some (Obj b)
      → slice_get final.order y ≡ Some b → (pr : ℕ) × (qr : ℕ) × Leads at pr qr a j b × (slice_get final.regions q ≡ Some qr)
  leads_read p q k j y a b n e f g =
      let lp = label_read k p a e n.from in
      let lq = label_read y q b g n.to in (
        lp.0,
        lq.0,
        record {
          from = lp.1;
          field = f;
          to = lq.1;
          other = λ z. n.other (sym lp.2 ∙ ap (λ r. position_or_len (nat_eq r) final.regions) z ∙ lq.2);
        },
        lq.3,
      )

  pub read_holds : Holds c
  read_holds = record {
    numbered = record { objects = objects; regions = regions ∙ ap Some (sym (length-map final.regions manager)) };
    first = (position_or_len (nat_eq region) final.regions, first);
    frozen = λ k j y e f.
        let v = field_read k j y f in
        label_told y v.1 v.5 ∙ ap (λ z. Some (new_label final.regions z)) (h.frozen v.0 j v.1 v.3 (frozen_read k v.0 v.2 e) v.4);
    once = λ p q k j y p₂ k₂ j₂ y₂ n m.
        let v = field_read k j y n.field in
        let w = field_read k₂ j₂ y₂ m.field in
        let x = leads_read p q k j y v.0 v.1 n v.2 v.4 v.5 in
        let z = leads_read p₂ q k₂ j₂ y₂ w.0 w.1 m w.2 w.4 w.5 in
        let same : z.1 ≡ x.1 = same_Some z.1 x.1 (sym z.3 ∙ x.3) in
        let L : ℕ → Type 0 = λ r. Leads at z.0 r w.0 j₂ w.1 in
        let o = h.once x.0 x.1 v.0 j v.1 z.0 w.0 j₂ w.1 v.3 w.3 x.2 (subst L same z.2) in
        let Q : ℕ → Type 0 = λ r. slice_get final.order k₂ ≡ Some r in
        let d = distinct final.order (read_once at most begin (one_distinct start)) in
        (distinct_once final.order d k k₂ v.0 v.2 (subst Q (sym o.0) w.2), o.1);
    none_in = λ p k j y n.
        let v = field_read k j y n.field in
        let x = leads_read p 0 k j y v.0 v.1 n v.2 v.4 v.5 in
        let same : x.1 ≡ region = same_Some x.1 region (sym x.3 ∙ region_first) in
        let L : ℕ → Type 0 = λ r. Leads at x.0 r v.0 j v.1 in
        h.none_back x.0 v.0 j v.1 v.3 (subst L same x.2);
  }

-- Cells of a forest

-- a cell is frozen, or belongs to a region or to one beneath it
abbrev pub Beneath : Heap → (region slot : ℕ) → Type 0
Beneath h r s = (label_at h s ≡ Some Frozen) ⊎ ((p : ℕ) × LiesIn h p s × ((p ≡ r) ⊎ Above h r p))

beneath_lasts : (h : Heap) (r s : ℕ) → Beneath h r s → Lasts h s
beneath_lasts h r s l = elim l [ inl a ↦ inl a | inr b ↦ inr (b.0, b.1) ]

label_back : (o : Option Body) (l : Label) → IsSome o → (seen_in o).label ≡ l → option_map (λ (b : Body). b.label) o ≡ Some l
label_back None l held e = cc
label_back (Some b) l held e = ap Some e

module _ (t : Table) (regions : RegionTable) (r : ℕ) (g : Grove t regions) where
  abbrev pub h : Heap
  h = t.heap

  abbrev pub at : ℕ → Seen
  at s = seen_in (body_at h s)

  on : (s k to : ℕ) → Beneath h r s → field_at h s k ≡ Some (words.Slot to) → Beneath h r to
  on s k to l f = elim l [
    | inl a ↦ inl (g.frozen s k to a f)
    | inr b ↦ elim (g.fields b.0 s k to b.1 f) [
      | inl a ↦ inl a
      | inr x ↦ elim x [
        | inl a ↦ inr (b.0, a, b.2)
        | inr y ↦
            let parent : Parent h b.0 y.0 = record {
              differ = λ e. y.1 (sym e);
              from = s;
              field = k;
              to = to;
              lies = b.1;
              leads = f;
              child_has = y.2;
            } in
            let Q : ℕ → Type 0 = λ z. Above h z y.0 in
            inr (y.0, y.2, inr (elim b.2 [ inl e ↦ subst Q e (direct parent) | inr a ↦ further a parent ]))
      ]
    ]
  ]

  label_told_at : (s : ℕ) (l : Label) → label_at h s ≡ Some l → (at s).label ≡ l
  label_told_at s l e = sym (seen_label (body_at h s) l e)

  lies : (s : ℕ) (l : Label) → Beneath h r s → (at s).label ≡ l → label_at h s ≡ Some l
  lies s l b e = label_back (body_at h s) l (lasts_held h s (beneath_lasts h r s b)) e

  never : (s n : ℕ) → Beneath h r s → (at s).label ≡ Temp n → ⊥
  never s n b e = let l = lies s (Temp n) b e in elim b [ inl a ↦ by_frozen (sym l ∙ a) | inr a ↦ by_region a.0 (sym l ∙ a.1) ]
    where
      by_frozen : Some (Temp n) ≡ Some Frozen → ⊥
      by_frozen q = cc

      by_region : (p : ℕ) → Some (Temp n) ≡ Some (Region p) → ⊥
      by_region p q = cc

  back : (p s k to : ℕ) → Beneath h r s → Leads at p r s k to → ⊥
  back p s k to b w =
      let mine = lies s (Region p) b w.from in
      let field = field_back (body_at h s) k to w.field in
      let theirs = lies to (Region r) (on s k to b field) w.to in
      let parent : Parent h p r = record { differ = w.other; from = s; field = k; to = to; lies = mine; leads = field; child_has = theirs } in
      elim b [
        | inl a ↦ by_frozen (sym a ∙ mine)
        | inr a ↦
            let same : a.0 ≡ p = one_region h s a.0 p a.1 mine in
            let Q : ℕ → Type 0 = λ z. Above h r z in
            elim a.2 [ inl e ↦ w.other (sym same ∙ e) | inr u ↦ g.no_cycle r (further (subst Q same u) parent) ]
      ]
    where
      by_frozen : Some Frozen ≡ Some (Region p) → ⊥
      by_frozen q = cc

  closed : (bridge : ℕ) → IsBridge regions r bridge → Closed at (Beneath h r) bridge r
  closed bridge b =
      let Q : ℕ → Type 0 = λ z. LiesIn h z bridge in
      let first : LiesIn h r bridge = subst Q b.3 (g.bridges b.0 bridge b.1 b.2 b.4) in
      record {
        here = inr (r, first, inl refl);
        lies = label_told_at bridge (Region r) first;
        spreads = record { not_temp = λ a n l e. never a n l e; on = λ a k x l e. on a k x l (field_back (body_at h a) k x e) };
        frozen = λ a j x l e f. label_told_at x Frozen (g.frozen a j x (lies a Frozen l e) (field_back (body_at h a) j x f));
        once = λ p q a j x p₂ a₂ j₂ x₂ l m v w.
            let f = field_back (body_at h a) j x v.field in
            let f₂ = field_back (body_at h a₂) j₂ x₂ w.field in
            g.one_in q p a j x p₂ a₂ j₂ x₂ v.other (lies a (Region p) l v.from) f (lies x (Region q) (on a j x l f) v.to)
            w.other (lies a₂ (Region p₂) m w.from) f₂ (lies x₂ (Region q) (on a₂ j₂ x₂ m f₂) w.to);
        none_back = λ p a j x l w. back p a j x l w;
      }

  pub cargo_sound : (bridge : ℕ) → IsBridge regions r bridge → SoundCargo (cargo_at h regions bridge)
  cargo_sound bridge b =
      let few : (xs : List ℕ) → IsDistinct eqb xs → ((x : ℕ) → list_any (nat_eq x) xs ≡ true → Beneath h r x) → length xs ≤ high_of h =
      (λ xs d all. held_few h xs d (λ x m. beneath_lasts h r x (all x m))) in
      sound_from (cargo_at h regions bridge)
      (read_holds at (Beneath h r) (manager_in regions.records) (high_of h) bridge r (closed bridge b) few)
