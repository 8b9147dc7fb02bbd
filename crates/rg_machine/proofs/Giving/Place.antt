-- What leaving a window with another bridge asks of the heap, where the machine that is shown tells what it needs: what is given, the place of
-- the window's owner, and that nothing else leads into the region from outside.
use Rattle.std.proofs.Common.{◌≡◌, ◌≢◌, ◌≤◌, ◌<◌, inl, inr, ℕ, ◌+◌, ◌-◌, ◌==◌, true, not, List, [], ◌∷◌, length, map, take, reverse, Some, nat_lt}
use Rattle.std.proofs.Common.{count_by, option_map, slice_get, refl, sym, ap, subst, ◌∙◌, arith}
use Rattle.std.proofs.lemmas.Bool.{cases_eq, cases_lt as order, eq-eqb, eqb-true, false≢true, ne_eqb}
use Rattle.std.proofs.lemmas.List.{length-map, length-reverse, length-take-le}
use Rattle.std.proofs.lemmas.Option.{same_Some, slice_get-map, slice_get_within}
use Rattle.std.proofs.lemmas.Map.Keys.{any_passes_from_place as any-in}
use Rattle.rg_base.specs.declared.object.Label.{Label}
use Rattle.rg_base.specs.declared.object.Label.TheVariants.{Region, Temp, Frozen}
use Rattle.rg_base.specs.declared.object.Place.{Place}
use Rattle.rg_base.specs.declared.object.Place.TheVariants.{Var, Field}
use Rattle.rg_base.specs.declared.object.Seen.{Seen}
use Rattle.rg_base.specs.declared.value.Word.{Word}
use Rattle.rg_base.specs.declared.value.Word.TheVariants.{Slot}
use Rattle.rg_base.proofs.Callers.Labels.{temp-region}
use Rattle.rg_base.proofs.Callers.Lists.{there}
use Rattle.rg_cells.specs.declared.cell.Body.{Body}
use Rattle.rg_cells.specs.Table.{Heap, HasSerial, Serials, body_at, field_at, label_at}
use Rattle.rg_regions.specs.Table.{HasNumber, IsBridge}
use Rattle.rg_regions.specs.Reach.{LiesIn}
use Rattle.rg_regions.specs.Grove.{Grove}
use Rattle.rg_regions.proofs.Callers.Told.{one_number}
use Rattle.rg_frames.specs.declared.rows.Window.{Window as WindowRow}
use Rattle.rg_frames.specs.Stack.{IsTop, Stack}
use Rattle.rg_frames.specs.Changes.{InTop, MarksLie}
use Rattle.rg_stack.specs.Machine.{Machine, Window, slot_at}
use Rattle.rg_stack.specs.Tops.{frame_number, top_owner, top_region, top_window, without_top}
use Rattle.rg_stack.specs.Labels.{has_window, is_into, is_outside}
use Rattle.rg_stack.specs.Needs.{fields_into, places_into, slots_into}
use Rattle.rg_stack.specs.Places.{field_of, is_writable, size_of}
use Rattle.rg_heap.specs.Parts.{Parts}
use Rattle.rg_heap.specs.Answers.{val_of}
use Rattle.rg_heap.specs.Ends.{IsTopTemp}
use Rattle.rg_heap.specs.Gives.{CanBecome, CanGive, IsNear, IsOwner, OwnedByField, OwnerAlone, beneath}
use Rattle.rg_heap.specs.Opened.{IsTempOf, IsWindow}
use Rattle.rg_held.proofs.Places.{into-label}
use Rattle.rg_view.specs.View.{frames_of, machine_of, number_of, store_of, window_of, windows_of}
use Rattle.rg_view.proofs.Callers.Frame.{frame-number, slot-there, top-size}
use Rattle.rg_view.proofs.Callers.Leave.{last-temps, temp-top, top-temp}
use Rattle.rg_view.proofs.Callers.Link.{store-back}
use Rattle.rg_view.proofs.Callers.Need.{top}
use Rattle.rg_view.proofs.Callers.Once.{Outside, count-two, outside-by, outside-one, outside-same}
use Rattle.rg_view.proofs.Callers.Open.{any-map, any-reverse, into-there, label-back, number-is}
use Rattle.rg_view.proofs.Callers.Read.{field-there}
use Rattle.rg_view.proofs.Callers.Shown.{field-in}
use Rattle.rg_view.proofs.Callers.Window.{active-number, active-region, closed-windows, top-window}
use Rattle.rg_machine.specs.Stands.{Stands}
use Rattle.rg_machine.proofs.Giving.Needs.{FieldSeen, GivenSeen, OwnerSeen, SlotSeen}
use Rattle.rg_machine.proofs.Leave.Behind.{left, temp-stays, window-stays}
use Rattle.rg_machine.proofs.Moves.Sole.{slots-count}
use Rattle.rg_machine.proofs.Release.Behind.{slots-count as slot-counted}

label-region : (n r : ℕ) → Some (Region n) ≡ Some (Region r) → n ≡ r
label-region n r e = cc

module _ (p : Parts) (v : Stack) (at : ℕ) (q : Serials p.cells.heap) (g : Grove p.cells p.regions) (h : Stands p v)
    (two : 2 ≤ length v.windows) (lie : MarksLie v) (w : Word) (seen : GivenSeen (machine_of p v at) (val_of p.cells.heap w)) where
  abbrev heap : Heap
  heap = p.cells.heap

  abbrev m : Machine
  m = machine_of p v at

  -- the topmost window, and the number of its region
  abbrev pub row : WindowRow
  row = (top p v at q g h.opened).window

  abbrev pub r : ℕ
  r = (top p v at q g h.opened).number

  pub row-top : IsTop v row
  row-top = (top p v at q g h.opened).is

  pub has : HasNumber p.regions row.region r
  has = (top p v at q g h.opened).has

  shown : top_region m.windows ≡ r
  shown = (top p v at q g h.opened).shown

  -- The windows beneath

  stay-windows : windows_of p.regions (left v) ≡ without_top m.windows
  stay-windows = closed-windows p.regions v row two row-top

  abbrev under : (u : WindowRow) × IsWindow v (length v.windows - 1 - 1) u
  under = there v.windows (length v.windows - 1 - 1) (omega (arith, two))

  last-left : length (take (length v.windows - 1) v.windows) - 1 ≡ length v.windows - 1 - 1
  last-left = let n = length-take-le (length v.windows - 1) v.windows (omega arith) in omega (arith, n)

  under-stays : IsWindow (left v) (length v.windows - 1 - 1) under.0
  under-stays = window-stays v h.opened.as_many two lie (length v.windows - 1 - 1) under.0 under.1 (omega (arith, two))

  under-top : IsTop (left v) under.0
  under-top = ap (slice_get (left v).windows) last-left ∙ under-stays

  under-region : top_region (without_top m.windows) ≡ number_of p.regions under.0.region
  under-region = ap top_region (sym stay-windows) ∙ active-region p.regions (left v) under.0 under-top

  under-number : top_window (without_top m.windows) ≡ under.0.number
  under-number = ap top_window (sym stay-windows) ∙ active-number p.regions (left v) under.0 under-top

  -- it has another region and another number
  pub other-region : (u : WindowRow) (i : ℕ) → IsWindow v i u → HasNumber p.regions u.region r → i ≡ length v.windows - 1
  other-region u i e n = h.opened.differ i (length v.windows - 1) u row e row-top (g.numbers u.region row.region r n has)

  -- it isn't region 0
  pub not-first : r ≢ 0
  not-first e =
      let u = there v.windows 0 h.opened.some in
      let place : 0 ≡ length v.windows - 1 = other-region u.0 0 u.1 (subst (HasNumber p.regions u.0.region) (sym e) (h.opened.first u.0 u.1)) in
      absurd (omega (arith, place, two))

  -- What is given

  pub cell : (s : ℕ) × (w ≡ Slot s) × LiesIn heap r s
  cell =
      let into = subst (λ n. is_into (store_of heap) n (val_of heap w) ≡ true) shown seen.into in
      label-back heap w (Region r) q (into-label (store_of heap) r (val_of heap w) into)

  becomes : CanBecome p v w
  becomes = subst (CanBecome p v) (sym cell.1) (row, r, row-top, has, cell.2, tt)

  -- The owner's place is a slot

  pub record SlotIs (frame slot : ℕ) : Type 0 where
    pub numbered : frame + 1 ≡ length v.frames
    pub within : InTop v slot
    pub to : ℕ
    pub leads : slice_get v.slots (v.first + slot) ≡ Some (Slot to)
    pub lies : LiesIn heap r to

  slot-is : (f j : ℕ) → SlotSeen m (top_region m.windows) f j → SlotIs f j
  slot-is f j x =
      let number = frame-number heap v in
      let some = h.some in
      let frame : f ≡ frame_number (frames_of heap v) = x.top in
      let less : j < size_of m = (let test = x.within in grind (arith, test)) in
      let size : size_of m ≡ length v.slots - v.first = top-size heap v.slots v.first (reverse v.frames) h.lain in
      let within : v.first + j < length v.slots = omega (arith, less, size) in
      let u = there v.slots (v.first + j) within in
      let value : slot_at m j ≡ val_of heap u.0 = slot-there heap v.slots v.first j (reverse v.frames) u.0 h.lain u.1 in
      let into = subst (λ n. is_into (store_of heap) n (slot_at m j) ≡ true) shown x.into in
      let to = label-back heap u.0 (Region r) q
      (into-label (store_of heap) r (val_of heap u.0) (ap (is_into (store_of heap) r) (sym value) ∙ into)) in
      record {
        numbered = omega (arith, number, some, frame);
        within = within;
        to = to.0;
        leads = u.1 ∙ ap Some to.1;
        lies = to.2;
      }

  -- Or a field

  pub record FieldIs (a k : ℕ) : Type 0 where
    pub owned : OwnedByField p v row.region a k
    pub lies : LiesIn heap r owned.to
    pub apart : LiesIn heap r owned.holder → ⊥
    pub keep : IsTopTemp v owned.holder → ⊥

  -- a temporary of the topmost window is labelled so
  top-label : (s : ℕ) → IsTopTemp v s → label_at heap s ≡ Some (Temp row.number)
  top-label s t = h.opened.temps (length v.windows - 1) s row row-top (top-temp p v g h.opened t.0 s t.1)

  module _ (a k to : ℕ) (b : Body) (s : ℕ) (held : body_at heap s ≡ Some b) (serial : b.serial ≡ a)
      (leads : field_at heap s k ≡ Some (Slot to)) (lies : LiesIn heap r to) where
    label-is : (l : Label) → b.label ≡ l → label_at heap s ≡ Some l
    label-is l e = ap (option_map (λ (b : Body). b.label)) held ∙ ap Some e

    field-by : IsNear p (beneath v) s → IsBridge p.regions r to → (LiesIn heap r s → ⊥) → (IsTopTemp v s → ⊥) → FieldIs a k
    field-by near bridge apart keep = record {
      owned = record {
        holder = s;
        has = (b, held, serial);
        near = near;
        region = r;
        number = has;
        to = to;
        leads = leads;
        bridge = bridge;
      };
      lies = lies;
      apart = apart;
      keep = keep;
    }

    -- its object lies in the region beneath
    in-region : (n : ℕ) → b.label ≡ Region n → n ≡ number_of p.regions under.0.region → FieldIs a k
    in-region n label is =
        let known = h.opened.known (length v.windows - 1 - 1) under.0 under.1 in
        let number : n ≡ known.0 = is ∙ number-is p.regions under.0.region known.0 known.1 in
        let numbered : HasNumber p.regions under.0.region n = subst (HasNumber p.regions under.0.region) (sym number) known.1 in
        let here = label-is (Region n) label in
        let differ : n ≡ r → ⊥ = λ e.
        let place : length v.windows - 1 - 1 ≡ length v.windows - 1 = other-region under.0 (length v.windows - 1 - 1) under.1 (subst (HasNumber p.regions under.0.region) e numbered) in
        absurd (omega (arith, place, two)) in
        field-by
        (inl (under.0, n, under-top, numbered, here, tt))
        (elim (g.fields n s k to here leads) [
          | inl frozen ↦ (let c : Some Frozen ≡ Some (Region r) = sym frozen ∙ lies in absurd cc)
          | inr rest ↦ elim rest [
            | inl own ↦ absurd (differ (label-region n r (sym own ∙ lies)))
            | inr x ↦ subst (λ n. IsBridge p.regions n to) (label-region x.0 r (sym x.2 ∙ lies)) x.3
          ]
        ])
        (λ l. differ (label-region n r (sym here ∙ l)))
        (λ t. temp-region row.number n (sym (top-label s t) ∙ here))

    -- or is a temporary of the window beneath
    in-temps : (n : ℕ) → b.label ≡ Temp n → n ≡ under.0.number → FieldIs a k
    in-temps n label is =
        let here : label_at heap s ≡ Some (Temp under.0.number) = label-is (Temp n) label ∙ ap (λ n. Some (Temp n)) is in
        let of = h.opened.all_temps (length v.windows - 1 - 1) s under.0 under.1 here in
        let stays = temp-stays v h.opened.as_many two lie (length v.windows - 1 - 1) s (omega (arith, two)) of in
        let many : length (take (length v.marks - 1) v.marks) ≡ length (take (length v.windows - 1) v.windows) =
        (let x = length-take-le (length v.marks - 1) v.marks (omega arith) in
        let y = length-take-le (length v.windows - 1) v.windows (omega arith) in
        let same = h.opened.as_many in
        omega (arith, x, y, same)) in
        let some : 0 < length (take (length v.windows - 1) v.windows) = (let y = length-take-le (length v.windows - 1) v.windows (omega arith) in omega (arith, y, two)) in
        let final = subst (λ i. IsTempOf (left v) i s) (sym last-left) stays in
        field-by
        (inr (final.0, ap (λ xs. slice_get xs final.0) (sym (last-temps (left v) many some)) ∙ final.1))
        (h.fields (length v.windows - 1 - 1) s k to r under.0 under.1 of leads lies (λ i u e n.
        let place : i ≡ length v.windows - 1 = other-region u i e n in
        omega (arith, place, two)))
        (λ l. temp-region under.0.number r (sym here ∙ l))
        (λ t.
        let number : row.number ≡ under.0.number = temp-same (sym (top-label s t) ∙ here) in
        let place : length v.windows - 1 ≡ length v.windows - 1 - 1 = h.window_numbers (length v.windows - 1) (length v.windows - 1 - 1) row under.0 row-top under.1 number in
        absurd (omega (arith, place, two)))
      where
        temp-same : Some (Temp row.number) ≡ Some (Temp under.0.number) → row.number ≡ under.0.number
        temp-same e = cc

    by-label : (l : Label) → b.label ≡ l → is_writable (record m { windows = without_top m.windows }) l ≡ true → FieldIs a k
    by-label (Region n) e test = in-region n e (eqb-true n (top_region (without_top m.windows)) test ∙ under-region)
    by-label (Temp n) e test = in-temps n e (eqb-true n (top_window (without_top m.windows)) test ∙ under-number)
    by-label Frozen e test = absurd (false≢true test)

  field-is : (a k : ℕ) → FieldSeen m (top_region m.windows) a k → FieldIs a k
  field-is a k x = elim (store-back heap a x.object x.there) [
    | inl c ↦
        let within : k < length x.object.fields = (let test = x.within in grind (arith, test)) in
        let many : length x.object.fields ≡ length c.body.fields =
        ap (λ (o : Seen). length o.fields) c.shown ∙ length-map c.body.fields (val_of heap) in
        let u = there c.body.fields k (omega (arith, within, many)) in
        let field : field_at heap c.slot k ≡ Some u.0 = field-in heap c.slot k c.body c.held ∙ u.1 in
        let value : field_of x.object k ≡ val_of heap u.0 =
        ap (λ (o : Seen). field_of o k) c.shown ∙ field-there heap c.slot k c.body u.0 c.held field in
        let into = subst (λ n. is_into (store_of heap) n (field_of x.object k) ≡ true) shown x.into in
        let to = label-back heap u.0 (Region r) q
        (into-label (store_of heap) r (val_of heap u.0) (ap (is_into (store_of heap) r) (sym value) ∙ into)) in
        by-label a k to.0 c.body c.slot c.held c.serial (field ∙ ap Some to.1) to.2 c.body.label refl
        (ap (is_writable (record m { windows = without_top m.windows })) (sym (ap (λ (o : Seen). o.label) c.shown)) ∙ x.writable)
    | inr none ↦
        let test : nat_lt k 0 ≡ true = sym (ap (λ (o : Seen). nat_lt k (length o.fields)) none) ∙ x.within in
        let lt : k < 0 = grind (arith, test) in
        absurd (omega (arith, lt))
  ]

  -- The owner

  abbrev pub OwnerIs : Place → Type 0
  OwnerIs (Var f j) = SlotIs f j
  OwnerIs (Field a k) = FieldIs a k

  pub owner-is : (o : Place) → OwnerSeen m (top_region m.windows) o → OwnerIs o
  owner-is (Var f j) x = slot-is f j x
  owner-is (Field a k) x = field-is a k x

  pub owner-row : row.owner ≡ Some seen.place
  owner-row =
      let front = take (length v.windows - 1) v.windows in
      sym (ap top_owner (top-window p.regions v row row-top)
      ∙ some-left (reverse front) (omega (arith, two, length-reverse front, length-take-le (length v.windows - 1) v.windows (omega arith))))
      ∙ seen.owner
    where
      some-left : (rest : List WindowRow) → 1 ≤ length rest → top_owner (map (window_of p.regions) (row ∷ rest)) ≡ row.owner
      some-left [] some = absurd (omega (arith, some))
      some-left (u ∷ us) some = refl

  is-owner : (o : Place) → OwnerIs o → IsOwner p v row.region (Some o)
  is-owner (Var f j) x = (x.numbered, x.within)
  is-owner (Field a k) x = x.owned

  -- Nothing else leads into the region

  abbrev ws : List Window
  ws = without_top m.windows

  total : slots_into (store_of heap) r (frames_of heap v) + fields_into (store_of heap) ws r (store_of heap) ≤ 1
  total = subst (λ n. places_into (record m { windows = ws }) n ≤ 1) shown seen.alone

  outside-label : (s : ℕ) → (LiesIn heap r s → ⊥) → (IsTopTemp v s → ⊥) → (l : Label) → label_at heap s ≡ Some l → is_outside ws r l ≡ true
  outside-label s away keep (Region x) e = ap not (ne_eqb x r (λ same. away (e ∙ ap (λ n. Some (Region n)) same)))
  outside-label s away keep (Temp n) e =
      let t = h.temps s n e in
      let within = slice_get_within v.windows t.0 t.1 t.2 in
      elim (order t.0 (length v.windows - 1)) [
        | inl lt ↦
            ap (λ ws. has_window ws n) (sym stay-windows)
            ∙ any-map (window_of p.regions) (λ (w : Window). w.number == n) (reverse (left v).windows)
            ∙ any-reverse (λ (w : WindowRow). w.number == n) (left v).windows
            ∙ any-in (λ (w : WindowRow). w.number == n) (left v).windows t.0 t.1 (window-stays v h.opened.as_many two lie t.0 t.1 t.2 lt)
            (eq-eqb t.1.number n t.3)
        | inr le ↦
            let place : t.0 ≡ length v.windows - 1 = omega (arith, within, le) in
            let of = h.opened.all_temps t.0 s t.1 t.2 (e ∙ ap (λ k. Some (Temp k)) (sym t.3)) in
            absurd (keep (temp-top p v g h.opened s (subst (λ i. IsTempOf v i s) place of)))
      ]
  outside-label s away keep Frozen e = refl

  field-out : (s k to : ℕ) → (LiesIn heap r s → ⊥) → (IsTopTemp v s → ⊥) → field_at heap s k ≡ Some (Slot to) → LiesIn heap r to
      → Outside heap ws q r s k
  field-out s k to away keep leads lies = outside-by heap ws q r s k to (outside-label s away keep) leads lies

  one-slot : (j x : ℕ) → slice_get v.slots j ≡ Some (Slot x) → LiesIn heap r x → 1 ≤ slots_into (store_of heap) r (frames_of heap v)
  one-slot j x e lies = slot-counted heap r j (Slot x) v.slots v.first (reverse v.frames) h.lain e (into-there heap r x q lies)

  pub alone : (o : Place) → OwnerIs o → OwnerAlone heap v r (Some o)
  alone (Var f j) x s k to away keep leads lies =
      let slot = one-slot (v.first + j) x.to x.leads x.lies in
      let field = outside-one heap ws q r s k (field-out s k to away keep leads lies) in
      let all = total in
      absurd (omega (arith, slot, field, all))
  alone (Field a n) x s k to away keep leads lies =
      let all = total in
      let here = field-out x.owned.holder n x.owned.to x.apart x.keep x.owned.leads x.lies in
      let same = outside-same heap ws q r s k x.owned.holder n (field-out s k to away keep leads lies) here (omega (arith, all)) in
      (subst (λ s. HasSerial heap s a) (sym same.0) x.owned.has, same.1)

  -- of slots only that of the owner does
  abbrev pub IsSlotOf : Place → ℕ → Type 0
  IsSlotOf (Var f i) j = j ≡ v.first + i
  IsSlotOf (Field a k) j = ⊥

  pub only-slot : (o : Place) → OwnerIs o → (j x : ℕ) → slice_get v.slots j ≡ Some (Slot x) → LiesIn heap r x → IsSlotOf o j
  only-slot (Var f i) y j x e lies = elim (cases_eq j (v.first + i)) [
    | inl is ↦ is
    | inr d ↦
        let count : slots_into (store_of heap) r (frames_of heap v) ≡ count_by (is_into (store_of heap) r) (map (val_of heap) v.slots) =
        slots-count heap (store_of heap) r v.slots v.first (reverse v.frames) h.lain in
        let pair = count-two (is_into (store_of heap) r) (map (val_of heap) v.slots) j (v.first + i)
        (val_of heap (Slot x)) (val_of heap (Slot y.to)) (value j x e) (value (v.first + i) y.to y.leads)
        (into-there heap r x q lies) (into-there heap r y.to q y.lies) d in
        let all = total in
        absurd (omega (arith, count, pair, all))
  ]
    where
      value : (j s : ℕ) → slice_get v.slots j ≡ Some (Slot s) → slice_get (map (val_of heap) v.slots) j ≡ Some (val_of heap (Slot s))
      value j s e = slice_get-map (val_of heap) v.slots j ∙ ap (option_map (val_of heap)) e
  only-slot (Field a k) y j x e lies =
      let slot = one-slot j x e lies in
      let field = outside-one heap ws q r y.owned.holder k (field-out y.owned.holder k y.owned.to y.apart y.keep y.owned.leads y.lies) in
      let all = total in
      absurd (omega (arith, slot, field, all))

  -- What leaving asks for

  pub is : OwnerIs seen.place
  is = owner-is seen.place seen.seen

  row-same : (u : WindowRow) → IsTop v u → row ≡ u
  row-same u e = same_Some row u (sym row-top ∙ e)

  pub can-give : CanGive p v w
  can-give = record {
    owner = λ u e.
        subst (λ (u : WindowRow). IsOwner p v u.region u.owner) (row-same u e)
        (subst (IsOwner p v row.region) (sym owner-row) (is-owner seen.place is));
    becomes = becomes;
    alone = λ u e n k.
        let number : n ≡ r = one_number p.regions row.region n r (subst (λ (u : WindowRow). HasNumber p.regions u.region n) (sym (row-same u e)) k)
        has in
        subst (λ (u : WindowRow). OwnerAlone heap v n u.owner) (row-same u e)
        (subst (λ n. OwnerAlone heap v n row.owner) (sym number) (subst (OwnerAlone heap v r) (sym owner-row) (alone seen.place is)));
  }
