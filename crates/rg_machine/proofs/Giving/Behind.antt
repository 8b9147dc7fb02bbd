-- What stands behind a window that was left with another bridge, and the machine that is shown.
use Rattle.std.proofs.Common.{◌≡◌, ◌≤◌, ◌<◌, ◌⊎◌, inl, inr, ℕ, ◌+◌, ◌-◌, ◌==◌, Bool as Truth, true, false, if◌then◌else◌, List, [], ◌∷◌, length, Option, Some, None}
use Rattle.std.proofs.Common.{option_map, option_and_then, slice_get, slice_set, refl, sym, ap, subst, ◌∙◌, arith}
use Rattle.std.proofs.lemmas.Bool.{cases_eq, eq-eqb}
use Rattle.std.proofs.lemmas.List.{length-set}
use Rattle.std.proofs.lemmas.Option.{none-some, same_Some}
use Rattle.rg_base.specs.declared.object.Label.{Label}
use Rattle.rg_base.specs.declared.object.Label.TheVariants.{Region}
use Rattle.rg_base.specs.declared.object.Place.{Place}
use Rattle.rg_base.specs.declared.object.Place.TheVariants.{Var, Field}
use Rattle.rg_base.specs.declared.value.Val.{Val}
use Rattle.rg_base.specs.declared.value.Val.TheVariants.{Obj}
use Rattle.rg_base.specs.declared.value.Word.{Word}
use Rattle.rg_base.specs.declared.value.Word.TheVariants.{Slot}
use Rattle.rg_base.proofs.Callers.Labels.{temp-region}
use Rattle.rg_cells.specs.declared.cell.Body.{Body}
use Rattle.rg_cells.specs.Table.{Heap, HasSerial, IsHeld, Serials, body_at, field_at, high_of, label_at, with_field}
use Rattle.rg_regions.specs.Table.{Record, HasNumber, changed, with_bridge}
use Rattle.rg_regions.specs.Reach.{LiesIn}
use Rattle.rg_regions.specs.Grove.{Grove}
use Rattle.rg_regions.proofs.Callers.Told.{lies_held, lies_or_not, one_region}
use Rattle.rg_sound.proofs.Owners.Owner.{get-set}
use Rattle.rg_frames.specs.declared.rows.Window.{Window as WindowRow}
use Rattle.rg_frames.specs.Stack.{Stack}
use Rattle.rg_frames.specs.Changes.{MarksLie, with_slot}
use Rattle.rg_stack.specs.Machine.{Frame, Machine, put_in_frame, put_slot, top_slots, with_slots}
use Rattle.rg_stack.specs.Effects.{put_at, put_in}
use Rattle.rg_stack.specs.Tops.{frame_number}
use Rattle.rg_heap.specs.Parts.{Parts}
use Rattle.rg_heap.specs.Answers.{obj_of, val_of}
use Rattle.rg_heap.specs.Ends.{GoesAlong, IsTopTemp, Released}
use Rattle.rg_heap.specs.Gives.{IsPlace, Puts}
use Rattle.rg_heap.specs.Opened.{IsWindow}
use Rattle.rg_heap.proofs.Callers.Opens.{above_open, open_not_closed}
use Rattle.rg_view.specs.Numbers.{Numbers}
use Rattle.rg_view.specs.View.{frames_of, machine_of, managers_of, store_of}
use Rattle.rg_view.proofs.Callers.Frame.{frame-number}
use Rattle.rg_view.proofs.Callers.Leave.{top-temp}
use Rattle.rg_view.proofs.Callers.Look.{val-held}
use Rattle.rg_view.proofs.Callers.Machine.{WindowsKnown, written-machine}
use Rattle.rg_view.proofs.Callers.Manager.{same-managers}
use Rattle.rg_view.proofs.Callers.Shown.{body-held, field-in, held-body}
use Rattle.rg_view.proofs.Callers.Table.{same-windows}
use Rattle.rg_view.proofs.Callers.Write.{written-beside, written-there}
use Rattle.rg_machine.specs.High.{NoneMade}
use Rattle.rg_machine.specs.Keeps.{backs}
use Rattle.rg_machine.specs.Stands.{Stands}
use Rattle.rg_machine.proofs.Callers.High.{none-written}
use Rattle.rg_machine.proofs.Giving.Bridge.{Rebridged, bridged-stands, rebridged}
use Rattle.rg_machine.proofs.Giving.Needs.{GivenSeen}
use Rattle.rg_machine.proofs.Giving.Place.{FieldIs, OwnerIs, SlotIs, alone, cell, has, is, not-first, only-slot, other-region, owner-row, r, row, row-top}
use Rattle.rg_machine.proofs.Known.{windows-known}
use Rattle.rg_machine.proofs.Leave.Behind.{left, window-was}
use Rattle.rg_machine.proofs.Write.Field.{Written, written}
use Rattle.rg_machine.proofs.Write.Slot.{machine-slot, set-get}

-- a write to the frame of the topmost one's number
put-top : (fs : List Frame) (j : ℕ) (y : Val) → put_in_frame (frame_number fs) j y fs ≡ with_slots (slice_set (top_slots fs) j y) fs
put-top [] j y = refl
put-top (f ∷ fs) j y =
    ap (λ b. if b then record f { slots = slice_set f.slots j y } ∷ fs else f ∷ put_in_frame (length fs) j y fs) (eq-eqb (length fs) (length fs) refl)

-- frames go back where they did
put-frame-backs : (n j : ℕ) (y : Val) (fs : List Frame) → backs (put_in_frame n j y fs) ≡ backs fs
put-frame-backs n j y [] = refl
put-frame-backs n j y (f ∷ fs) = by (length fs == n) (put-frame-backs n j y fs)
  where
    by : (b : Truth) → backs (put_in_frame n j y fs) ≡ backs fs
        → backs (if b then record f { slots = slice_set f.slots j y } ∷ fs else f ∷ put_in_frame n j y fs) ≡ f.back ∷ backs fs
    by true e = refl
    by false e = ap (λ ns. f.back ∷ ns) e

pub put-at-backs : (o : Option Place) (y : Val) (m : Machine) → backs (put_at o y m).frames ≡ backs m.frames
put-at-backs None y m = refl
put-at-backs (Some (Var n j)) y m = put-frame-backs n j y m.frames
put-at-backs (Some (Field a k)) y m = refl

-- the same cells, and regions but for a bridge
rebridged-machine : (old new : Parts) (v : Stack) (at n slot : ℕ) → Numbers old.regions → WindowsKnown old.regions v
    → new.cells.heap ≡ old.cells.heap → Rebridged old.regions new.regions n slot → machine_of new v at ≡ machine_of old v at
rebridged-machine old new v at n slot numbers known cells t =
    ap (λ c. record (machine_of new v at) { store = store_of c; frames = frames_of c v }) cells
    ∙ ap (λ ws. record (machine_of old v at) { windows = ws; managers = managers_of new.regions }) (same-windows old.regions new.regions v t.same known)
    ∙ ap (λ ms. record (machine_of old v at) { managers = ms }) (same-managers old.regions new.regions t.same numbers)

module _ (p : Parts) (v : Stack) (at : ℕ) (q : Serials p.cells.heap) (g : Grove p.cells p.regions) (h : Stands p v)
    (two : 2 ≤ length v.windows) (lie : MarksLie v) (w : Word) (seen : GivenSeen (machine_of p v at) (val_of p.cells.heap w))
    (mid : Parts) (rel : Released p mid (GoesAlong p v) (IsTopTemp v)) (hm : Stands mid (left v)) where
  abbrev n : ℕ
  n = r p v at q g h two lie w seen

  abbrev top : WindowRow
  top = row p v at q g h two lie w seen

  abbrev slot : ℕ
  slot = (cell p v at q g h two lie w seen).0

  -- What is left

  -- what is held was so
  kept : (s : ℕ) → IsHeld mid.cells.heap s → body_at mid.cells.heap s ≡ body_at p.cells.heap s
  kept s held = rel.cells s (λ m a x. none (rel.freed m s a x)) (λ t. none (rel.ended s t))
    where
      none : body_at mid.cells.heap s ≡ None → ⊥
      none e = let b = held-body mid.cells.heap s held in none-some b.0 (sym e ∙ b.1)

  label-was : (s : ℕ) (l : Label) → label_at mid.cells.heap s ≡ Some l → label_at p.cells.heap s ≡ Some l
  label-was s l e = by (body_at mid.cells.heap s) refl
    where
      by : (o : Option Body) → body_at mid.cells.heap s ≡ o → label_at p.cells.heap s ≡ Some l
      by None f = absurd (none-some l (sym (ap (option_map (λ (b : Body). b.label)) f) ∙ e))
      by (Some b) f = sym (ap (option_map (λ (b : Body). b.label)) (kept s (body-held mid.cells.heap s b f))) ∙ e

  field-was : (s k : ℕ) (u : Word) → field_at mid.cells.heap s k ≡ Some u
      → (field_at p.cells.heap s k ≡ Some u) × (IsTopTemp v s → ⊥)
  field-was s k u e = by (body_at mid.cells.heap s) refl
    where
      by : (o : Option Body) → body_at mid.cells.heap s ≡ o → (field_at p.cells.heap s k ≡ Some u) × (IsTopTemp v s → ⊥)
      by None f = absurd (none-some u (sym (ap (option_and_then (λ (b : Body). slice_get b.fields k)) f) ∙ e))
      by (Some b) f = (
        sym (ap (option_and_then (λ (b : Body). slice_get b.fields k)) (kept s (body-held mid.cells.heap s b f))) ∙ e,
        λ t. none-some b (sym (rel.ended s t) ∙ f),
      )

  -- an open region doesn't go
  open-stays : (i m : ℕ) (u : WindowRow) → IsWindow v i u → HasNumber p.regions u.region m → GoesAlong p v m → ⊥
  open-stays i m u e x a = elim a.2 [
    | inl same ↦ open_not_closed p v i a.0 u g e (subst (HasNumber p.regions u.region) same x) a.1.closed
    | inr down ↦
        let o = above_open p v a.0 m h.opened down.1 i u e x in
        open_not_closed p v o.0 a.0 o.1 g o.2 o.3 a.1.closed
  ]

  region-stays : GoesAlong p v n → ⊥
  region-stays = open-stays (length v.windows - 1) n top (row-top p v at q g h two lie w seen) (has p v at q g h two lie w seen)

  -- its cells, its record
  cell-stays : (s : ℕ) → LiesIn p.cells.heap n s → body_at mid.cells.heap s ≡ body_at p.cells.heap s
  cell-stays s l = rel.cells s
      (λ m a x. region-stays (subst (GoesAlong p v) (one_region p.cells.heap s m n x l) a))
      (λ t.
      let label = h.opened.temps (length v.windows - 1) s top (row-top p v at q g h two lie w seen) (top-temp p v g h.opened t.0 s t.1) in
      temp-region top.number n (sym label ∙ l))

  lies-on : (s : ℕ) → LiesIn p.cells.heap n s → LiesIn mid.cells.heap n s
  lies-on s l = ap (option_map (λ (b : Body). b.label)) (cell-stays s l) ∙ l

  number-on : HasNumber mid.regions top.region n
  number-on =
      ap (option_map (λ (x : Record). x.number)) (rel.records top.region (λ m a x.
      let same : m ≡ n = same_Some m n (sym x ∙ has p v at q g h two lie w seen) in
      region-stays (subst (GoesAlong p v) same a)))
      ∙ has p v at q g h two lie w seen

  lies : LiesIn mid.cells.heap n slot
  lies = lies-on slot (cell p v at q g h two lie w seen).2

  -- no window has the region
  number-back : (i m : ℕ) (u : WindowRow) → IsWindow v i u → HasNumber mid.regions u.region m → HasNumber p.regions u.region m
  number-back i m u e x =
      let k = h.opened.known i u e in
      let stays = ap (option_map (λ (x : Record). x.number))
      (rel.records u.region (λ o a y.
      let same : o ≡ k.0 = same_Some o k.0 (sym y ∙ k.1) in
      open-stays i k.0 u e k.1 (subst (GoesAlong p v) same a))) in
      sym stays ∙ x

  shut : (i : ℕ) (u : WindowRow) → IsWindow (left v) i u → HasNumber mid.regions u.region n → ⊥
  shut i u e x =
      let was = window-was v h.opened.as_many two lie i u e in
      let place : i ≡ length v.windows - 1 = other-region p v at q g h two lie w seen u i was.0 (number-back i n u was.0 x) in
      let less : i < length v.windows - 1 = was.1 in
      absurd (omega (arith, place, less))

  -- its serials differ still
  pub serials : Serials mid.cells.heap
  serials = record {
    below = λ s b e.
        let was = q.below s b (sym (kept s (body-held mid.cells.heap s b e)) ∙ e) in
        let next = rel.serials in
        omega (arith, was, next);
    differ = λ s x b c e f same.
        q.differ s x b c (sym (kept s (body-held mid.cells.heap s b e)) ∙ e) (sym (kept x (body-held mid.cells.heap x c f)) ∙ f) same;
  }

  -- what is given shows what it showed
  pub value-same : val_of mid.cells.heap (Slot slot) ≡ val_of p.cells.heap w
  value-same =
      let c = cell p v at q g h two lie w seen in
      ap obj_of (cell-stays slot c.2) ∙ ap (val_of p.cells.heap) (sym c.1)

  -- and leads to an object
  pub object-kept : (b : Body) × (body_at mid.cells.heap slot ≡ Some b)
  object-kept = held-body mid.cells.heap slot (lies_held mid.cells.heap n slot lies)

  module _ (new : Parts) (regions : new.regions ≡ changed mid.regions top.region (with_bridge slot)) where
    now : Rebridged mid.regions new.regions n slot
    now =
        subst (λ t. Rebridged mid.regions t n slot) (sym regions)
        (rebridged mid.regions top.region n slot number-on (not-first p v at q g h two lie w seen) hm.numbers hm.bridges)

    slot-same : (a b : ℕ) → Some (Slot a) ≡ Some (Slot b) → a ≡ b
    slot-same a b e = cc

    -- a field that was there leads where one may
    field-left : (o : Place) (own : OwnerIs p v at q g h two lie w seen o) (x k to : ℕ) → (IsPlace p.cells.heap (Some o) x k → ⊥)
        → field_at mid.cells.heap x k ≡ Some (Slot to)
        → (to ≡ slot) ⊎ ((field_at mid.cells.heap x k ≡ Some (Slot to)) × (LiesIn mid.cells.heap n x ⊎ (LiesIn mid.cells.heap n to → ⊥)))
    field-left o own x k to not e =
        let was = field-was x k (Slot to) e in
        inr (
          e,
          elim (lies_or_not mid.cells.heap n x) [
            | inl out ↦ inr (λ l. not (alone p v at q g h two lie w seen o own x k to (λ inside. out (lies-on x inside)) was.1 was.0
                (label-was to (Region n) l)))
            | inr inside ↦ inl inside
          ],
        )

    -- The owner is a slot

    module _ (f j : ℕ) (own : SlotIs p v at q g h two lie w seen f j) (cells : new.cells.heap ≡ mid.cells.heap) where
      slot-stands : Stands new (with_slot (left v) j (Slot slot))
      slot-stands = bridged-stands mid new (left v) (slice_set v.slots (v.first + j) (Slot slot)) n slot hm now shut lies
          (λ s. ap (λ c. label_at c s) cells)
          (λ s held. subst (λ c. IsHeld c s) (sym cells) held)
          (length-set v.slots (v.first + j) (Slot slot))
          (λ i s e. elim (cases_eq i (v.first + j)) [
            | inl is ↦
                let P : ℕ → Type 0 = λ k. slice_get (slice_set v.slots (v.first + j) (Slot slot)) k ≡ Some (Slot s) in
                inl (slot-same s slot (sym (subst P is e) ∙ get-set v.slots (v.first + j) (Slot slot) (Slot own.to) own.leads))
            | inr d ↦ elim (set-get v.slots (v.first + j) i (Slot slot) (Slot s) e) [
              | inl here ↦ absurd (d here.0)
              | inr was ↦ inr (was, λ l. d (only-slot p v at q g h two lie w seen (Var f j) own i s was (label-was s (Region n) l)))
            ]
          ])
          (λ x k to e. field-left (Var f j) own x k to (λ no. no) (sym (ap (λ c. field_at c x k) cells) ∙ e))

      slot-shown : (y : Val) → val_of mid.cells.heap (Slot slot) ≡ y
          → machine_of new (with_slot (left v) j (Slot slot)) at ≡ put_at (Some (Var f j)) y (machine_of mid (left v) at)
      slot-shown y e =
          let m = machine_of mid (left v) at in
          let some : 0 < length v.frames = hm.some in
          let frame = own.numbered in
          let beneath : length v.frames - 1 ≡ frame_number (frames_of mid.cells.heap (left v)) = frame-number mid.cells.heap (left v) in
          let number : f ≡ frame_number (frames_of mid.cells.heap (left v)) = omega (arith, beneath, some, frame) in
          rebridged-machine mid new (with_slot (left v) j (Slot slot)) at n slot hm.numbers (windows-known mid (left v) hm) cells now
          ∙ machine-slot mid (left v) at j (Slot slot)
          ∙ ap (put_slot m j) e
          ∙ ap (λ fs. record m { frames = fs }) (sym (put-top m.frames j y))
          ∙ ap (λ k. record m { frames = put_in_frame k j y m.frames }) (sym number)

    -- The owner is a field

    module _ (a k : ℕ) (own : FieldIs p v at q g h two lie w seen a k) (holder : ℕ) (of : HasSerial mid.cells.heap holder a)
        (cells : new.cells.heap ≡ with_field mid.cells.heap holder k (Slot slot)) where
      body-was : body_at p.cells.heap holder ≡ Some of.0
      body-was = sym (kept holder (body-held mid.cells.heap holder of.0 of.1)) ∙ of.1

      one-cell : (x : ℕ) → HasSerial p.cells.heap x a → x ≡ holder
      one-cell x y = q.differ x holder y.0 of.0 y.1 body-was (y.2 ∙ sym of.2)

      -- the field was there
      field-there : slice_get of.0.fields k ≡ Some (Slot own.owned.to)
      field-there =
          let P : ℕ → Type 0 = λ x. field_at p.cells.heap x k ≡ Some (Slot own.owned.to) in
          sym (field-in p.cells.heap holder k of.0 body-was) ∙ subst P (one-cell own.owned.holder own.owned.has) own.owned.leads

      writes : Written mid.cells.heap new.cells.heap holder (Slot slot)
      writes = written mid.cells.heap new.cells.heap holder k (Slot slot) of.0 of.1 cells

      field-now : (x i to : ℕ) → field_at new.cells.heap x i ≡ Some (Slot to)
          → (to ≡ slot) ⊎ ((field_at mid.cells.heap x i ≡ Some (Slot to)) × (LiesIn mid.cells.heap n x ⊎ (LiesIn mid.cells.heap n to → ⊥)))
      field-now x i to e =
          let after = with_field mid.cells.heap holder k (Slot slot) in
          let e2 : field_at after x i ≡ Some (Slot to) = sym (ap (λ c. field_at c x i) cells) ∙ e in
          elim (cases_eq x holder) [
            | inl is ↦
                let here : slice_get (slice_set of.0.fields k (Slot slot)) i ≡ Some (Slot to) =
                sym (field-in after holder i _ (written-there mid.cells.heap holder k (Slot slot) of.0 of.1))
                ∙ ap (λ x. field_at after x i) (sym is) ∙ e2 in
                elim (cases_eq i k) [
                  | inl same ↦
                      let P : ℕ → Type 0 = λ i. slice_get (slice_set of.0.fields k (Slot slot)) i ≡ Some (Slot to) in
                      inl (slot-same to slot (sym (subst P same here) ∙ get-set of.0.fields k (Slot slot) (Slot own.owned.to) field-there))
                  | inr d ↦ elim (set-get of.0.fields k i (Slot slot) (Slot to) here) [
                    | inl at ↦ absurd (d at.0)
                    | inr was ↦ field-left (Field a k) own x i to (λ y. d y.1)
                        (ap (λ x. field_at mid.cells.heap x i) is ∙ field-in mid.cells.heap holder i of.0 of.1 ∙ was)
                  ]
                ]
            | inr d ↦ field-left (Field a k) own x i to (λ y. d (one-cell x y.0))
                (sym (ap (option_and_then (λ (b : Body). slice_get b.fields i))
                (written-beside mid.cells.heap holder k (Slot slot) of.0 of.1 x d)) ∙ e2)
          ]

      field-stands : Stands new (left v)
      field-stands =
          bridged-stands mid new (left v) v.slots n slot hm now shut lies writes.labels writes.held refl
          (λ j s e. inr (e, λ l. only-slot p v at q g h two lie w seen (Field a k) own j s e (label-was s (Region n) l)))
          field-now

      field-shown : (y : Val) → val_of mid.cells.heap (Slot slot) ≡ y
          → machine_of new (left v) at ≡ put_at (Some (Field a k)) y (machine_of mid (left v) at)
      field-shown y e =
          let m = machine_of mid (left v) at in
          let half : Parts = record { cells = new.cells; regions = mid.regions } in
          rebridged-machine half new (left v) at n slot hm.numbers (windows-known mid (left v) hm) refl now
          ∙ written-machine (left v) at mid half holder k (Slot slot) of.0 of.1 cells refl serials
          ∙ ap (λ x. record m { store = put_in m.store x k (val_of mid.cells.heap (Slot slot)) })
          (val-held mid.cells.heap holder of.0 of.1 ∙ ap Obj of.2)
          ∙ ap (λ y. record m { store = put_in m.store (Obj a) k y }) e

    -- Either

    -- what stands behind it, and what it shows
    pub record Behind (after : Stack) (o : Option Place) (y : Val) : Type 0 where
      pub stands : Stands new after
      pub shown : machine_of new after at ≡ put_at o y (machine_of mid (left v) at)
      pub none : NoneMade mid new

    by-place : (o : Place) → OwnerIs p v at q g h two lie w seen o → (after : Stack) (y : Val) → val_of mid.cells.heap (Slot slot) ≡ y
        → Puts (Some o) (Slot slot) mid.cells.heap new.cells.heap (left v) after → Behind after (Some o) y
    by-place (Var f j) own after y e u =
        subst (λ x. Behind x (Some (Var f j)) y) (sym u.1)
        (record {
          stands = slot-stands f j own u.0;
          shown = slot-shown f j own u.0 y e;
          none = record { made = ap (λ (c : Heap). c.next) u.0; high = ap high_of u.0 };
        })
    by-place (Field a k) own after y e u =
        let holder = u.1 in
        subst (λ x. Behind x (Some (Field a k)) y) (sym u.0)
        (record {
          stands = field-stands a k own holder.0 holder.1 holder.2;
          shown = field-shown a k own holder.0 holder.1 holder.2 y e;
          none = none-written mid new holder.0 k (Slot slot) holder.2;
        })

    pub behind-given : (after : Stack) → Puts top.owner (Slot slot) mid.cells.heap new.cells.heap (left v) after
        → Behind after (Some seen.place) (val_of p.cells.heap w)
    behind-given after u =
        by-place seen.place (is p v at q g h two lie w seen) after (val_of p.cells.heap w) value-same
        (subst (λ o. Puts o (Slot slot) mid.cells.heap new.cells.heap (left v) after) (owner-row p v at q g h two lie w seen) u)
