-- What leaving a window with another bridge is given, and what of it holds once slots have ended.
use Rattle.std.proofs.Common.{◌≡◌, ◌≤◌, ◌==◌, ◌&&◌, ◌||◌, ℕ, true, false, List, [], ◌∷◌, ◌++◌, length, drop, reverse}
use Rattle.std.proofs.Common.{Option, Some, None, Bool as Truth, if◌then◌else◌, nat_le, nat_lt, unwrap_or, slice_get, option_and_then}
use Rattle.std.proofs.Common.{refl, sym, ap, subst, ◌∙◌, arith}
use Rattle.std.proofs.lemmas.Bool.{false≢true, and_parts, eqb-true, leb-true as le-back}
use Rattle.std.proofs.lemmas.List.{length-reverse}
use Rattle.rg_base.specs.declared.object.Label.{Label}
use Rattle.rg_base.specs.declared.object.Label.TheVariants.{Region, Temp, Frozen}
use Rattle.rg_base.specs.declared.object.Place.{Place}
use Rattle.rg_base.specs.declared.object.Place.TheVariants.{Var, Field}
use Rattle.rg_base.specs.declared.object.Seen.{Seen}
use Rattle.rg_base.specs.declared.value.Val.{Val}
use Rattle.rg_base.specs.declared.value.Val.TheVariants as val
use Rattle.rg_tree.proofs.TreesFrom.{slice_get-push}
use Rattle.rg_rules.specs.Regions.{among, in_regions}
use Rattle.rg_rules.specs.Values.{is_nil_value}
use Rattle.rg_code.specs.declared.op.Op.TheVariants as i
use Rattle.rg_stack.specs.Machine.{Frame, Machine, Window, end_slots, ended_slots, place_of, slot_at, top_slots, with_slots}
use Rattle.rg_stack.specs.Effects.{left}
use Rattle.rg_stack.specs.Tops.{frame_number, top_owner, top_region, without_top}
use Rattle.rg_stack.specs.Labels.{is_into, is_open}
use Rattle.rg_stack.specs.Needs.{closed_into, closed_of, is_empty, may_leave, owned_alone, owned_once}
use Rattle.rg_stack.specs.Places.{field_of, is_field, is_near, is_writable}
use Rattle.rg_stack.specs.Needs.{owner_leads, owner_near, places_into, seen_by_owner, temps_may_go}
use Rattle.rg_stack.specs.Places.{size_of, top_base, value_at}
use Rattle.rg_held.proofs.Lists.{reverse-cons}
use Rattle.rg_held.proofs.Places.{into-back, into-label, open-more, region-into, top-open}
use Rattle.rg_machine.specs.Core.{Core, Has}
use Rattle.rg_machine.specs.Effects.{ending, without}
use Rattle.rg_machine.proofs.End.Nil.{size-ended}
use Rattle.rg_machine.proofs.Leave.Lists.{seen-stays}
use Rattle.rg_machine.proofs.Release.Fewer.{fewer-left, regions-with}

-- The parts of the need

module _ (c : Core) (v s : ℕ) (given : Has (i.LeaveGiving v s) c) where
  abbrev m : Machine
  m = c.machine

  abbrev value : Truth
  value = is_nil_value (slot_at m v) || is_into m.store (top_region m.windows) (slot_at m v)

  parts : ((may_leave c.stack m s && value) ≡ true) × (seen_by_owner m s ≡ true)
  parts = and_parts (may_leave c.stack m s && value) (seen_by_owner m s) given

  -- what leaving is given
  pub giving-leave : Has (i.Leave s) c
  giving-leave = (and_parts (may_leave c.stack m s) value parts.0).0

  seen : (owned_alone m s ≡ true) × (owner_near m ≡ true)
  seen = and_parts (owned_alone m s) (owner_near m) parts.1

  alone : places_into (left m s) (top_region m.windows) ≤ 1
  alone = le-back (places_into (left m s) (top_region m.windows)) 1 seen.0

  leads : owner_leads (end_slots m s) ≡ true
  leads =
      let a = and_parts (is_empty c.stack && owned_once m && temps_may_go (end_slots m s) && owner_leads (end_slots m s))
      (nat_le (place_of m.frames s) (top_base m.windows)) giving-leave in
      (and_parts (is_empty c.stack && owned_once m && temps_may_go (end_slots m s)) (owner_leads (end_slots m s)) a.0).1

  -- a reference that is given leads into the topmost window's region
  pub giving-into : (y : Val) → slot_at m v ≡ y → is_nil_value y ≡ false → is_into m.store (top_region m.windows) y ≡ true
  giving-into y e some =
      sym (ap (λ t. t || is_into m.store (top_region m.windows) y) some)
      ∙ subst (λ y. (is_nil_value y || is_into m.store (top_region m.windows) y) ≡ true) e (and_parts (may_leave c.stack m s) value parts.0).1

  -- so it leads into no closed one
  pub giving-open : (w : Window) (ws : List Window) → m.windows ≡ w ∷ ws → (y : Val) → slot_at m v ≡ y → is_nil_value y ≡ false
      → closed_into m y ≡ None
  giving-open w ws some y e nil =
      ap (option_and_then (closed_of m.windows)) (into-label m.store (top_region m.windows) y (giving-into y e nil))
      ∙ ap (λ b. if b then None else Some (top_region m.windows)) (ap (λ l. is_open l (top_region l)) some ∙ top-open (w ∷ ws) tt)

-- Where a window's owner is, and what leads there

-- its place is a slot of the topmost frame, which leads into a region
pub record SlotSeen (n : Machine) (r frame slot : ℕ) : Type 0 where
  pub top : frame ≡ frame_number n.frames
  pub within : nat_lt slot (size_of n) ≡ true
  pub into : is_into n.store r (slot_at n slot) ≡ true

-- or a field of an object of the window beneath
pub record FieldSeen (n : Machine) (r a k : ℕ) : Type 0 where
  pub object : Seen
  pub there : slice_get n.store a ≡ Some object
  pub writable : is_writable (record n { windows = without_top n.windows }) object.label ≡ true
  pub within : nat_lt k (length object.fields) ≡ true
  pub into : is_into n.store r (field_of object k) ≡ true

abbrev pub OwnerSeen : Machine → (r : ℕ) → Place → Type 0
OwnerSeen n r (Var f j) = SlotSeen n r f j
OwnerSeen n r (Field a k) = FieldSeen n r a k

-- what a machine of which slots have ended tells of the window that is left with another bridge
pub record GivenSeen (n : Machine) (y : Val) : Type 0 where
  pub alone : places_into (record n { windows = without_top n.windows }) (top_region n.windows) ≤ 1
  pub place : Place
  pub owner : top_owner n.windows ≡ Some place
  pub seen : OwnerSeen n (top_region n.windows) place
  pub into : is_into n.store (top_region n.windows) y ≡ true

-- Frames of which slots have ended

number-same : (vs : List Val) (fs : List Frame) → frame_number (with_slots vs fs) ≡ frame_number fs
number-same vs [] = refl
number-same vs (f ∷ fs) = refl

-- the frame of the topmost one's number is the topmost one
slot-last : (j : ℕ) (fs : List Frame)
    → elim (slice_get (reverse fs) (frame_number fs)) [ None ↦ val.Nil | Some f ↦ unwrap_or (slice_get f.slots j) val.Nil ]
    ≡ unwrap_or (slice_get (top_slots fs) j) val.Nil
slot-last j [] = refl
slot-last j (f ∷ fs) =
    ap (λ (o : Option Frame). elim o [ None ↦ val.Nil | Some f ↦ unwrap_or (slice_get f.slots j) val.Nil ])
    (ap (λ l. slice_get l (length fs)) (reverse-cons f fs)
    ∙ ap (slice_get (reverse fs ++ f ∷ [])) (sym (length-reverse fs)) ∙ slice_get-push (reverse fs) f)

-- Once slots have ended, with what they owned

module _ (c : Core) (v s : ℕ) (given : Has (i.LeaveGiving v s) c) (w u : Window) (ws : List Window) (two : c.machine.windows ≡ w ∷ u ∷ ws)
    (shut : (r : ℕ) → among (regions-with c (drop s (top_slots c.machine.frames))) r ≡ true → is_open c.machine.windows r ≡ false) where
  abbrev old : Machine
  old = c.machine

  abbrev n : Machine
  n = (ending c s).machine

  abbrev gone : List ℕ
  gone = regions-with c (drop s (top_slots old.frames))

  stays : (r : ℕ) → is_open old.windows r ≡ true → among gone r ≡ false
  stays r e = by (among gone r) refl
    where
      by : (b : Truth) → among gone r ≡ b → b ≡ false
      by false is = refl
      by true is = absurd (false≢true (sym (shut r is) ∙ e))

  -- what leads into an open region does so still
  into-stays : (r : ℕ) (y : Val) → is_open old.windows r ≡ true → is_into old.store r y ≡ true → is_into n.store r y ≡ true
  into-stays r y o e =
      let t = into-back old.store r y e in
      ap (is_into n.store r) t.is
      ∙ region-into n.store r t.address t.object
      (seen-stays gone old.store t.address t.object t.there (ap (in_regions gone) t.label ∙ stays r o)) t.label

  top-region : top_region old.windows ≡ w.region
  top-region = ap top_region two

  active : is_open old.windows w.region ≡ true
  active = ap (λ l. is_open l w.region) two ∙ top-open (w ∷ u ∷ ws) tt

  beneath : is_open old.windows u.region ≡ true
  beneath = ap (λ l. is_open l u.region) two ∙ open-more w (u ∷ ws) u.region (top-open (u ∷ ws) tt)

  -- an object of the window beneath stays
  writable-stays : (l : Label) → is_writable (record old { windows = without_top old.windows }) l ≡ true → in_regions gone l ≡ false
  writable-stays (Region r) e =
      let same : r ≡ u.region = eqb-true r (top_region (without_top old.windows)) e ∙ ap (λ l. top_region (without_top l)) two in
      ap (among gone) same ∙ stays u.region beneath
  writable-stays (Temp k) e = refl
  writable-stays Frozen e = refl

  writable-same : (l : Label) → is_writable (record n { windows = without_top n.windows }) l
      ≡ is_writable (record old { windows = without_top old.windows }) l
  writable-same (Region r) = refl
  writable-same (Temp k) = refl
  writable-same Frozen = refl

  -- the owner's place leads into the region, and is near
  leads-at : (p : Place) → w.owner ≡ Some p → is_into old.store w.region (value_at (end_slots old s) p) ≡ true
  leads-at p e =
      sym (ap (λ (o : Option Place). elim o [ None ↦ false | Some p ↦ is_into old.store w.region (value_at (end_slots old s) p) ]) e)
      ∙ subst (λ l. owner_leads (record (end_slots old s) { windows = l }) ≡ true) two (leads c v s given)

  near-at : (p : Place) → w.owner ≡ Some p → is_near old p ≡ true
  near-at p e =
      sym (ap (λ (o : Option Place). elim o [ None ↦ true | Some p ↦ is_near old p ]) (ap top_owner two ∙ e))
      ∙ (seen c v s given).1

  slot-seen : (f j : ℕ) → w.owner ≡ Some (Var f j) → SlotSeen n w.region f j
  slot-seen f j e =
      let near = and_parts (f == frame_number old.frames) (nat_lt j (size_of old)) (near-at (Var f j) e) in
      let frame : f ≡ frame_number n.frames =
      eqb-true f (frame_number old.frames) near.0 ∙ sym (number-same (ended_slots s (top_slots old.frames)) old.frames) in
      record {
        top = frame;
        within = ap (nat_lt j) (size-ended old.frames s) ∙ near.1;
        into = into-stays w.region (slot_at n j) active
            (ap (is_into old.store w.region)
            (sym (ap (λ k. elim (slice_get (reverse n.frames) k) [ None ↦ val.Nil | Some f ↦ unwrap_or (slice_get f.slots j) val.Nil ]) frame
            ∙ slot-last j n.frames))
            ∙ leads-at (Var f j) e);
      }

  field-seen : (a k : ℕ) → w.owner ≡ Some (Field a k) → FieldSeen n w.region a k
  field-seen a k e = by (slice_get old.store a) refl (near-at (Field a k) e) (leads-at (Field a k) e)
    where
      by : (o : Option Seen) → slice_get old.store a ≡ o
          → elim o [ None ↦ false | Some o ↦ is_field (record old { windows = without_top old.windows }) k o ] ≡ true
          → is_into old.store w.region (elim o [ None ↦ val.Nil | Some o ↦ field_of o k ]) ≡ true → FieldSeen n w.region a k
      by None at near into = absurd (false≢true near)
      by (Some o) at near into =
          let parts = and_parts (is_writable (record old { windows = without_top old.windows }) o.label) (nat_lt k (length o.fields)) near in
          record {
            object = o;
            there = seen-stays gone old.store a o at (writable-stays o.label parts.0);
            writable = writable-same o.label ∙ parts.0;
            within = parts.1;
            into = into-stays w.region (field_of o k) active into;
          }

  place-seen : (o : Option Place) → w.owner ≡ o → (p : Place) × (w.owner ≡ Some p) × OwnerSeen n w.region p
  place-seen None e =
      absurd (false≢true
      (sym (ap (λ (o : Option Place). elim o [ None ↦ false | Some p ↦ is_into old.store w.region (value_at (end_slots old s) p) ]) e)
      ∙ subst (λ l. owner_leads (record (end_slots old s) { windows = l }) ≡ true) two (leads c v s given)))
  place-seen (Some (Var f j)) e = (Var f j, e, slot-seen f j e)
  place-seen (Some (Field a k)) e = (Field a k, e, field-seen a k e)

  pub given-seen : (y : Val) → slot_at old v ≡ y → is_nil_value y ≡ false → GivenSeen n y
  given-seen y e some =
      let o = place-seen w.owner refl in
      let fewer = fewer-left c (drop s (top_slots old.frames)) s (top_region old.windows) in
      let le = alone c v s given in
      let all : places_into (left (without c (drop s (top_slots old.frames))).machine s) (top_region old.windows) ≤ 1 = omega (arith, fewer, le) in
      record {
        alone = all;
        place = o.0;
        owner = ap top_owner two ∙ o.1;
        seen = subst (λ r. OwnerSeen n r o.0) (sym top-region) o.2;
        into = into-stays (top_region old.windows) y (ap (is_open old.windows) top-region ∙ active) (giving-into c v s given y e some);
      }
