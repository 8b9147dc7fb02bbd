-- What the two machines share, and changes of both that leave objects as they are.
use Rattle.std.proofs.Common.{◌≡◌, ◌≤◌, ℕ, zero, suc, ◌-◌, ◌^◌, ◌==◌, ◌⊎◌, inl, inr, true, false, true≢false, Bool as Truth, List, [], ◌∷◌}
use Rattle.std.proofs.Common.{Option, Some, None, option_and_then, option_map, unwrap_or, length, refl, sym, ap, ◌∙◌, arith, slice_get}
use Rattle.std.proofs.lemmas.Option.{same_Some}
use Rattle.std.proofs.lemmas.Bool.{cases_Bool}
use Rattle.std.specs.Prelude.{◌||◌, if◌then◌else◌}
use Rattle.std.specs.List.{list_any}
use Rattle.rg_base.specs.declared.object.Label.{Label}
use Rattle.rg_base.specs.declared.object.Label.TheVariants.{Region, Temp, Frozen}
use Rattle.rg_base.specs.declared.object.Place.{Place}
use Rattle.rg_base.specs.declared.object.Place.TheVariants as place
use Rattle.rg_base.specs.declared.object.Seen.{Seen}
use Rattle.rg_base.specs.declared.value.Val.{Val}
use Rattle.rg_base.specs.declared.words.Manager.{Manager}
use Rattle.rg_base.specs.declared.value.Val.TheVariants as val
use Rattle.rg_stack.specs.Machine.{Frame, Window, Machine, slot_at, top_slots, with_slots}
use Rattle.rg_stack.specs.Needs.{closed_of, closed_into}
use Rattle.rg_stack.specs.Labels.{is_open, label_of, is_into, is_outside}
use Rattle.rg_stack.proofs.Basics.{none-some, or-left}
use Rattle.rg_held.specs.Gone.{gone}
use Rattle.rg_held.specs.Part.{leads_to, AllLead, SlotInto, FieldInto, OwnerHeld, OwnersHeld, Placed, Part, is_of, is_shut_or_above}
use Rattle.rg_held.proofs.Places.{clash, field-into, open-more, or-right, slot-into}

-- a closed region has none above it, and may be led to

pub shut-above : (ws : List Window) (q p : ℕ) → is_shut_or_above ws q p ≡ true → is_open ws p ≡ false → is_open ws q ≡ false
shut-above [] q p e c = refl
shut-above (w ∷ ws) q p e c = by (w.region == q) refl e (shut-above ws q p)
  where
    by : (b : Truth) → (w.region == q) ≡ b → (if b then is_open ws p else is_shut_or_above ws q p) ≡ true
        → (is_shut_or_above ws q p ≡ true → is_open ws p ≡ false → is_open ws q ≡ false) → is_open (w ∷ ws) q ≡ false
    by true h e rest = clash (is_open ws p) e (or-right (w.region == p) (is_open ws p) c)
    by false h e rest = ap (λ b. b || is_open ws q) h ∙ rest e (or-right (w.region == p) (is_open ws p) c)

pub closed-above : (ws : List Window) (q p : ℕ) → is_open ws q ≡ false → is_shut_or_above ws q p ≡ true
closed-above [] q p c = refl
closed-above (w ∷ ws) q p c =
    ap (λ b. if b then is_open ws p else is_shut_or_above ws q p) (or-left (w.region == q) (is_open ws q) c)
    ∙ closed-above ws q p (or-right (w.region == q) (is_open ws q) c)

-- all values on the stack lead to what passes a test

pub lead-any : (test : ℕ → Truth) (vs : List Val) (i : ℕ) (v : Val) → AllLead test vs → slice_get vs i ≡ Some v → leads_to test v ≡ true
lead-any test [] i v a e = none-some v e
lead-any test (u ∷ vs) zero v a e = ap (leads_to test) (sym (same_Some u v e)) ∙ a.0
lead-any test (u ∷ vs) (suc i) v a e = lead-any test vs i v a.1 e

pub lead-more : (test also : ℕ → Truth) (v : Val) → ((a : ℕ) → test a ≡ true → also a ≡ true) → leads_to test v ≡ true → leads_to also v ≡ true
lead-more test also val.Nil h e = refl
lead-more test also (val.Int z) h e = refl
lead-more test also (val.Bool b) h e = refl
lead-more test also (val.Obj a) h e = h a e

pub all-more : (test also : ℕ → Truth) (vs : List Val) → ((a : ℕ) → test a ≡ true → also a ≡ true) → AllLead test vs → AllLead also vs
all-more test also [] h a = a
all-more test also (v ∷ vs) h a = (lead-more test also v h a.0, all-more test also vs h a.1)

-- a slot, and a field, that lead into a region do so in a machine that has them
abbrev pub slot-over : (m x : Machine) (r : ℕ) (s : SlotInto m r) → slice_get x.frames s.frame ≡ Some s.holder → is_into x.store r s.value ≡ true
    → SlotInto x r
slot-over m x r s there into = slot-into s.frame s.slot s.holder s.value there s.value_there into

abbrev pub field-over : (m x : Machine) (r : ℕ) (l : FieldInto m r) → slice_get x.store l.object ≡ Some l.holder
    → is_outside x.windows r l.holder.label ≡ true → is_into x.store r l.value ≡ true → FieldInto x r
field-over m x r l there outside into = field-into l.object l.field l.holder l.value there l.value_there outside into

abbrev pub field-frames : (m : Machine) (fs : List Frame) (r : ℕ) → FieldInto m r → FieldInto (record m { frames = fs }) r
field-frames m fs r p = field-over m (record m { frames = fs }) r p p.holder_there p.outside p.into

-- a slot of the topmost frame

pub slot-of-top : (m : Machine) (slots : List Val) (r j : ℕ) (u v : Val) → slice_get (top_slots m.frames) j ≡ Some u → slice_get slots j ≡ Some v
    → is_into m.store r v ≡ true → SlotInto (record m { frames = with_slots slots m.frames }) r
slot-of-top m slots r j u v old new into = by m.frames refl old
  where
    by : (fs : List Frame) → m.frames ≡ fs → slice_get (top_slots fs) j ≡ Some u → SlotInto (record m { frames = with_slots slots m.frames }) r
    by [] e old = none-some u old
    by (f ∷ fs) e old = slot-into 0 j (record f { slots = slots }) v (ap (λ l. slice_get (with_slots slots l) 0) e) new into

-- a slot that leads into a region is one of the topmost frame, or stays where that changes
pub slot-cases : (m : Machine) (slots : List Val) (r : ℕ) → SlotInto m r
    → ((j : ℕ) × ((v : Val) × (slice_get (top_slots m.frames) j ≡ Some v) × (is_into m.store r v ≡ true)))
    ⊎ SlotInto (record m { frames = with_slots slots m.frames }) r
slot-cases m slots r p = by m.frames refl p.frame p.holder_there
  where
    by : (fs : List Frame) → m.frames ≡ fs → (n : ℕ) → slice_get fs n ≡ Some p.holder
        → ((j : ℕ) × ((v : Val) × (slice_get (top_slots fs) j ≡ Some v) × (is_into m.store r v ≡ true)))
        ⊎ SlotInto (record m { frames = with_slots slots m.frames }) r
    by [] e n h = none-some p.holder h
    by (f ∷ fs) e zero h = inl (p.slot, (p.value, ap (λ (f : Frame). slice_get f.slots p.slot) (same_Some f p.holder h) ∙ p.value_there, p.into))
    by (f ∷ fs) e (suc n) h =
        inr (slot-into (suc n) p.slot p.holder p.value (ap (λ l. slice_get (with_slots slots l) (suc n)) e ∙ h) p.value_there p.into)

-- a slot behind such a change is one of the topmost frame's new ones, or was there
pub slots-back : (fs : List Frame) (slots : List Val) (n : ℕ) (h : Frame) (j : ℕ) (u : Val) → slice_get (with_slots slots fs) n ≡ Some h
    → slice_get h.slots j ≡ Some u
    → ((n ≡ 0) × (slice_get slots j ≡ Some u)) ⊎ ((g : Frame) × (slice_get fs n ≡ Some g) × (slice_get g.slots j ≡ Some u))
slots-back [] slots n h j u there e = none-some h there
slots-back (f ∷ fs) slots zero h j u there e =
    inl (refl, ap (λ (g : Frame). slice_get g.slots j) (same_Some (record f { slots = slots }) h there) ∙ e)
slots-back (f ∷ fs) slots (suc n) h j u there e = inr (h, there, e)

-- the slots of the topmost frame are slots
pub top-slot : (fs : List Frame) (j : ℕ) (u : Val) → slice_get (top_slots fs) j ≡ Some u
    → (g : Frame) × (slice_get fs 0 ≡ Some g) × (slice_get g.slots j ≡ Some u)
top-slot [] j u e = none-some u e
top-slot (f ∷ fs) j u e = (f, refl, e)

-- what a slot of the topmost frame holds leads to what is held, where all slots do
pub top-leads : (held : ℕ → Truth) (m : Machine) (s : ℕ)
    → ((n : ℕ) (h : Frame) (s : ℕ) (v : Val) → slice_get m.frames n ≡ Some h → slice_get h.slots s ≡ Some v → leads_to held v ≡ true)
    → leads_to held (slot_at m s) ≡ true
top-leads held m s slots = by (slice_get (top_slots m.frames) s) refl
  where
    by : (o : Option Val) → slice_get (top_slots m.frames) s ≡ o → leads_to held (unwrap_or o val.Nil) ≡ true
    by None e = refl
    by (Some v) e = let h = top-slot m.frames s v e in slots 0 h.0 s v h.1 h.2

-- owners of windows stay in what is held, where each object of a window beneath does
pub owners-over : (held also : ℕ → Truth) (store next : List Seen) (ws : List Window)
    → ((vs : List Window) (a : ℕ) (o : Seen) → ((r : ℕ) → is_open vs r ≡ true → is_open ws r ≡ true) → held a ≡ true → slice_get store a ≡ Some o
    → is_of vs o.label ≡ true → (also a ≡ true) × ((q : Seen) × (slice_get next a ≡ Some q) × (is_of vs q.label ≡ true)))
    → OwnersHeld held store ws → OwnersHeld also next ws
owners-over held also store next [] stays h = tt
owners-over held also store next (w ∷ ws) stays h = (
  by w.owner h.0,
  owners-over held also store next ws (λ vs a o up. stays vs a o (λ r e. open-more w ws r (up r e))) h.1,
)
  where
    by : (at : Option Place) → OwnerHeld held store ws at → OwnerHeld also next ws at
    by None h = tt
    by (Some (place.Var i j)) h = tt
    by (Some (place.Field a k)) h = stays ws a h.1.0 (λ r e. open-more w ws r e) h.0 h.1.1 h.1.2

module _ (held : ℕ → Truth) (owners : List Val) (f m : Machine) (stack : List Val) (p : Part held owners f m stack) where
  -- what is held is seen the same
  pub label-same : (v : Val) → leads_to held v ≡ true → label_of f.store v ≡ label_of m.store v
  label-same val.Nil h = refl
  label-same (val.Int z) h = refl
  label-same (val.Bool b) h = refl
  label-same (val.Obj a) h = ap (option_and_then (λ (o : Seen). Some o.label)) (p.same a h)

  pub closed-same : (v : Val) → leads_to held v ≡ true → closed_into f v ≡ closed_into m v
  closed-same v h = ap (λ ws. option_and_then (closed_of ws) (label_of f.store v)) p.windows
      ∙ ap (option_and_then (closed_of m.windows)) (label-same v h)

  -- an object that is there in the machine that frees, and isn't gone, is held
  pub open-region : (a : ℕ) (o : Seen) (r : ℕ) → slice_get f.store a ≡ Some o → o.label ≡ Region r → held a ≡ true
  open-region a o r there lies = elim (cases_Bool (held a)) [
    | inl h ↦ h
    | inr n ↦ absurd (gone_no (slice_get m.store a) (sym (p.others a n) ∙ there))
  ]
    where
      no_region : Temp (2 ^ 64 - 1) ≡ Region r → ⊥
      no_region e = true≢false (ap (λ (l : Label). elim l [ Region q ↦ false | Temp n ↦ true | Frozen ↦ false ]) e)

      gone_no : (s : Option Seen) → option_map (λ (q : Seen). gone) s ≡ Some o → ⊥
      gone_no None e = none-some o e
      gone_no (Some q) e = no_region (ap (λ (q : Seen). q.label) (same_Some gone o e) ∙ lies)

  -- other frames, managers and addresses, where store and windows stay
  pub part-beside : (ff fs : List Frame) (gf gm : List Manager) (af am : ℕ) (kept left : List Val) → ff ≡ fs → af ≡ am
      → length gf ≡ length gm → length m.managers ≤ length gm
      → ((r : ℕ) → is_open m.windows r ≡ true → slice_get gf r ≡ slice_get gm r)
      → ((a : ℕ) (o : Seen) (r : ℕ) → held a ≡ true → slice_get m.store a ≡ Some o → o.label ≡ Region r → slice_get gf r ≡ slice_get gm r)
      → ((n : ℕ) (h : Frame) (s : ℕ) (v : Val) → slice_get fs n ≡ Some h → slice_get h.slots s ≡ Some v → leads_to held v ≡ true)
      → AllLead held left
      → ((r : ℕ) → is_open m.windows r ≡ false → SlotInto m r
      → SlotInto (record m { frames = fs; managers = gm; at = am }) r ⊎ (list_any (is_into m.store r) kept ≡ true))
      → ((r : ℕ) → is_open m.windows r ≡ false → list_any (is_into m.store r) owners ≡ true
      → Placed held (record m { frames = fs; managers = gm; at = am }) r ⊎ (list_any (is_into m.store r) kept ≡ true))
      → Part held kept (record f { frames = ff; managers = gf; at = af }) (record m { frames = fs; managers = gm; at = am }) left
  part-beside ff fs gf gm af am kept left same at made more open_managers held_managers slots lead stay move = record {
    frames = same;
    windows = p.windows;
    windows_made = p.windows_made;
    at = at;
    managers_made = made;
    open_managers = open_managers;
    held_managers = held_managers;
    objects_made = p.objects_made;
    there = p.there;
    same = p.same;
    others = p.others;
    temps = p.temps;
    lost_temps = p.lost_temps;
    slots = slots;
    on_stack = lead;
    fields = p.fields;
    owned = λ a o r held_a there lies closed. elim (p.owned a o r held_a there lies closed) [
      | inl placed ↦ elim placed [
        | inl slot ↦ elim (stay r closed slot) [ inl s ↦ inl (inl s) | inr k ↦ inr k ]
        | inr field ↦ inl (inr (
          field-over m (record m { frames = fs; managers = gm; at = am }) r field.0 field.0.holder_there field.0.outside field.0.into,
          field.1,
        ))
      ]
      | inr any ↦ move r closed any
    ];
    window_owners = p.window_owners;
    tidy = record {
      some_window = p.tidy.some_window;
      differ = p.tidy.differ;
      numbers = p.tidy.numbers;
      regions = λ r o. (let l = p.tidy.regions r o in omega (arith, l, more));
      labels = λ a o r there lies. (let l = p.tidy.labels a o r there lies in omega (arith, l, more));
      fields = p.tidy.fields;
      inside = p.tidy.inside;
    };
  }

  -- other frames, the same in both
  pub part-frames : (ff fs : List Frame) (kept left : List Val) → ff ≡ fs
      → ((n : ℕ) (h : Frame) (s : ℕ) (v : Val) → slice_get fs n ≡ Some h → slice_get h.slots s ≡ Some v → leads_to held v ≡ true)
      → AllLead held left
      → ((r : ℕ) → is_open m.windows r ≡ false → SlotInto m r
      → SlotInto (record m { frames = fs }) r ⊎ (list_any (is_into m.store r) kept ≡ true))
      → ((r : ℕ) → is_open m.windows r ≡ false → list_any (is_into m.store r) owners ≡ true
      → Placed held (record m { frames = fs }) r ⊎ (list_any (is_into m.store r) kept ≡ true))
      → Part held kept (record f { frames = ff }) (record m { frames = fs }) left
  part-frames ff fs kept left same slots lead stay move =
      part-beside ff fs f.managers m.managers f.at m.at kept left same p.at p.managers_made (omega arith) p.open_managers p.held_managers slots
      lead stay move

  -- another stack, and other values that count as owners
  part-over : (kept left : List Val)
      → ((r : ℕ) → is_open m.windows r ≡ false → list_any (is_into m.store r) owners ≡ true
      → Placed held m r ⊎ (list_any (is_into m.store r) kept ≡ true)) → AllLead held left → Part held kept f m left
  part-over kept left h lead = part-frames f.frames m.frames kept left p.frames p.slots lead (λ r c slot. inl slot) h

  pub part-stack : (left : List Val) → AllLead held left → Part held owners f m left
  part-stack left lead = part-over owners left (λ r closed any. inr any) lead

  pub part-owners : (kept : List Val)
      → ((r : ℕ) → is_open m.windows r ≡ false → list_any (is_into m.store r) owners ≡ true
      → Placed held m r ⊎ (list_any (is_into m.store r) kept ≡ true)) → Part held kept f m stack
  part-owners kept h = part-over kept stack h p.on_stack
