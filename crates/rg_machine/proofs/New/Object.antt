-- What the machine holds where an object is made: all of it stands again, and the new slot leads where a word on the stack may.
use Rattle.std.proofs.Common.{◌≡◌, ◌⊎◌, inl, inr, ℕ, ◌-◌, List, [], ◌∷◌, ◌++◌, Option, Some, length, map, slice_get, refl, sym, ap, ◌∙◌}
use Rattle.std.proofs.Common.{subst, arith}
use Rattle.std.proofs.lemmas.List.{reverse-append}
use Rattle.std.proofs.lemmas.Option.{same_Some, slice_get_within}
use Rattle.rg_base.specs.declared.object.Label.{Label}
use Rattle.rg_base.specs.declared.object.Label.TheVariants.{Region, Temp}
use Rattle.rg_base.specs.declared.words.Manager.{Manager}
use Rattle.rg_base.specs.declared.value.Val.{Val}
use Rattle.rg_base.specs.declared.value.Val.TheVariants.{Obj}
use Rattle.rg_base.specs.declared.value.Word.{Word}
use Rattle.rg_base.specs.declared.value.Word.TheVariants.{Slot}
use Rattle.rg_sound.proofs.Frames.Stands.{snoc-cases as in-front-or}
use Rattle.rg_cells.specs.Table.{Serials, label_at, IsHeld}
use Rattle.rg_regions.specs.Table.{IsBridge}
use Rattle.rg_regions.specs.Grove.{Grove}
use Rattle.rg_frames.specs.declared.rows.Window.{Window}
use Rattle.rg_frames.specs.Stack.{Stack, IsTop}
use Rattle.rg_frames.specs.Changes.{MarksLie, with_temp}
use Rattle.rg_stack.specs.Machine.{Machine, value_of_word}
use Rattle.rg_stack.specs.Tops.{top_region, top_window}
use Rattle.rg_heap.specs.Parts.{Parts, OnTop}
use Rattle.rg_heap.specs.Answers.{AllLead as FieldsLead, val_of, obj_of, IsClosed}
use Rattle.rg_heap.specs.Changes.{LeadsNowhere, Makes, OnActive, OpensOne, Rewritten, with_one}
use Rattle.rg_heap.specs.Opened.{IsTempOf, IsWindow}
use Rattle.rg_held.proofs.Lists.{reverse-back}
use Rattle.rg_view.specs.View.{machine_of, managers_of, store_of, values_of, windows_of}
use Rattle.rg_view.proofs.Callers.Look.{store-length}
use Rattle.rg_view.proofs.Callers.New.{made-same}
use Rattle.rg_view.proofs.Callers.Manager.{managers-length}
use Rattle.rg_view.proofs.Callers.Open.{number-is}
use Rattle.rg_view.proofs.Callers.Shown.{values-same}
use Rattle.rg_view.proofs.Callers.Held.{all-lead}
use Rattle.rg_view.proofs.Callers.Machine.{made-machine, opened-machine}
use Rattle.rg_view.proofs.Callers.Table.{rewritten-numbers}
use Rattle.rg_view.proofs.Callers.Window.{active-region, active-number}
use Rattle.rg_machine.specs.Core.{Core, with_machine, with_made}
use Rattle.rg_machine.specs.Cores.{core_of}
use Rattle.rg_machine.specs.Stands.{AllLead, Leads, Stands}
use Rattle.rg_machine.proofs.New.Grow.{Grown, grown-stands, grown-more-lead, with_temps}
use Rattle.rg_machine.proofs.New.Temporary.{temp-on, temp-back, temp-new, temp-held}
use Rattle.rg_machine.proofs.New.Cells.{held-other, made-held, made-label, made-back, label-new, label-was, made-field, held-new}
use Rattle.rg_machine.proofs.Kept.{Kept, rewritten-kept, equal-kept, opens-kept, opens-bridge, equal-numbers}
use Rattle.rg_machine.proofs.Known.{top-window, key-there, region-made, windows-known, open-not}

-- words of one heap show the same in the other, and the new slot shows the new object
pub made-values : (old new : Parts) (v : Stack) (words : List Word) (slot class : ℕ) (label : Label) (fields : List Word)
    → Makes old.cells new.cells slot class label fields → AllLead old v words
    → values_of new.cells.heap (words ++ Slot slot ∷ []) ≡ Obj (length (store_of old.cells.heap)) ∷ values_of old.cells.heap words
made-values old new v words slot class label fields m l =
    ap (map (val_of new.cells.heap)) (reverse-append words (Slot slot ∷ []))
    ∙ ap (λ x. x ∷ values_of new.cells.heap words) (ap obj_of m.made.body ∙ ap Obj (sym (store-length old.cells.heap)))
    ∙ ap (λ xs. Obj (length (store_of old.cells.heap)) ∷ xs)
    (values-same old.cells.heap new.cells.heap words (λ k s e.
    let j = reverse-back words k (Slot s) e in
    made-same old.cells new.cells slot class label fields m s ((l j.0 (Slot s) j.1).held s refl)))

-- what comes with an object
grown-by : (old new : Parts) (v : Stack) (slot class : ℕ) (label : Label) (fields : List Word)
    → Makes old.cells new.cells slot class label fields → LeadsNowhere fields → Kept old.regions new.regions → (ts : List ℕ)
    → ((i s : ℕ) (w : Window) → IsWindow v i w → IsTempOf (with_temps v ts) i s → label_at new.cells.heap s ≡ Some (Temp w.number))
    → ((i s : ℕ) (w : Window) → IsWindow v i w → label_at new.cells.heap s ≡ Some (Temp w.number) → IsTempOf (with_temps v ts) i s)
    → ((j k s : ℕ) → slice_get ts j ≡ Some s → slice_get ts k ≡ Some s → j ≡ k)
    → ((s n : ℕ) → label_at new.cells.heap s ≡ Some (Temp n) → (i : ℕ) × (w : Window) × IsWindow v i w × (w.number ≡ n))
    → Grown old new v ts
grown-by old new v slot class label fields m plain k ts temps all_temps once windows = record {
  held = made-held old.cells new.cells slot class label fields m plain;
  label = made-label old.cells new.cells slot class label fields m plain;
  label_back = made-back old.cells new.cells slot class label fields m plain;
  field_back = made-field old.cells new.cells slot class label fields m plain;
  number = k.number;
  bridge = k.bridge;
  numbers = k.numbers;
  bridges = k.bridges;
  temps = temps;
  all_temps = all_temps;
  once = once;
  windows = windows;
}

module _ (old new : Parts) (v : Stack) (slot class : ℕ) (label : Label) (fields : List Word)
    (m : Makes old.cells new.cells slot class label fields) (plain : LeadsNowhere fields) (g : Grove old.cells old.regions) (st : Stands old v)
    (k : Kept old.regions new.regions) where
  -- an object of a region comes
  made-grown : (r : ℕ) → label ≡ Region r → Grown old new v v.temps
  made-grown r is = grown-by old new v slot class label fields m plain k v.temps
      (λ i s w e t. made-label old.cells new.cells slot class label fields m plain s (Temp w.number) (st.opened.temps i s w e t))
      (λ i s w e l. st.opened.all_temps i s w e (was s w.number l)) st.opened.once (λ s n l. st.temps s n (was s n l))
    where
      was : (s n : ℕ) → label_at new.cells.heap s ≡ Some (Temp n) → label_at old.cells.heap s ≡ Some (Temp n)
      was s n e = elim (label-was old.cells new.cells slot class label fields m plain s (Temp n) e) [
        | inl l ↦ l
        | inr x ↦ let f : Region r ≡ Temp n = sym is ∙ x.1 in absurd cc
      ]

  pub made-stands : (r : ℕ) → label ≡ Region r → Stands new v
  made-stands r is = grown-stands old new v v.temps g st (made-grown r is)

  -- the word that leads to it, where its region is open or it is the bridge
  pub made-lead : (r : ℕ) (words : List Word) → label ≡ Region r → (IsClosed new.regions v r → IsBridge new.regions r slot) → AllLead old v words
      → AllLead new v (words ++ Slot slot ∷ [])
  made-lead r words is bridge l = grown-more-lead old new v v.temps g st (made-grown r is) words (Slot slot) l (record {
    held = λ s e. subst (IsHeld new.cells.heap) (slot-is slot s e) (held-new old.cells new.cells slot class label fields m plain);
    bridge = λ s q e i c.
        let same : slot ≡ s = slot-is slot s e in
        let lies : Region r ≡ Region q =
        same_Some (Region r) (Region q)
        (ap Some (sym is) ∙ sym (label-new old.cells new.cells slot class label fields m plain) ∙ ap (label_at new.cells.heap) same ∙ i) in
        let region : r ≡ q = region-is r q lies in
        subst (λ x. IsBridge new.regions q x) same
        (subst (λ x. IsBridge new.regions x slot) region (bridge (subst (λ x. IsClosed new.regions v x) (sym region) c)));
  })
    where
      slot-is : (a b : ℕ) → Slot a ≡ Slot b → a ≡ b
      slot-is a b e = cc

      region-is : (a b : ℕ) → Region a ≡ Region b → a ≡ b
      region-is a b e = cc

-- What is shown

abbrev core : Machine → List Val → Option Val → Core
core m s printed = record { machine = m; stack = s; printed = printed }

core-same : (m m₂ : Machine) (s s₂ : List Val) (printed : Option Val) → m ≡ m₂ → s ≡ s₂ → core m s printed ≡ core m₂ s₂ printed
core-same m m₂ s s₂ printed e f = ap (λ x. core x s printed) e ∙ ap (λ x. core m₂ x printed) f

-- Where an object is made in the active region

-- what holds behind it
pub record Pushed (old new : Parts) (v u : Stack) (words : List Word) (slot class : ℕ) (label : Label) (fields : List Word) (managers : List Manager)
    (at : ℕ) (printed : Option Val) : Type 0 where
  pub stands : Stands new u
  pub lead : AllLead new u (words ++ Slot slot ∷ [])
  pub core : core_of (record { heap = new; frames = u; words = words ++ Slot slot ∷ []; at = at; printed = printed })
      ≡ with_made (with_machine (core_of (record { heap = old; frames = v; words = words; at = at; printed = printed }))
      (record (machine_of old v at) { managers = managers })) class (map value_of_word fields) label

module _ (old new : Parts) (v : Stack) (words : List Word) (at : ℕ) (printed : Option Val) (slot class : ℕ) (fields : List Word)
    (g : Grove old.cells old.regions) (q : Serials old.cells.heap) (st : Stands old v) (l : AllLead old v words)
    (plain : LeadsNowhere fields) where
  fields-lead : (s : ℕ) → FieldsLead old.cells.heap s
  fields-lead = all-lead old v g st.opened st.temps

  -- an object of the active region
  pub make-pushed : OnActive old.regions v (λ key n. Makes old.cells new.cells slot class (Region n) fields)
      → OnTop v (λ w. Rewritten old.regions new.regions w.region (with_one slot))
      → Pushed old new v v words slot class (Region (top_region (windows_of old.regions v))) fields (managers_of old.regions) at printed
  make-pushed cell member =
      let w = top-window old v st in
      let n = st.opened.known (length v.windows - 1) w.0 w.1 in
      let m = cell w.0 n.0 w.1 n.1 in
      let known = windows-known old v st in
      let key = key-there old.regions w.0.region n.0 n.1 in
      let kept = rewritten-kept old.regions new.regions w.0.region (with_one slot) (member w.0 w.1) key (λ r. refl) (λ r. refl)
      st.numbers st.bridges in
      let region : n.0 ≡ top_region (windows_of old.regions v) =
      sym (active-region old.regions v w.0 w.1 ∙ number-is old.regions w.0.region n.0 n.1) in
      subst (λ r. Pushed old new v v words slot class (Region r) fields (managers_of old.regions) at printed) region (record {
        stands = made-stands old new v slot class (Region n.0) fields m plain g st kept n.0 refl;
        lead = made-lead old new v slot class (Region n.0) fields m plain g st kept n.0 words refl
            (λ c. absurd (open-not new.regions v (length v.windows - 1) w.0 n.0 kept.numbers w.1 (kept.number w.0.region n.0 n.1) c)) l;
        core = core-same _ _ _ _ printed
            (made-machine v at old new slot class (Region n.0) fields m
            (rewritten-numbers old.regions new.regions w.0.region (with_one slot) (member w.0 w.1) key (λ r. refl) (λ r. refl))
            plain q st.numbers fields-lead st.opened.slots known)
            (made-values old new v words slot class (Region n.0) fields m l);
      })

-- Where an object is made in a region of its own

module _ (old new : Parts) (v : Stack) (words : List Word) (at : ℕ) (printed : Option Val) (slot class : ℕ) (fields : List Word)
    (g : Grove old.cells old.regions) (q : Serials old.cells.heap) (st : Stands old v) (l : AllLead old v words)
    (plain : LeadsNowhere fields) where
  pub region-pushed : (manager : Manager) → Makes old.cells new.cells slot class (Region old.regions.next) fields
      → OpensOne old.regions new.regions slot manager
      → Pushed old new v v words slot class (Region (length (managers_of old.regions))) fields (managers_of old.regions ++ manager ∷ []) at printed
  region-pushed manager m o =
      let n = old.regions.next in
      let kept = opens-kept old.regions new.regions o.0 slot manager o.1 st.numbers st.bridges (region-made old v st) in
      subst (λ r. Pushed old new v v words slot class (Region r) fields (managers_of old.regions ++ manager ∷ []) at printed)
      (sym (managers-length old.regions)) (record {
        stands = made-stands old new v slot class (Region n) fields m plain g st kept n refl;
        lead = made-lead old new v slot class (Region n) fields m plain g st kept n words refl
            (λ c. opens-bridge old.regions new.regions o.0 slot manager o.1) l;
        core = core-same _ _ _ _ printed
            (opened-machine v at old new slot class (Region n) fields manager m o plain q st.numbers
            (all-lead old v g st.opened st.temps) st.opened.slots (windows-known old v st))
            (made-values old new v words slot class (Region n) fields m l);
      })

-- Where a temporary of the topmost window is made

module _ (old new : Parts) (v : Stack) (words : List Word) (at : ℕ) (printed : Option Val) (slot class : ℕ) (fields : List Word)
    (g : Grove old.cells old.regions) (q : Serials old.cells.heap) (marks : MarksLie v) (st : Stands old v) (l : AllLead old v words)
    (plain : LeadsNowhere fields) where
  module _ (w : Window) (top : IsTop v w) (m : Makes old.cells new.cells slot class (Temp w.number) fields) (same : new.regions ≡ old.regions) where
    abbrev label : Label
    label = Temp w.number

    fresh-temp : (s : ℕ) (u : Window) → slot ≡ s → w ≡ u → label_at new.cells.heap s ≡ Some (Temp u.number)
    fresh-temp s u here is =
        ap (label_at new.cells.heap) (sym here) ∙ label-new old.cells new.cells slot class label fields m plain
        ∙ ap (λ (x : Window). Some (Temp x.number)) is

    temp-was : (s : ℕ) (k : Label) → label_at new.cells.heap s ≡ Some k → (label_at old.cells.heap s ≡ Some k) ⊎ ((s ≡ slot) × (label ≡ k))
    temp-was s k e = label-was old.cells new.cells slot class label fields m plain s k e

    number-is-of : (a b : ℕ) → Temp a ≡ Temp b → a ≡ b
    number-is-of a b e = cc

    temp-grown : Grown old new v (v.temps ++ slot ∷ [])
    temp-grown =
        let k = equal-kept old.regions new.regions same st.numbers st.bridges in
        let many = st.opened.as_many in
        let some = st.opened.some in
        grown-by old new v slot class label fields m plain k (v.temps ++ slot ∷ [])
        (λ i s u e t. elim (temp-back v marks slot i s t) [
          | inl was ↦ made-label old.cells new.cells slot class label fields m plain s (Temp u.number) (st.opened.temps i s u e was)
          | inr here ↦
              let le = here.1 in
              let lt = slice_get_within v.windows i u e in
              let last : length v.windows - 1 ≡ i = omega (arith, le, lt, many) in
              fresh-temp s u here.0 (same_Some w u (sym top ∙ ap (slice_get v.windows) last ∙ e))
        ])
        (λ i s u e h. elim (temp-was s (Temp u.number) h) [
          | inl was ↦ temp-on v marks slot i s (st.opened.all_temps i s u e was)
          | inr here ↦
              let last : length v.windows - 1 ≡ i =
              st.window_numbers (length v.windows - 1) i w u top e (number-is-of w.number u.number here.1) in
              subst (λ x. IsTempOf (with_temp v slot) i x) (sym here.0)
              (temp-new v marks slot i (omega (arith, last, many, some)) (omega (arith, last, many, some)))
        ])
        (λ j k s e f. elim (in-front-or v.temps slot s j e) [
          | inl a ↦ elim (in-front-or v.temps slot s k f) [
            | inl b ↦ st.opened.once j k s a b
            | inr b ↦ absurd (held-other old.cells new.cells slot class label fields m plain s (temp-held old v st j s a) (sym b.1))
          ]
          | inr a ↦ elim (in-front-or v.temps slot s k f) [
            | inl b ↦ absurd (held-other old.cells new.cells slot class label fields m plain s (temp-held old v st k s b) (sym a.1))
            | inr b ↦ a.0 ∙ sym b.0
          ]
        ])
        (λ s n h. elim (temp-was s (Temp n) h) [
          | inl was ↦ st.temps s n was
          | inr here ↦ (length v.windows - 1, w, top, number-is-of w.number n here.1)
        ])

    temp-lead : Leads new (with_temp v slot) (Slot slot)
    temp-lead = record {
      held = λ s e. subst (IsHeld new.cells.heap) (slot-is slot s e) (held-new old.cells new.cells slot class label fields m plain);
      bridge = λ s r e i c.
          let is : label ≡ Region r =
          same_Some label (Region r)
          (sym (label-new old.cells new.cells slot class label fields m plain) ∙ ap (label_at new.cells.heap) (slot-is slot s e) ∙ i) in
          absurd cc;
    }
      where
        slot-is : (a b : ℕ) → Slot a ≡ Slot b → a ≡ b
        slot-is a b e = cc

    temp-made : Pushed old new v (with_temp v slot) words slot class label fields (managers_of old.regions) at printed
    temp-made = record {
      stands = grown-stands old new v (v.temps ++ slot ∷ []) g st temp-grown;
      lead = grown-more-lead old new v (v.temps ++ slot ∷ []) g st temp-grown words (Slot slot) l temp-lead;
      core = core-same _ _ _ _ printed
          (made-machine v at old new slot class label fields m (equal-numbers old.regions new.regions same) plain q st.numbers
          (all-lead old v g st.opened st.temps) st.opened.slots (windows-known old v st))
          (made-values old new v words slot class label fields m l);
    }

  pub temp-pushed : OnTop v (λ w. Makes old.cells new.cells slot class (Temp w.number) fields) → new.regions ≡ old.regions
      → Pushed old new v (with_temp v slot) words slot class (Temp (top_window (windows_of old.regions v))) fields (managers_of old.regions) at
      printed
  temp-pushed cell same =
      let w = top-window old v st in
      subst (λ n. Pushed old new v (with_temp v slot) words slot class (Temp n) fields (managers_of old.regions) at printed)
      (sym (active-number old.regions v w.0 w.1)) (temp-made w.0 w.1 (cell w.0 w.1) same)
