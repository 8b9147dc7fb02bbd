-- What is read off the machine of an `iso` field is what the state has that it shows.
use Rattle.std.proofs.Common.{◌≡◌, ◌≢◌, ◌<◌, ◌≤◌, ◌-◌, ◌^◌, inl, inr, ℕ, List, [], ◌∷◌, Option, Some, None, option_map, option_and_then}
use Rattle.std.proofs.Common.{Result, Ok, slice_get, slice_index_or, refl, sym, ap, ◌∙◌, subst, if◌then◌else◌, ◌==◌, arith}
use Rattle.std.proofs.lemmas.Option.{same_Some, slice_get_within, get_or_from_slice_get}
use Rattle.rg_base.specs.declared.object.Label.TheVariants.{Region}
use Rattle.rg_base.specs.declared.object.Seen.{Seen}
use Rattle.rg_base.specs.declared.outcome.Trap.{Trap}
use Rattle.rg_base.specs.declared.words.Manager.{Manager}
use Rattle.rg_base.specs.declared.words.Manager.TheVariants.{Arena}
use Rattle.rg_base.specs.declared.value.Val.{Val}
use Rattle.rg_base.specs.declared.value.Val.TheVariants as val
use Rattle.rg_base.specs.declared.value.Word.{Word}
use Rattle.rg_base.specs.declared.value.Word.TheVariants as word
use Rattle.rg_base.proofs.Callers.Labels.{region-same, frozen-region}
use Rattle.rg_tree.specs.Tree.{Tree}
use Rattle.rg_rules.specs.State.{State}
use Rattle.rg_sound.specs.Fit.{Fit}
use Rattle.rg_sound.specs.Values.{IsRegion, Leads, MeetsRef}
use Rattle.rg_code.specs.Code.{Code}
use Rattle.rg_cells.specs.declared.cell.Body.{Body}
use Rattle.rg_cells.specs.Table.{Heap, body_at, field_at, width, Serials, HasSerial}
use Rattle.rg_regions.specs.Table.{Record, RegionTable, IsBridge}
use Rattle.rg_regions.specs.Reach.{LiesIn}
use Rattle.rg_regions.specs.Grove.{Grove}
use Rattle.rg_regions.proofs.Callers.Told.{labelled_held}
use Rattle.rg_cown.specs.Contents.{manager_in, cargo_at, cargo_of}
use Rattle.rg_heap.specs.Answers.{val_of, obj_of}
use Rattle.rg_heap.specs.Parts.{Parts as HeapParts}
use Rattle.rg_held.specs.Part.{Part}
use Rattle.rg_held.specs.Shown.{ShowsHeld}
use Rattle.rg_view.specs.View.{manager_with, object_of}
use Rattle.rg_view.proofs.Callers.Held.{all-lead}
use Rattle.rg_view.proofs.Callers.Link.{word-back}
use Rattle.rg_view.proofs.Callers.Look.{store-held}
use Rattle.rg_view.proofs.Callers.Manager.{manager-at, manager-of}
use Rattle.rg_view.proofs.Callers.Shown.{held-body}
use Rattle.rg_machine.specs.Collects.{holds}
use Rattle.rg_machine.specs.Parts.{Parts, machine_in}
use Rattle.rg_machine.specs.Stands.{Stands}
use Rattle.rg_machine.proofs.Callers.Collect.{has-record}
use Rattle.rg_machine.proofs.Callers.Gather.{holds-there}
use Rattle.rg_machine.proofs.Callers.Part.{shown-part}
use Rattle.rg_content.specs.Fields.{Holds, IsOwnField}
use Rattle.rg_content.proofs.Field.{elsewhere, value-there}
use Rattle.rg_content.proofs.Heap.{read-same, serial_in}

ok-same : (u v : Word) → ◌≡◌ {A = Result Word Trap} (Ok u) (Ok v) → u ≡ v
ok-same u v e = cc

-- both words for the manager of a number say the same
manager-same : (rs : List (Option Record)) (n : ℕ) → manager_in rs n ≡ manager_with n rs
manager-same [] n = refl
manager-same (None ∷ rs) n = manager-same rs n
manager-same (Some r ∷ rs) n = ap (λ m. if r.number == n then r.manager else m) (manager-same rs n)

-- what a word in a field says of a state: at nil the state has nil there, and else it leads to the bridge of a region, whose content is the state's
abbrev pub Says : Parts → State → (serial field : ℕ) → Word → Type 0
Says w s serial k word.Nil = Holds s.store serial k val.Nil
Says w s serial k (word.Int i) = ⊥
Says w s serial k (word.Bool b) = ⊥
Says w s serial k (word.Slot to) =
    ((r : ℕ) × (r ≢ 0) × IsBridge w.heap.regions r to)
    × ((b : ℕ) × Holds s.store serial k (val.Obj b) × (cargo_at w.heap.cells.heap w.heap.regions to ≡ cargo_of s.store s.managers b))

module _ (w : Parts) (ser : Serials w.heap.cells.heap) (g : Grove w.heap.cells w.heap.regions) (st : Stands w.heap w.frames)
    (few : w.frames.next ≤ 2 ^ 64 - 1) (t : Tree) (code : Code) (s : State) (fit : Fit t s)
    (shown : ShowsHeld t.classes code (machine_in w) s) where
  abbrev heap : Heap
  heap = w.heap.cells.heap

  abbrev regions : RegionTable
  regions = w.heap.regions

  beside : Part (holds heap) [] (machine_in w) shown.grown []
  beside = shown-part w shown.grown shown.held ser st few shown.beside

  -- a held cell stands at its serial
  held-object : (slot : ℕ) (b : Body) → body_at heap slot ≡ Some b → slice_get s.store b.serial ≡ Some (object_of heap (Some b))
  held-object slot b e =
      ap (λ (q : List Seen). slice_get q b.serial) (sym shown.shows.store)
      ∙ sym (beside.same b.serial (holds-there heap slot b e)) ∙ store-held heap slot b ser e

  lead : (slot k to : ℕ) → field_at heap slot k ≡ Some (word.Slot to) → (b : Body) × (body_at heap to ≡ Some b)
  lead slot k to e = held-body heap to (all-lead w.heap w.frames g st.opened st.temps slot k to e)

  -- a region of which a cell is held has the same manager
  managed : (slot r : ℕ) → LiesIn heap r slot → manager_in regions.records r ≡ slice_index_or s.managers r Arena
  managed slot r lies =
      let b = held-body heap slot (labelled_held heap slot (Region r) lies) in
      let label : b.0.label ≡ Region r = same_Some b.0.label (Region r) (sym (ap (option_map (λ (b : Body). b.label)) b.1) ∙ lies) in
      let here = holds-there heap slot b.0 b.1 in
      let key = g.labels r slot lies in
      let rec = has-record w.heap key.0 r key.1 in
      let same = beside.held_managers b.0.serial (object_of heap (Some b.0)) r here
      (sym (beside.same b.0.serial here) ∙ store-held heap slot b.0 ser b.1) label in
      let M : ℕ → Type 0 = λ n. manager_with n regions.records ≡ rec.0.manager in
      let P : ℕ → Type 0 = λ n. slice_get (machine_in w).managers n ≡ Some rec.0.manager in
      let at = subst P rec.2 (manager-at regions key.0 rec.0 st.numbers rec.1) in
      let plain : slice_get s.managers r ≡ Some rec.0.manager =
      ap (λ (ms : List Manager). slice_get ms r) (sym shown.shows.managers) ∙ sym same ∙ at in
      manager-same regions.records r ∙ subst M rec.2 (manager-of regions key.0 rec.0 st.numbers rec.1)
      ∙ sym (get_or_from_slice_get s.managers r rec.0.manager Arena plain)

  content-same : (bridge r : ℕ) → IsBridge regions r bridge
      → cargo_at heap regions bridge ≡ cargo_of s.store s.managers (serial_in (body_at heap bridge))
  content-same bridge r is =
      read-same w.heap.cells regions s.store s.managers ser g
      (λ slot k to e. all-lead w.heap w.frames g st.opened st.temps slot k to e) held-object managed bridge r is

  module _ (slot serial k : ℕ) (has : HasSerial heap slot serial) (x : IsOwnField t.classes s.store serial k) where
    object : x.object ≡ object_of heap (Some has.0)
    object =
        same_Some x.object (object_of heap (Some has.0)) (sym x.there ∙ ap (slice_get s.store) (sym has.2) ∙ held-object slot has.0 has.1)

    value : (v : Val) × (slice_get x.object.fields k ≡ Some v) × MeetsRef s.store x.class IsRegion v
    value = value-there t s fit serial k x

    word-there : (u : Word) × (slice_get has.0.fields k ≡ Some u) × (val_of heap u ≡ value.0)
    word-there = word-back heap has.0.fields k value.0 (ap (λ (o : Seen). slice_get o.fields k) (sym object) ∙ value.1)

    -- the field is there
    within : k < width (body_at heap slot)
    within =
        let lt = slice_get_within has.0.fields k word-there.0 word-there.1 in
        let is = ap width has.1 in
        omega (arith, lt, is)

    value-is : (u : Word) → field_at heap slot k ≡ Some u → val_of heap u ≡ value.0
    value-is u e =
        let same : word-there.0 ≡ u = same_Some word-there.0 u
        (sym word-there.1 ∙ sym (ap (option_and_then (λ (b : Body). slice_get b.fields k)) has.1) ∙ e) in
        ap (val_of heap) (sym same) ∙ word-there.2

    lies-here : LiesIn heap x.region slot
    lies-here =
        ap (option_map (λ (b : Body). b.label)) has.1 ∙ ap Some (ap (λ (o : Seen). o.label) (sym object) ∙ x.lies)

    holds-value : (v : Val) → v ≡ value.0 → Holds s.store serial k v
    holds-value v e = (x.object, x.there, value.1 ∙ ap Some (sym e))

    meets : (v : Val) → v ≡ value.0 → MeetsRef s.store x.class IsRegion v
    meets v e = subst (λ z. MeetsRef s.store x.class IsRegion z) (sym e) value.2

    leads-on : (to : ℕ) → field_at heap slot k ≡ Some (word.Slot to) → Says w s serial k (word.Slot to)
    leads-on to e =
        let d = lead slot k to e in
        let v : val.Obj d.0.serial ≡ value.0 = sym (ap obj_of d.1) ∙ value-is (word.Slot to) e in
        let l : Leads s.store d.0.serial x.class IsRegion = meets (val.Obj d.0.serial) v in
        let led : l.object ≡ object_of heap (Some d.0) =
        same_Some l.object (object_of heap (Some d.0)) (sym l.there ∙ held-object to d.0 d.1) in
        let q = l.label_fits.0 in
        let away = elsewhere t s fit serial k x d.0.serial q l.object (value.1 ∙ ap Some (sym v)) l.there l.label_fits.1 in
        let there : LiesIn heap q to =
        ap (option_map (λ (b : Body). b.label)) d.1 ∙ ap Some (ap (λ (o : Seen). o.label) (sym led) ∙ l.label_fits.1) in
        let B : Type 0 = (r : ℕ) × (r ≢ 0) × IsBridge regions r to in
        let bridge : B = elim (g.fields x.region slot k to lies-here e) [
          | inl frozen ↦ absurd (frozen-region q (sym frozen ∙ there))
          | inr more ↦ elim more [
            | inl own ↦ absurd (away.1 (region-same q x.region (sym there ∙ own)))
            | inr y ↦ (y.0, λ is. away.0 (region-same q y.0 (sym there ∙ y.2) ∙ is), y.3)
          ]
        ] in
        let c = content-same to bridge.0 bridge.2 in
        let C : ℕ → Type 0 = λ n. cargo_at heap regions to ≡ cargo_of s.store s.managers n in
        (bridge, (d.0.serial, holds-value (val.Obj d.0.serial) v, subst C (ap serial_in d.1) c))

    says : (u : Word) → field_at heap slot k ≡ Some u → Says w s serial k u
    says word.Nil e = holds-value val.Nil (value-is word.Nil e)
    says (word.Int i) e = meets (val.Int i) (value-is (word.Int i) e)
    says (word.Bool b) e = meets (val.Bool b) (value-is (word.Bool b) e)
    says (word.Slot to) e = leads-on to e

  -- the same of what is read of a heap that is the machine's
  module _ (h : HeapParts) (is : h ≡ w.heap) (slot serial k : ℕ) (has : HasSerial h.cells.heap slot serial)
      (x : IsOwnField t.classes s.store serial k) where
    has-here : HasSerial heap slot serial
    has-here = let H : HeapParts → Type 0 = λ h. HasSerial h.cells.heap slot serial in subst H is has

    pub may-read : k < width (body_at h.cells.heap slot)
    may-read =
        let L : HeapParts → Type 0 = λ h. k < width (body_at h.cells.heap slot) in subst L (sym is) (within slot serial k has-here x)

    pub said : (r : Result Word Trap) (u v : Word) → r ≡ Ok u → ((y : Word) × (r ≡ Ok y) × (field_at h.cells.heap slot k ≡ Some y)) → u ≡ v
        → Says w s serial k v
    said r u v e y same =
        let F : HeapParts → Type 0 = λ h. field_at h.cells.heap slot k ≡ Some v in
        let O : Word → Option Word = Some in
        says slot serial k has-here x v (subst F is (y.2 ∙ ap O (ok-same y.0 u (sym y.1 ∙ e) ∙ same)))
