-- What callers cite of owners: each closed region of the machine's own heap has one owner reference, which leads to its bridge.
use Rattle.std.proofs.Common.{◌≡◌, ◌≤◌, ◌<◌, inl, inr, ℕ, zero, suc, ◌+◌, ◌-◌, ◌^◌, Bool as Truth, true, false, not, List, [], ◌∷◌}
use Rattle.std.proofs.Common.{map, length, take, drop, reverse, Some, option_map, option_and_then, slice_get}
use Rattle.std.proofs.Common.{refl, sym, ap, ◌∙◌, subst, arith}
use Rattle.std.specs.List.{count_by}
use Rattle.std.proofs.lemmas.Bool.{cases_eq, false≢true, eq-eqb as eq-is, cases_lt as order}
use Rattle.std.proofs.lemmas.List.{length-take-le}
use Rattle.std.proofs.lemmas.List.Sums.{sum_by-cons}
use Rattle.std.proofs.lemmas.Option.{none-some, same_Some, slice_get-map, slice_get_within}
use Rattle.rg_base.specs.declared.object.Label.{Label}
use Rattle.rg_base.specs.declared.object.Label.TheVariants.{Region, Temp, Frozen}
use Rattle.rg_base.specs.declared.object.Seen.{Seen}
use Rattle.rg_base.specs.declared.value.Val.{Val}
use Rattle.rg_base.specs.declared.value.Val.TheVariants as val
use Rattle.rg_base.specs.declared.value.Word.{Word}
use Rattle.rg_base.specs.declared.value.Word.TheVariants as word
use Rattle.rg_base.proofs.Callers.Labels.{region-same, frozen-region}
use Rattle.rg_base.proofs.Callers.Options.{some-there}
use Rattle.rg_base.proofs.Callers.Lists.{there}
use Rattle.rg_tree.specs.Tree.{Tree}
use Rattle.rg_rules.specs.State.{State}
use Rattle.rg_sound.specs.Fit.{Fit}
use Rattle.rg_sound.proofs.Owners.Owner.{get-take-within}
use Rattle.rg_code.specs.Code.{Code}
use Rattle.rg_cells.specs.declared.cell.Body.{Body}
use Rattle.rg_cells.specs.Table.{Heap, label_at, field_at, Serials}
use Rattle.rg_regions.specs.Table.{HasNumber, IsBridge}
use Rattle.rg_regions.specs.Reach.{LiesIn}
use Rattle.rg_regions.specs.Grove.{Grove}
use Rattle.rg_regions.proofs.Callers.Told.{labelled_held}
use Rattle.rg_frames.specs.declared.rows.Frame.{Frame as FrameRow}
use Rattle.rg_frames.specs.declared.rows.Window.{Window as WindowRow}
use Rattle.rg_stack.specs.Machine.{Frame, Machine}
use Rattle.rg_stack.specs.Needs.{slots_into, owned_once}
use Rattle.rg_stack.specs.Labels.{is_open, is_into, is_outside, label_of}
use Rattle.rg_stack.specs.Shows.{Shows}
use Rattle.rg_heap.specs.Answers.{val_of, IsClosed}
use Rattle.rg_heap.specs.Opened.{IsWindow}
use Rattle.rg_view.specs.Lain.{Nested}
use Rattle.rg_view.specs.View.{object_of, store_of, frames_of, windows_of}
use Rattle.rg_view.proofs.Callers.Frame.{frames_from}
use Rattle.rg_view.proofs.Callers.Held.{all-lead}
use Rattle.rg_view.proofs.Callers.Look.{store-held}
use Rattle.rg_view.proofs.Callers.Need.{keyed, weight, closed-not-first}
use Rattle.rg_view.proofs.Callers.Once.{outside-once, outside-counts}
use Rattle.rg_view.proofs.Callers.Open.{closed-not-open, into-there, label-back}
use Rattle.rg_view.proofs.Callers.Shown.{get-drop, held-body}
use Rattle.rg_held.specs.Part.{Part, SlotInto, FieldInto, leads_to}
use Rattle.rg_held.specs.Shown.{ShowsHeld}
use Rattle.rg_held.proofs.Places.{into-label}
use Rattle.rg_held.proofs.Lists.{count-one as count-hit}
use Rattle.rg_machine.specs.Collects.{holds}
use Rattle.rg_machine.specs.Owned.{Holder, Owner, Owns, IsOwned, in_slot, in_field}
use Rattle.rg_machine.specs.Parts.{Parts as Whole, machine_in}
use Rattle.rg_machine.specs.Stands.{Stands}
use Rattle.rg_machine.proofs.Callers.Collect.{has-record}
use Rattle.rg_machine.proofs.Callers.Gather.{field-there, frame-slot, holds-there}
use Rattle.rg_machine.proofs.Known.{open-not}
use Rattle.rg_machine.proofs.Callers.Part.{once-held, shown-part}
use Rattle.rg_machine.proofs.Release.Behind.{most-one, slot-counts-one, slots-count}
use Rattle.rg_machine.proofs.New.Grow.{field-held}

-- Counts

-- two places of a list
two-hits : {A : Type 0} (test : A → Truth) (xs : List A) (i j : ℕ) (x y : A) → slice_get xs i ≡ Some x → slice_get xs j ≡ Some y → i < j
    → test x ≡ true → test y ≡ true → 2 ≤ count_by test xs
two-hits test [] i j x y e g lt a b = absurd (none-some x e)
two-hits test (z ∷ xs) i zero x y e g lt a b = absurd (omega (arith, lt))
two-hits test (z ∷ xs) zero (suc j) x y e g lt a b =
    let c : count_by test (z ∷ xs) ≡ weight (test z) + count_by test xs = sum_by-cons (λ x. weight (test x)) z xs in
    let one : weight (test z) ≡ weight true = ap (λ x. weight (test x)) (same_Some z x e) ∙ ap weight a in
    let rest = count-hit test xs j y g b in
    omega (arith, c, one, rest)
two-hits test (z ∷ xs) (suc i) (suc j) x y e g lt a b =
    let c : count_by test (z ∷ xs) ≡ weight (test z) + count_by test xs = sum_by-cons (λ x. weight (test x)) z xs in
    let rest = two-hits test xs i j x y e g (omega (arith, lt)) a b in
    omega (arith, c, rest)

-- a slot of the topmost frame shows its word
top-shows : (h : Heap) (slots : List Word) (first j : ℕ) (w : Word) → first ≤ j → slice_get slots j ≡ Some w
    → slice_get (map (val_of h) (drop first slots)) (j - first) ≡ Some (val_of h w)
top-shows h slots first j w le e =
    let back : first + (j - first) ≡ j = omega (arith, le) in
    slice_get-map (val_of h) (drop first slots) (j - first)
    ∙ ap (option_map (val_of h)) (get-drop first (j - first) slots ∙ ap (slice_get slots) back ∙ e)

-- two slots of any frames that lead into a region are counted
slots-two : (h : Heap) (r i j : ℕ) (w u : Word) (slots : List Word) (first : ℕ) (fs : List FrameRow) → Nested first (length slots) fs
    → slice_get slots i ≡ Some w → slice_get slots j ≡ Some u → i < j
    → is_into (store_of h) r (val_of h w) ≡ true → is_into (store_of h) r (val_of h u) ≡ true
    → 2 ≤ slots_into (store_of h) r (frames_from h slots first fs)
slots-two h r i j w u slots first [] n e f lt a b = let within = slice_get_within slots i w e in absurd (omega (arith, n, within))
slots-two h r i j w u slots first (x ∷ fs) n e f lt a b =
    let counts : Frame → ℕ = λ f. count_by (is_into (store_of h) r) f.slots in
    let top : Frame = record { slots = map (val_of h) (drop first slots); back = x.back } in
    let all = sum_by-cons counts top (frames_from h (take first slots) x.below fs) in
    let P : ℕ → Type 0 = λ n. Nested x.below n fs in
    let under = subst P (sym (length-take-le first slots n.0)) n.1 in
    elim (order j first) [
      | inl less ↦
          let two = slots-two h r i j w u (take first slots) x.below fs under
          (get-take-within first slots i (omega (arith, lt, less)) ∙ e) (get-take-within first slots j less ∙ f) lt a b in
          omega (arith, all, two)
      | inr le ↦ elim (order i first) [
        | inl less ↦
            let one = slots-count h r i w (take first slots) x.below fs under (get-take-within first slots i less ∙ e) a in
            let more = count-hit (is_into (store_of h) r) (map (val_of h) (drop first slots)) (j - first) (val_of h u)
            (top-shows h slots first j u le f) b in
            omega (arith, all, one, more)
        | inr from ↦
            let two = two-hits (is_into (store_of h) r) (map (val_of h) (drop first slots)) (i - first) (j - first) (val_of h w) (val_of h u)
            (top-shows h slots first i w from e) (top-shows h slots first j u le f) (omega (arith, lt, from)) a b in
            omega (arith, all, two)
      ]
    ]

-- Labels

not-outside : (w : Whole) (r : ℕ) (l : Label) → is_outside (windows_of w.heap.regions w.frames) r l ≡ true → l ≡ Region r → ⊥
not-outside w r l e is =
    let ws = windows_of w.heap.regions w.frames in
    false≢true (sym (ap not (eq-is r r refl)) ∙ sym (ap (is_outside ws r) is) ∙ e)

module _ (w : Whole) (ser : Serials w.heap.cells.heap) (g : Grove w.heap.cells w.heap.regions) (st : Stands w.heap w.frames) where
  abbrev heap : Heap
  heap = w.heap.cells.heap

  -- The bridge

  no-window : (q : ℕ) → IsClosed w.heap.regions w.frames q → (i : ℕ) (u : WindowRow) → IsWindow w.frames i u
      → HasNumber w.heap.regions u.region q → ⊥
  no-window q c i u is has = open-not w.heap.regions w.frames i u q st.numbers is has c

  -- a field of a cell with a label, which isn't in the region
  labelled-bridge : (q s k to : ℕ) (l : Label) → IsClosed w.heap.regions w.frames q → label_at heap s ≡ Some l → (LiesIn heap q s → ⊥)
      → field_at heap s k ≡ Some (word.Slot to) → LiesIn heap q to → IsBridge w.heap.regions q to
  labelled-bridge q s k to (Region n) c label away leads lies = elim (g.fields n s k to label leads) [
    | inl frozen ↦ absurd (frozen-region q (sym frozen ∙ lies))
    | inr more ↦ elim more [
      | inl own ↦ absurd (away (label ∙ sym own ∙ lies))
      | inr x ↦ subst (λ n. IsBridge w.heap.regions n to) (region-same x.0 q (sym x.2 ∙ lies)) x.3
    ]
  ]
  labelled-bridge q s k to (Temp n) c label away leads lies =
      let x = st.temps s n label in
      let t = st.opened.all_temps x.0 s x.1 x.2 (label ∙ ap (λ n. Some (Temp n)) (sym x.3)) in
      st.fields x.0 s k to q x.1 x.2 t leads lies (λ i u is has. absurd (no-window q c i u is has))
  labelled-bridge q s k to Frozen c label away leads lies =
      absurd (frozen-region q (sym (g.frozen s k to label leads) ∙ lies))

  leads-bridge : (q : ℕ) (x : Holder) (to : ℕ) → IsClosed w.heap.regions w.frames q → Owns w x q to → IsBridge w.heap.regions q to
  leads-bridge q (in_slot j) to c o = st.slots j to q o.0 o.1 (λ i u is has. absurd (no-window q c i u is has))
  leads-bridge q (in_field s k) to c o =
      let b = held-body heap s (field-held heap s k (word.Slot to) o.1) in
      labelled-bridge q s k to b.0.label c (ap (option_map (λ (b : Body). b.label)) b.1) o.0 o.1 o.2

  -- Only one

  module _ (once : owned_once (machine_in w) ≡ true) where
    one-slot : (q i j to end : ℕ) → IsClosed w.heap.regions w.frames q → Owns w (in_slot i) q to → Owns w (in_slot j) q end → i < j → ⊥
    one-slot q i j to end c x y lt =
        let most = most-one w.heap w.frames w.at ser g st q c once in
        let two : 2 ≤ slots_into (store_of heap) q (frames_of heap w.frames) =
        slots-two heap q i j (word.Slot to) (word.Slot end) w.frames.slots w.frames.first (reverse w.frames.frames) st.lain x.0 y.0 lt
        (into-there heap q to ser x.1) (into-there heap q end ser y.1) in
        omega (arith, most, two)

    slot-or-field : (q j s k to end : ℕ) → IsClosed w.heap.regions w.frames q → Owns w (in_slot j) q to → Owns w (in_field s k) q end → ⊥
    slot-or-field q j s k to end c x y =
        let most = most-one w.heap w.frames w.at ser g st q c once in
        let one = slot-counts-one w.heap w.frames w.at ser g st q j to x.0 x.1 in
        let more = outside-counts w.heap w.frames w.at ser g st.opened st.temps q s k end y.0 y.1 y.2 in
        omega (arith, most, one, more)

    same-holder : (q : ℕ) (x y : Holder) (to end : ℕ) → IsClosed w.heap.regions w.frames q → Owns w x q to → Owns w y q end → x ≡ y
    same-holder q (in_slot i) (in_slot j) to end c x y = elim (cases_eq i j) [
      | inl is ↦ ap in_slot is
      | inr d ↦ elim (order i j) [
        | inl lt ↦ absurd (one-slot q i j to end c x y lt)
        | inr le ↦ absurd (one-slot q j i end to c y x (omega (arith, le, d)))
      ]
    ]
    same-holder q (in_slot j) (in_field s k) to end c x y = absurd (slot-or-field q j s k to end c x y)
    same-holder q (in_field s k) (in_slot j) to end c x y = absurd (slot-or-field q j s k end to c y x)
    same-holder q (in_field s k) (in_field t i) to end c x y =
        let e = outside-once w.heap w.frames w.at ser g st.opened st.temps st.numbers once q s k to t i end c x.0 x.1 x.2 y.0 y.1 y.2 in
        ap (λ s. in_field s k) e.0 ∙ ap (in_field t) e.1

    -- and it leads to one cell
    same-end : (q : ℕ) (x : Holder) (to end : ℕ) → Owns w x q to → Owns w x q end → to ≡ end
    same-end q (in_slot j) to end x y = slot-same to end (sym x.0 ∙ y.0)
      where
        slot-same : (a b : ℕ) → Some (word.Slot a) ≡ Some (word.Slot b) → a ≡ b
        slot-same a b e = cc
    same-end q (in_field s k) to end x y = slot-same to end (sym x.1 ∙ y.1)
      where
        slot-same : (a b : ℕ) → Some (word.Slot a) ≡ Some (word.Slot b) → a ≡ b
        slot-same a b e = cc

    only-one : (q : ℕ) (x y : Holder) (to end : ℕ) → IsClosed w.heap.regions w.frames q → Owns w x q to → Owns w y q end
        → (x ≡ y) × (to ≡ end)
    only-one q x y to end c a b =
        let same = same-holder q x y to end c a b in
        (same, same-end q y to end (subst (λ z. Owns w z q to) same a) b)

  -- At least one

  module _ (m : Machine) (p : Part (holds w.heap.cells.heap) [] (machine_in w) m []) where
    -- what leads into a region there leads into it here, if it leads to what is held
    label-shown : (q : ℕ) (x : Val) → leads_to (holds heap) x ≡ true → is_into m.store q x ≡ true
        → label_of (store_of heap) x ≡ Some (Region q)
    label-shown q val.Nil here into = into-label m.store q val.Nil into
    label-shown q (val.Int z) here into = into-label m.store q (val.Int z) into
    label-shown q (val.Bool b) here into = into-label m.store q (val.Bool b) into
    label-shown q (val.Obj a) here into =
        ap (option_and_then (λ (o : Seen). Some o.label)) (p.same a here) ∙ into-label m.store q (val.Obj a) into

    by-slot : (q : ℕ) → SlotInto m q → Owner w q
    by-slot q x =
        let y = frame-slot heap w.frames.slots w.frames.first (reverse w.frames.frames) x.frame x.holder x.slot x.value
        (ap (λ fs. slice_get fs x.frame) p.frames ∙ x.holder_there) x.value_there in
        let here = p.slots x.frame x.holder x.slot x.value x.holder_there x.value_there in
        let z = label-back heap y.1 (Region q) ser (ap (label_of (store_of heap)) y.3 ∙ label-shown q x.value here x.into) in
        record { holder = in_slot y.0; to = z.0; owns = (y.2 ∙ ap Some z.1, z.2) }

    by-field : (q : ℕ) (x : FieldInto m q) → holds heap x.object ≡ true → Owner w q
    by-field q x kept =
        let y = field-there heap x.object x.field x.holder x.value (p.same x.object kept ∙ x.holder_there) x.value_there in
        let here = p.fields x.object x.holder x.field x.value kept x.holder_there x.value_there in
        let z = label-back heap y.word (Region q) ser (ap (label_of (store_of heap)) y.shown ∙ label-shown q x.value here x.into) in
        record {
          holder = in_field y.slot x.field;
          to = z.0;
          owns = (
            λ lies. not-outside w q x.holder.label (ap (λ ws. is_outside ws q x.holder.label) p.windows ∙ x.outside)
                (same_Some x.holder.label (Region q) (sym y.label ∙ lies)),
            y.leads ∙ ap Some z.1,
            z.2,
          );
        }

    has-owner : (q : ℕ) → IsClosed w.heap.regions w.frames q → Owner w q
    has-owner q c =
        let r = has-record w.heap c.0 q c.1 in
        let some = some-there r.0.bridge ((st.bridges c.0 r.0 r.1).0 (λ e.
        closed-not-first w.heap w.frames w.at ser g st.opened q c (sym r.2 ∙ e))) in
        let lies : LiesIn heap q some.0 = subst (λ n. LiesIn heap n some.0) r.2 (g.bridges c.0 some.0 r.0 r.1 some.1) in
        let b = held-body heap some.0 (labelled_held heap some.0 (Region q) lies) in
        let here = holds-there heap some.0 b.0 b.1 in
        let shut : is_open m.windows q ≡ false =
        ap (λ ws. is_open ws q) (sym p.windows)
        ∙ closed-not-open w.heap.regions w.frames (keyed w.heap w.frames w.at ser g st.opened) q c in
        elim (p.owned b.0.serial (object_of heap (Some b.0)) q here (sym (p.same b.0.serial here) ∙ store-held heap some.0 b.0 ser b.1)
        (same_Some b.0.label (Region q) (sym (ap (option_map (λ (b : Body). b.label)) b.1) ∙ lies)) shut) [
          | inl x ↦ elim x [
            | inl y ↦ by-slot q y
            | inr y ↦ by-field q y.0 y.1
          ]
          | inr e ↦ absurd (false≢true e)
        ]

    owned-by : owned_once (machine_in w) ≡ true → IsOwned w
    owned-by once = record {
      grove = g;
      first = let u = there w.frames.windows 0 st.opened.some in (u.0.region, st.opened.first u.0 u.1);
      opened = st.opened.known;
      bridges = st.bridges;
      serials = ser;
      temps = st.opened.temps;
      all_temps = st.opened.all_temps;
      once = st.opened.once;
      windowed = st.temps;
      owner = has-owner;
      one_owner = only-one once;
      bridge = leads-bridge;
      slots = st.opened.slots;
      fields = λ s k to e. all-lead w.heap w.frames g st.opened st.temps s k to e;
    }

-- Beside a machine over the growing store that shows a state, where nothing stands on the stack

pub owned-parts : (t : Tree) (code : Code) (s : State) (w : Whole) (m : Machine) (held : ℕ → Truth) → Fit t s → Shows t.classes code m s
    → Serials w.heap.cells.heap → Grove w.heap.cells w.heap.regions → Stands w.heap w.frames → w.frames.next ≤ 2 ^ 64 - 1
    → Part held [] (machine_in w) m [] → IsOwned w
owned-parts t code s w m held fit shows ser g st few p =
    let q = shown-part w m held ser st few p in
    owned-by w ser g st m q (once-held t code s (holds w.heap.cells.heap) (machine_in w) m fit shows q)

pub owned-shown : (t : Tree) (code : Code) (s : State) (w : Whole) → Fit t s → ShowsHeld t.classes code (machine_in w) s
    → Serials w.heap.cells.heap → Grove w.heap.cells w.heap.regions → Stands w.heap w.frames → w.frames.next ≤ 2 ^ 64 - 1 → IsOwned w
owned-shown t code s w fit shown ser g st few =
    owned-parts t code s w shown.grown shown.held fit shown.shows ser g st few shown.beside
