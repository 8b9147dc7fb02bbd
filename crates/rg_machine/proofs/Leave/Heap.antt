-- A window's end over a heap: from the machine in front of it to the heap, and back to the machine behind it.
use Rattle.std.proofs.Common.{◌≡◌, ◌≤◌, ◌<◌, inl, inr, ℕ, zero, suc, ◌+◌, ◌-◌, true, List, [], ◌∷◌, ◌++◌, length, take, drop}
use Rattle.std.proofs.Common.{replicate, reverse, Some, option_map, slice_get, sym, ap, ◌∙◌, arith}
use Rattle.std.proofs.lemmas.List.{length-reverse}
use Rattle.std.proofs.lemmas.Option.{slice_get-map}
use Rattle.std.proofs.lemmas.Bool.{cases_lt as order}
use Rattle.rg_base.specs.declared.value.Val.{Val}
use Rattle.rg_base.specs.declared.value.Val.TheVariants as val
use Rattle.rg_base.specs.declared.value.Word.{Word}
use Rattle.rg_base.specs.declared.value.Word.TheVariants.{Slot}
use Rattle.rg_cells.specs.Table.{Heap, Serials, field_at}
use Rattle.rg_regions.specs.Grove.{Grove}
use Rattle.rg_frames.specs.declared.rows.Frame.{Frame as FrameRow}
use Rattle.rg_frames.specs.declared.rows.Window.{Window as WindowRow}
use Rattle.rg_frames.specs.Stack.{Stack, IsTop}
use Rattle.rg_frames.specs.Changes.{MarksLie}
use Rattle.rg_heap.specs.Parts.{Parts}
use Rattle.rg_heap.specs.Answers.{val_of}
use Rattle.rg_heap.specs.Ends.{CanLeave, GoesAlong, IsTopTemp, Released}
use Rattle.rg_stack.specs.Machine.{ended_slots, place_of, top_slots}
use Rattle.rg_stack.specs.Effects.{beneath_by_labels}
use Rattle.rg_stack.specs.Needs.{owned_once}
use Rattle.rg_stack.specs.Places.{top_base}
use Rattle.rg_stack.proofs.Callers.List.{get-nils as nil-there}
use Rattle.rg_held.specs.Frees.{bury, closed_by_temps}
use Rattle.rg_view.specs.Lain.{Nested}
use Rattle.rg_view.specs.Links.{ByTemp}
use Rattle.rg_view.specs.Names.{Names}
use Rattle.rg_view.specs.View.{frames_of, machine_of, managers_of, store_of, windows_of}
use Rattle.rg_view.proofs.Callers.Gone.Managers.{released-remembered, released-windows, remembered, windows-were}
use Rattle.rg_view.proofs.Callers.Frame.{all-slots, frames_from, top-size, top-slots}
use Rattle.rg_view.proofs.Callers.Gone.Records.{released-numbers}
use Rattle.rg_view.proofs.Callers.Held.{all-lead}
use Rattle.rg_view.proofs.Callers.Leave.{can-leave}
use Rattle.rg_view.proofs.Callers.Look.{val-held}
use Rattle.rg_view.proofs.Callers.Once.{outside-once}
use Rattle.rg_view.proofs.Callers.Gone.Released.{released-serials}
use Rattle.rg_view.proofs.Callers.Shown.{get-drop, held-body}
use Rattle.rg_view.proofs.Callers.Gone.Temporaries.{top-row}
use Rattle.rg_view.proofs.Callers.Window.{closed-windows, top-window}
use Rattle.rg_machine.specs.Stands.{Stands}
use Rattle.rg_machine.proofs.Leave.Effect.{left_by}
use Rattle.rg_machine.proofs.Leave.Behind.{cells, goes-closed, left, names, released, stands-left}
use Rattle.rg_machine.proofs.Leave.Lists.{by-temps}

-- Slots that have ended

ended-nil : (vs : List Val) (n k : ℕ) (u : Val) → n ≤ k → slice_get (ended_slots n vs) k ≡ Some u → u ≡ val.Nil
ended-nil vs zero k u le e = nil-there (length vs - 0) k u e
ended-nil [] (suc n) k u le e = nil-there (0 - suc n) k u e
ended-nil (v ∷ vs) (suc n) zero u le e = absurd (omega (arith, le))
ended-nil (v ∷ vs) (suc n) (suc k) u le e =
    let same : suc (length vs) - suc n ≡ length vs - n = omega arith in
    ended-nil vs n k u (omega (arith, le)) (sym (ap (λ m. slice_get (take n vs ++ replicate m val.Nil) k) same) ∙ e)

-- the place of a slot of the topmost frame, whatever its number
place-any : (heap : Heap) (slots : List Word) (first s : ℕ) (fs : List FrameRow) → Nested first (length slots) fs → 0 < length fs
    → place_of (frames_from heap slots first fs) s ≡ first + s
place-any heap slots first s [] n some = absurd (omega (arith, some))
place-any heap slots first s (f ∷ fs) n some =
    let all = all-slots heap slots first (f ∷ fs) n in
    let size = top-size heap slots first (f ∷ fs) n in
    let le = n.0 in
    omega (arith, all, size, le)

module _ (p : Parts) (v : Stack) (at : ℕ) (s : Stands p v) where
  frames-some : 0 < length (reverse v.frames)
  frames-some = let some = s.some in omega (arith, some, length-reverse v.frames)

  pub ends-behind : (sl : ℕ) (was : List Val) → top_slots (frames_of p.cells.heap v) ≡ ended_slots sl was
      → place_of (frames_of p.cells.heap v) sl ≤ top_base (windows_of p.regions v)
      → (j x : ℕ) (w : WindowRow) → slice_get v.slots j ≡ Some (Slot x) → IsTop v w → j < w.base
  ends-behind sl was ends le j x w e top = elim (order j w.base) [
    | inl lt ↦ lt
    | inr behind ↦
        (let base : top_base (windows_of p.regions v) ≡ w.base = ap top_base (top-window p.regions v w top) in
        let place = place-any p.cells.heap v.slots v.first sl (reverse v.frames) s.lain frames-some in
        let b = held-body p.cells.heap x (s.opened.slots j x e) in
        let there : v.first + (j - v.first) ≡ j = omega (arith, behind, base, le, place) in
        let shown : slice_get (top_slots (frames_of p.cells.heap v)) (j - v.first) ≡ Some (val.Obj b.0.serial) =
        ap (λ vs. slice_get vs (j - v.first)) (top-slots p.cells.heap v.slots v.first (reverse v.frames) s.lain)
        ∙ slice_get-map (val_of p.cells.heap) (drop v.first v.slots) (j - v.first)
        ∙ ap (option_map (val_of p.cells.heap)) (get-drop v.first (j - v.first) v.slots ∙ ap (slice_get v.slots) there ∙ e)
        ∙ ap Some (val-held p.cells.heap x b.0 b.1) in
        let nil = ended-nil was sl (j - v.first) (val.Obj b.0.serial) (omega (arith, behind, base, le, place))
        (ap (λ vs. slice_get vs (j - v.first)) (sym ends) ∙ shown) in
        absurd (not-nil b.0.serial nil))
  ]
    where
      not-nil : (n : ℕ) → val.Obj n ≡ val.Nil → ⊥
      not-nil n e = cc

module _ (old : Parts) (v : Stack) (at : ℕ) (q : Serials old.cells.heap) (g : Grove old.cells old.regions) (s : Stands old v)
    (two : 2 ≤ length v.windows) (once : owned_once (machine_of old v at) ≡ true) (lie : MarksLie v) where
  pub may-leave : CanLeave old v
  may-leave = can-leave old v g s.opened (outside-once old v at q g s.opened s.temps s.numbers once)

  abbrev tops : List ℕ
  tops = closed_by_temps (machine_of old v at)

  abbrev pub late : List ℕ
  late = beneath_by_labels (store_of old.cells.heap) (length (managers_of old.regions)) tops

  abbrev pub number : ℕ
  number = (top-row old v at q g s.opened).0.number

  module _ (new : Parts) (gn : Grove new.cells new.regions) (rel : Released old new (GoesAlong old v) (IsTopTemp v))
      (slots_free : (j x : ℕ) → slice_get v.slots j ≡ Some (Slot x) → IsTopTemp v x → ⊥)
      (fields_free : (x k to : ℕ) → field_at old.cells.heap x k ≡ Some (Slot to) → IsTopTemp v to → IsTopTemp v x)
      (front : (j x : ℕ) (w : WindowRow) → slice_get v.slots j ≡ Some (Slot x) → IsTop v w → j < w.base) where
    tops-are : Names tops (ByTemp (machine_of old v at))
    tops-are = by-temps (machine_of old v at)

    pub behind-left : Stands new (left v)
    behind-left = stands-left old v at q g s new two once lie tops tops-are rel slots_free fields_free front

    -- the machine behind it
    pub machine-left : machine_of new (left v) at ≡ left_by (machine_of old v at) late (Some number)
    machine-left =
        let r = released old v at q g s new two once lie tops tops-are rel slots_free fields_free front in
        let called = names old v at q g s new two once lie tops tops-are rel slots_free fields_free front in
        let temps = cells old v at q g s new two once lie tops tops-are rel slots_free fields_free front in
        let lead = all-lead new (left v) gn behind-left.opened behind-left.temps in
        let f = released-numbers old new _ _ late r called in
        let serials = released-serials old new _ _ late (Some number) r called temps q lead in
        let away = goes-closed old v at q g s new two once lie tops tops-are rel slots_free fields_free front in
        let still = windows-were old new f s.numbers serials gn behind-left.bridges v (released-windows old new _ _ v r g s.opened away) in
        let row = top-row old v at q g s.opened in
        released-remembered (left v) at old new _ _ late (Some number) (windows_of old.regions v) r called temps q s.numbers lead gn
        behind-left.bridges behind-left.opened still
        ∙ ap (λ ws. record (machine_of old v at) {
          store = bury late (Some number) (store_of old.cells.heap);
          windows = ws;
          managers = remembered (windows_of old.regions v) (bury late (Some number) (store_of old.cells.heap)) (managers_of old.regions);
        }) (closed-windows old.regions v row.0 two row.1)
