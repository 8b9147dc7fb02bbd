-- The effect of a window's end, where what its slots own has gone in front of it.
use Rattle.std.proofs.Common.{◌≡◌, ◌≢◌, ◌≤◌, ◌<◌, zero, suc, drop, replicate, slice_get, ◌-◌, ◌^◌, ◌&&◌, ℕ, true, List, [], ◌∷◌, length}
use Rattle.std.proofs.Common.{nat_le, Some, refl, sym, ap}
use Rattle.std.proofs.Common.{◌∙◌, subst, arith}
use Rattle.std.proofs.lemmas.Bool.{and_parts, leb-true as le-back}
use Rattle.rg_base.specs.declared.value.Word.{Word}
use Rattle.rg_base.specs.declared.value.Word.TheVariants.{Slot}
use Rattle.rg_base.specs.declared.value.Val.TheVariants.{Nil}
use Rattle.rg_rules.specs.Regions.{region_at}
use Rattle.rg_code.specs.Code.{empty}
use Rattle.rg_code.specs.declared.op.Op.TheVariants as i
use Rattle.rg_cells.specs.Table.{Heap, Serials, field_at}
use Rattle.rg_regions.specs.Grove.{Grove}
use Rattle.rg_frames.specs.declared.rows.Window.{Window as WindowRow}
use Rattle.rg_frames.specs.Stack.{IsTop}
use Rattle.rg_frames.specs.Changes.{MarksLie}
use Rattle.rg_heap.specs.Ends.{GoesAlong, IsTopTemp, Released}
use Rattle.rg_stack.specs.Machine.{Frame, Machine, end_slots, ended_slots, place_of, top_slots, with_slots}
use Rattle.rg_stack.specs.Effects.{Go, beneath_by_labels, left as left_in}
use Rattle.rg_stack.specs.Needs.{is_empty, owned_once, owner_leads, temps_may_go}
use Rattle.rg_stack.specs.Places.{top_base}
use Rattle.rg_stack.proofs.Callers.List.{empty-is}
use Rattle.rg_held.specs.Frees.{closed_among, closed_by_temps, free_act, freed, left_with, window_that_ends}
use Rattle.rg_view.specs.Links.{Spans}
use Rattle.rg_view.specs.View.{machine_of, values_of}
use Rattle.rg_view.proofs.Callers.Gone.Beneath.{beneath-spans}
use Rattle.rg_view.proofs.Callers.Held.{region-below}
use Rattle.rg_view.proofs.Callers.Gone.Temporaries.{top-row}
use Rattle.rg_machine.specs.Core.{Core, Has, work_of}
use Rattle.rg_machine.specs.Effects.{ending}
use Rattle.rg_machine.specs.Parts.{Parts, machine_in}
use Rattle.rg_machine.specs.Cores.{core_of}
use Rattle.rg_machine.specs.Stands.{Stands}
use Rattle.rg_machine.proofs.Callers.Word.{empty-words}
use Rattle.rg_machine.proofs.Leave.Behind.{left}
use Rattle.rg_machine.proofs.Leave.Heap.{behind-left, ends-behind, late, machine-left, number}
use Rattle.rg_machine.proofs.Leave.Effect.{ends-window, left_by, left-machine}
use Rattle.rg_machine.proofs.Leave.Free.{slots-free, fields-free}

-- where slots of the topmost frame have ended
top-ended : (fs : List Frame) (s : ℕ) → top_slots (with_slots (ended_slots s (top_slots fs)) fs) ≡ ended_slots s (top_slots fs)
top-ended [] zero = refl
top-ended [] (suc s) = let e : 0 ≡ 0 - suc s = omega arith in ap (λ n. replicate n Nil) e
top-ended (f ∷ fs) s = refl

place-ended : (fs : List Frame) (s : ℕ) → place_of (with_slots (ended_slots s (top_slots fs)) fs) s ≡ place_of fs s
place-ended [] s = refl
place-ended (f ∷ fs) s = refl

module _ (p mid : Parts) (s : ℕ) (q : Serials p.heap.cells.heap) (g : Grove p.heap.cells p.heap.regions) (h : Stands p.heap p.frames)
    (q1 : Serials mid.heap.cells.heap) (g1 : Grove mid.heap.cells mid.heap.regions) (h1 : Stands mid.heap mid.frames)
    (e : core_of mid ≡ ending (core_of p) s) (given : Has (i.Leave s) (core_of p)) (once : owned_once (machine_in mid) ≡ true)
    (two : 2 ≤ length mid.frames.windows) (lie : MarksLie mid.frames)
    (bound : number mid.heap mid.frames mid.at q1 g1 h1 two once lie ≢ 2 ^ 64 - 1) where
  abbrev m : Machine
  m = machine_in p

  needs-parts : (is_empty (core_of p).stack ≡ true) × (temps_may_go (end_slots m s) ≡ true)
      × (nat_le (place_of m.frames s) (top_base m.windows) ≡ true)
  needs-parts =
      let a = and_parts (is_empty (core_of p).stack && owned_once m && temps_may_go (end_slots m s) && owner_leads (end_slots m s))
      (nat_le (place_of m.frames s) (top_base m.windows)) given in
      let b = and_parts (is_empty (core_of p).stack && owned_once m && temps_may_go (end_slots m s)) (owner_leads (end_slots m s)) a.0 in
      let c = and_parts (is_empty (core_of p).stack && owned_once m) (temps_may_go (end_slots m s)) b.0 in
      let d = and_parts (is_empty (core_of p).stack) (owned_once m) c.0 in
      (d.0, c.1, a.1)

  same : machine_in mid ≡ (ending (core_of p) s).machine
  same = ap (λ (c : Core). c.machine) e

  within : (a r : ℕ) → region_at m.store a ≡ Some r → r < length m.managers
  within a r f = region-below p.heap.cells.heap p.heap.regions a r q h.numbers g.labels f

  abbrev went : List ℕ
  went = beneath_by_labels m.store (length m.managers) (closed_among m (drop s (top_slots m.frames)))

  no-slot-leads : (j x : ℕ) → slice_get mid.frames.slots j ≡ Some (Slot x) → IsTopTemp mid.frames x → ⊥
  no-slot-leads = slots-free mid.heap mid.frames mid.at q1 g1 h1 (end_slots m s) went
      (sym (ap (λ (m : Machine). m.frames) same)) (sym (ap (λ (m : Machine). m.windows) same)) (ap (λ (m : Machine). m.store) same)
      needs-parts.1 bound

  no-field-leads : (x k to : ℕ) → field_at mid.heap.cells.heap x k ≡ Some (Slot to) → IsTopTemp mid.frames to → IsTopTemp mid.frames x
  no-field-leads = fields-free mid.heap mid.frames mid.at q1 g1 h1 (end_slots m s) went
      (sym (ap (λ (m : Machine). m.frames) same)) (sym (ap (λ (m : Machine). m.windows) same)) (ap (λ (m : Machine). m.store) same)
      needs-parts.1 bound

  in-front : (j x : ℕ) (w : WindowRow) → slice_get mid.frames.slots j ≡ Some (Slot x) → IsTop mid.frames w → j < w.base
  in-front =
      let frames : (machine_in mid).frames ≡ with_slots (ended_slots s (top_slots m.frames)) m.frames = ap (λ (m : Machine). m.frames) same in
      let windows : (machine_in mid).windows ≡ m.windows = ap (λ (m : Machine). m.windows) same in
      let base : top_base (machine_in mid).windows ≡ top_base m.windows = ap top_base windows in
      let place : place_of (machine_in mid).frames s ≡ place_of m.frames s = ap (λ fs. place_of fs s) frames ∙ place-ended m.frames s in
      let le = le-back (place_of m.frames s) (top_base m.windows) needs-parts.2 in
      ends-behind mid.heap mid.frames mid.at h1 s (top_slots m.frames) (ap top_slots frames ∙ top-ended m.frames s) (omega (arith, base, place, le))

  -- nothing is on the stack
  pub whole-stack : (new : Parts) → new.words ≡ mid.words → (core_of p).stack ≡ (core_of new).stack
  whole-stack new words =
      let c = core_of p in
      let empty_mid : (core_of mid).stack ≡ [] = ap (λ (c : Core). c.stack) e ∙ empty-is c.stack needs-parts.0 in
      let no_words : new.words ≡ [] = words ∙ empty-words mid.heap.cells.heap mid.words (ap length empty_mid) in
      empty-is c.stack needs-parts.0 ∙ sym (ap (values_of new.heap.cells.heap) no_words)

  module _ (new : Parts) (gn : Grove new.heap.cells new.heap.regions)
      (rel : Released mid.heap new.heap (GoesAlong mid.heap mid.frames) (IsTopTemp mid.frames)) where
    pub whole-stands : Stands new.heap (left mid.frames)
    whole-stands = behind-left mid.heap mid.frames mid.at q1 g1 h1 two once lie new.heap gn rel no-slot-leads no-field-leads in-front

    -- the machine behind it
    pub whole-machine : new.frames ≡ left mid.frames → new.at ≡ mid.at → (input : List ℕ)
        → machine_in new ≡ left_in (freed (Some (left_with m s (window_that_ends m.windows))) (work_of (core_of p) input)).machine s
    whole-machine frames at input =
        let c = core_of p in
        let n = number mid.heap mid.frames mid.at q1 g1 h1 two once lie in
        let gone = late mid.heap mid.frames mid.at q1 g1 h1 two once lie in
        let row = top-row mid.heap mid.frames mid.at q1 g1 h1.opened in
        let ends : window_that_ends m.windows ≡ Some n =
        sym (ap (λ (m : Machine). window_that_ends m.windows) same) ∙ ends-window mid.heap.regions mid.frames row.0 two row.1 in
        let spans : Spans (machine_in mid).store (closed_by_temps (machine_in mid)) gone =
        beneath-spans (machine_in mid).store (length (machine_in mid).managers)
        (λ a r f. region-below mid.heap.cells.heap mid.heap.regions a r q1 h1.numbers g1.labels f) (closed_by_temps (machine_in mid)) in
        let P : Machine → Type 0 = λ m. Spans m.store (closed_by_temps m) gone in
        ap (λ v. machine_of new.heap v new.at) frames ∙ ap (machine_of new.heap (left mid.frames)) at
        ∙ machine-left mid.heap mid.frames mid.at q1 g1 h1 two once lie new.heap gn rel no-slot-leads no-field-leads in-front
        ∙ ap (λ m. left_by m gone (Some n)) same ∙ left-machine c s n within input gone (subst P same spans) ends

    pub whole-effect : new.frames ≡ left mid.frames → new.words ≡ mid.words → new.at ≡ mid.at → new.printed ≡ mid.printed
        → (code_at : ℕ) (go : Go) (input : List ℕ)
        → free_act empty code_at (i.Leave s) go (core_of p).stack (work_of (core_of p) input)
        ≡ go 0 (core_of new).stack (work_of (core_of new) input)
    whole-effect frames words at printed code_at go input =
        let c = core_of p in
        let shown : c.printed ≡ new.printed = sym (ap (λ (c : Core). c.printed) e) ∙ sym printed in
        ap (λ m. go 0 c.stack (record { machine = m; input = input; printed = c.printed })) (sym (whole-machine frames at input))
        ∙ ap (λ vs. go 0 vs (record { machine = machine_in new; input = input; printed = c.printed })) (whole-stack new words)
        ∙ ap (λ o. go 0 (core_of new).stack (record { machine = machine_in new; input = input; printed = o })) shown
