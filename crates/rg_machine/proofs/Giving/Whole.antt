-- A window that is left with another bridge: what it asks for, what stands behind it, and its effect.
use Rattle.std.proofs.Common.{◌≡◌, ◌≤◌, ◌<◌, ◌^◌, ◌+◌, ℕ, true, false, List, [], ◌∷◌, drop, length, None, Some, Result, Ok, Err}
use Rattle.std.proofs.Common.{reverse, slice_get, refl, sym, ap, subst, ◌∙◌, arith}
use Rattle.std.proofs.lemmas.List.{length-map, length-reverse}
use Rattle.rg_base.specs.declared.object.Seen.{Seen}
use Rattle.rg_base.specs.declared.outcome.Trap.{Trap}
use Rattle.rg_base.specs.declared.outcome.Trap.TheVariants as trap
use Rattle.rg_base.specs.declared.value.Word.{Word}
use Rattle.rg_base.specs.declared.value.Word.TheVariants as word
use Rattle.rg_rules.specs.Evaluation.{object_at}
use Rattle.rg_rules.specs.Regions.{among}
use Rattle.rg_rules.specs.Values.{is_nil_value}
use Rattle.rg_code.specs.Code.{empty}
use Rattle.rg_code.specs.declared.op.Op.TheVariants as i
use Rattle.rg_cells.specs.Table.{Heap, Serials}
use Rattle.rg_regions.specs.Grove.{Grove}
use Rattle.rg_frames.specs.Stack.{Stack}
use Rattle.rg_frames.specs.Changes.{MarksLie}
use Rattle.rg_stack.specs.Machine.{Machine, Window, slot_at, top_slots}
use Rattle.rg_stack.specs.Effects.{Go, Traps, beneath_by_labels, left as left_in, on_object, put_at}
use Rattle.rg_stack.specs.Tops.{top_owner}
use Rattle.rg_stack.specs.Labels.{is_open}
use Rattle.rg_stack.specs.Needs.{closed_into, owned_once}
use Rattle.rg_heap.specs.Parts.{Parts as HeapParts}
use Rattle.rg_heap.specs.Answers.{IsClosed, val_of}
use Rattle.rg_heap.specs.Ends.{CanLeave}
use Rattle.rg_heap.specs.Gives.{CanGive, Gives}
use Rattle.rg_held.specs.Frees.{closed_among, free_act, freed, left_with, window_that_ends}
use Rattle.rg_view.specs.View.{frames_of, machine_of, managers_of, object_of, store_of, window_of, windows_of}
use Rattle.rg_view.proofs.Callers.Frame.{top-slots}
use Rattle.rg_view.proofs.Callers.Gone.Beneath.{beneath-names}
use Rattle.rg_view.proofs.Callers.Gone.Managers.{below-closed}
use Rattle.rg_view.proofs.Callers.Link.{word-back}
use Rattle.rg_view.proofs.Callers.Look.{val-held}
use Rattle.rg_view.proofs.Callers.Need.{keyed}
use Rattle.rg_view.proofs.Callers.Open.{into-closed}
use Rattle.rg_view.proofs.Callers.Read.{object-there}
use Rattle.rg_view.proofs.Callers.Shown.{get-drop, held-body}
use Rattle.rg_machine.specs.Core.{Core, Has, work_of}
use Rattle.rg_machine.specs.Cores.{core_of}
use Rattle.rg_machine.specs.Effects.{ending}
use Rattle.rg_machine.specs.High.{NoneMade}
use Rattle.rg_machine.specs.Keeps.{backs}
use Rattle.rg_machine.specs.Parts.{Parts, machine_in, val_in}
use Rattle.rg_machine.specs.Stands.{Leads, Stands}
use Rattle.rg_machine.proofs.Callers.High.{none-released, none-then}
use Rattle.rg_machine.proofs.Giving.Behind.{Behind, behind-given, object-kept, put-at-backs, serials, value-same}
use Rattle.rg_machine.proofs.Giving.Needs.{GivenSeen, given-seen, giving-leave, giving-open}
use Rattle.rg_machine.proofs.Giving.Place.{can-give, cell, row, row-top}
use Rattle.rg_machine.proofs.Leave.Behind.{left}
use Rattle.rg_machine.proofs.Leave.Given.{backs-same, leave-alone, number-fits, once-behind}
use Rattle.rg_machine.proofs.Leave.Heap.{may-leave}
use Rattle.rg_machine.proofs.Leave.Lists.{chosen-back}
use Rattle.rg_machine.proofs.Leave.Whole.{whole-machine, whole-stack, whole-stands}

-- What goes with slots of the topmost frame is closed

module _ (p : HeapParts) (v : Stack) (at : ℕ) (q : Serials p.cells.heap) (g : Grove p.cells p.regions) (h : Stands p v) (s : ℕ) where
  abbrev owned : List ℕ
  owned = closed_among (machine_of p v at) (drop s (top_slots (frames_of p.cells.heap v)))

  owned-closed : (t : ℕ) → among owned t ≡ true → IsClosed p.regions v t
  owned-closed t e =
      let b = chosen-back (closed_into (machine_of p v at)) (drop s (top_slots (frames_of p.cells.heap v))) t e in
      let slot = sym (get-drop s b.0 (top_slots (frames_of p.cells.heap v))) ∙ b.2 in
      let u = word-back p.cells.heap (drop v.first v.slots) (s + b.0) b.1
      (ap (λ vs. slice_get vs (s + b.0)) (sym (top-slots p.cells.heap v.slots v.first (reverse v.frames) h.lain)) ∙ slot) in
      (into-closed p v at q (keyed p v at q g h.opened) g.labels u.0 t (ap (closed_into (machine_of p v at)) u.2 ∙ b.3)).3

  pub slots-shut : (r : ℕ) → among (beneath_by_labels (store_of p.cells.heap) (length (managers_of p.regions)) owned) r ≡ true
      → is_open (windows_of p.regions v) r ≡ false
  slots-shut r e = below-closed p v at q g h.opened owned owned-closed r ((beneath-names p q g h.numbers owned).only r e)

-- Windows

two-of : (ws : List Window) → 2 ≤ length ws → (w : Window) × (u : Window) × (us : List Window) × (ws ≡ w ∷ u ∷ us)
two-of [] e = absurd (omega (arith, e))
two-of (w ∷ []) e = absurd (omega (arith, e))
two-of (w ∷ u ∷ us) e = (w, u, us, refl)

one-of : (ws : List Window) → 0 < length ws → (w : Window) × (us : List Window) × (ws ≡ w ∷ us)
one-of [] e = absurd (omega (arith, e))
one-of (w ∷ us) e = (w, us, refl)

many-shown : (p : Parts) → length (machine_in p).windows ≡ length p.frames.windows
many-shown p = length-map (reverse p.frames.windows) (window_of p.heap.regions) ∙ length-reverse p.frames.windows

-- A reference

not-nil : (p : Parts) (w : Word) (a : ℕ) → w ≡ word.Slot a → Leads p.heap p.frames w → is_nil_value (val_in p w) ≡ false
not-nil p w a is l =
    let b = held-body p.heap.cells.heap a (l.held a is) in
    ap is_nil_value (ap (val_in p) is ∙ val-held p.heap.cells.heap a b.0 b.1)

-- what is given leads into no closed region
pub given-open : (p : Parts) (x s : ℕ) (w : Word) (a : ℕ) → Has (i.LeaveGiving x s) (core_of p) → Stands p.heap p.frames → w ≡ word.Slot a
    → Leads p.heap p.frames w → val_in p w ≡ slot_at (machine_in p) x → closed_into (machine_in p) (val_in p w) ≡ None
given-open p x s w a given h is l value =
    let some = h.opened.some in
    let o = one-of (machine_in p).windows (let many = many-shown p in omega (arith, some, many)) in
    giving-open (core_of p) x s given o.0 o.1 o.2 (val_in p w) (sym value) (not-nil p w a is l)

-- what isn't a reference leads to no object
leads-none : (h : Heap) (w : Word) → ((a : ℕ) → w ≡ word.Slot a → ⊥) → (store : List Seen) → object_at store (val_of h w) ≡ Err trap.Nil
leads-none h word.Nil n store = refl
leads-none h (word.Int z) n store = refl
leads-none h (word.Bool b) n store = refl
leads-none h (word.Slot a) n store = absurd (n a refl)

-- so it traps
pub given-nil : (p : Parts) (x s : ℕ) (w : Word) → ((a : ℕ) → w ≡ word.Slot a → ⊥) → val_in p w ≡ slot_at (machine_in p) x
    → (at : ℕ) (go : Go) (input : List ℕ)
    → free_act empty at (i.LeaveGiving x s) go (core_of p).stack (work_of (core_of p) input) ≡ Traps trap.Nil
given-nil p x s w none value at go input =
    let c = core_of p in
    let f = freed (Some (left_with c.machine s (window_that_ends c.machine.windows))) (work_of c input) in
    ap (λ (r : Result Seen Trap). elim r [
      | Ok o ↦ go 0 c.stack (record f { machine = put_at (top_owner c.machine.windows) (slot_at c.machine x) (left_in f.machine s) })
      | Err t ↦ Traps t
    ])
    (ap (object_at f.machine.store) (sym value) ∙ leads-none p.heap.cells.heap w none f.machine.store)

alone-owner : (ws : List Window) → length ws < 2 → top_owner ws ≡ None
alone-owner [] few = refl
alone-owner (w ∷ []) few = refl
alone-owner (w ∷ u ∷ us) few = absurd (omega (arith, few))

-- What is known of the machine in front of the instruction, and once slots have ended, of which it gave what a word leads to.
pub record Leaving (p mid : Parts) (x s : ℕ) (w : Word) : Type 0 where
  pub serials_before : Serials p.heap.cells.heap
  pub forest_before : Grove p.heap.cells p.heap.regions
  pub stands_before : Stands p.heap p.frames
  pub given : Has (i.LeaveGiving x s) (core_of p)
  pub ends : core_of mid ≡ ending (core_of p) s
  pub to : ℕ
  pub is : w ≡ word.Slot to
  pub leads : Leads mid.heap mid.frames w
  pub value : val_in mid w ≡ slot_at (machine_in p) x
  pub serials : Serials mid.heap.cells.heap
  pub forest : Grove mid.heap.cells mid.heap.regions
  pub stands : Stands mid.heap mid.frames

module _ (p mid : Parts) (x s : ℕ) (w : Word) (l : Leaving p mid x s w) where
  abbrev a : ℕ
  a = l.to

  q0 : Serials p.heap.cells.heap
  q0 = l.serials_before

  g0 : Grove p.heap.cells p.heap.regions
  g0 = l.forest_before

  h0 : Stands p.heap p.frames
  h0 = l.stands_before

  given : Has (i.LeaveGiving x s) (core_of p)
  given = l.given

  ends : core_of mid ≡ ending (core_of p) s
  ends = l.ends

  is : w ≡ word.Slot a
  is = l.is

  leads : Leads mid.heap mid.frames w
  leads = l.leads

  value : val_in mid w ≡ slot_at (machine_in p) x
  value = l.value

  abbrev q : Serials mid.heap.cells.heap
  q = l.serials

  abbrev g : Grove mid.heap.cells mid.heap.regions
  g = l.forest

  abbrev h : Stands mid.heap mid.frames
  h = l.stands

  abbrev m : Machine
  m = machine_in p

  windows-same : m.windows ≡ (machine_in mid).windows
  windows-same = sym (ap (λ (c : Core). c.machine.windows) ends)

  module _ (lie : MarksLie mid.frames) (two : 2 ≤ length mid.frames.windows) where
    pub seen : GivenSeen (machine_in mid) (val_in mid w)
    seen =
        let many : length m.windows ≡ length mid.frames.windows = ap length windows-same ∙ many-shown mid in
        let ws = two-of m.windows (omega (arith, many, two)) in
        subst (λ (c : Core). GivenSeen c.machine (val_in mid w)) (sym ends)
        (given-seen (core_of p) x s given ws.0 ws.1 ws.2 ws.3 (slots-shut p.heap p.frames p.at q0 g0 h0 s) (val_in mid w) (sym value)
        (not-nil mid w a is leads))

    pub given-can : CanGive mid.heap mid.frames w
    given-can = can-give mid.heap mid.frames mid.at q g h two lie w seen

    once : owned_once (machine_in mid) ≡ true
    once = once-behind (core_of p) (core_of mid) s ends (giving-leave (core_of p) x s given)

    pub given-leave : CanLeave mid.heap mid.frames
    given-leave = may-leave mid.heap mid.frames mid.at q g h two once lie

    -- the cell that is given
    abbrev slot : ℕ
    slot = (cell mid.heap mid.frames mid.at q g h two lie w seen).0

    pub given-slot : w ≡ word.Slot slot
    given-slot = (cell mid.heap mid.frames mid.at q g h two lie w seen).1

    module _ (fits : mid.frames.next < 2 ^ 64) (new : Parts) (gives : Gives mid.heap new.heap mid.frames new.frames slot) where
      abbrev part : Parts
      part = record mid { heap = gives.mid; frames = left mid.frames }

      part-stands : Stands gives.mid (left mid.frames)
      part-stands =
          whole-stands p mid s q0 g0 h0 q g h ends (giving-leave (core_of p) x s given) once two lie
          (number-fits mid.heap mid.frames mid.at q g h two once lie fits) part gives.forest gives.released

      behind : Behind mid.heap mid.frames mid.at q g h two lie w seen gives.mid gives.released part-stands new.heap
          (gives.bridged (row mid.heap mid.frames mid.at q g h two lie w seen) (row-top mid.heap mid.frames mid.at q g h two lie w seen))
          new.frames (Some seen.place) (val_in mid w)
      behind =
          behind-given mid.heap mid.frames mid.at q g h two lie w seen gives.mid gives.released part-stands new.heap
          (gives.bridged (row mid.heap mid.frames mid.at q g h two lie w seen) (row-top mid.heap mid.frames mid.at q g h two lie w seen))
          new.frames (gives.written (row mid.heap mid.frames mid.at q g h two lie w seen) (row-top mid.heap mid.frames mid.at q g h two lie w seen))

      pub given-stands : Stands new.heap new.frames
      given-stands = behind.stands

      -- frames go back where they did, and no object was made
      pub given-backs : backs (machine_in new).frames ≡ backs (machine_in mid).frames
      given-backs =
          ap (λ (n : Machine). backs n.frames) behind.shown
          ∙ put-at-backs (Some seen.place) (val_in mid w) (machine_of gives.mid (left mid.frames) mid.at)
          ∙ backs-same mid.heap.cells.heap gives.mid.cells.heap mid.frames (left mid.frames) refl

      pub given-none : NoneMade mid.heap new.heap
      given-none = none-then mid.heap gives.mid new.heap (none-released mid.heap gives.mid _ _ gives.released) behind.none

      pub given-effect : new.words ≡ mid.words → new.at ≡ mid.at → new.printed ≡ mid.printed → (at : ℕ) (go : Go) (input : List ℕ)
          → free_act empty at (i.LeaveGiving x s) go (core_of p).stack (work_of (core_of p) input)
          ≡ go 0 (core_of new).stack (work_of (core_of new) input)
      given-effect words place printed at go input =
          let c = core_of p in
          let f = freed (Some (left_with m s (window_that_ends m.windows))) (work_of c input) in
          let whole : machine_in part ≡ left_in f.machine s =
          whole-machine p mid s q0 g0 h0 q g h ends (giving-leave c x s given) once two lie
          (number-fits mid.heap mid.frames mid.at q g h two once lie fits) part gives.forest gives.released refl refl input in
          let y = slot_at m x in
          let b = object-kept mid.heap mid.frames mid.at q g h two lie w seen gives.mid gives.released part-stands in
          let is_there : object_at f.machine.store y ≡ Ok (object_of gives.mid.cells.heap (Some b.0)) =
          ap (λ (n : Machine). object_at n.store y) (sym whole)
          ∙ ap (object_at (store_of gives.mid.cells.heap))
          (sym (value-same mid.heap mid.frames mid.at q g h two lie w seen gives.mid gives.released part-stands ∙ value))
          ∙ object-there gives.mid.cells.heap slot b.0
          (serials mid.heap mid.frames mid.at q g h two lie w seen gives.mid gives.released part-stands) b.1 in
          let owner : top_owner m.windows ≡ Some seen.place = ap top_owner windows-same ∙ seen.owner in
          let machine : put_at (top_owner m.windows) y (left_in f.machine s) ≡ machine_in new =
          ap (λ o. put_at o y (left_in f.machine s)) owner
          ∙ ap (put_at (Some seen.place) y) (sym whole)
          ∙ ap (λ y. put_at (Some seen.place) y (machine_in part)) (sym value)
          ∙ sym behind.shown
          ∙ ap (machine_of new.heap new.frames) (sym place) in
          let shown : c.printed ≡ new.printed = sym (ap (λ (c : Core). c.printed) ends) ∙ sym printed in
          ap (λ (r : Result Seen Trap). elim r [
            | Ok o ↦ go 0 c.stack (record f { machine = put_at (top_owner m.windows) y (left_in f.machine s) })
            | Err t ↦ Traps t
          ]) is_there
          ∙ ap (λ n. go 0 c.stack (record { machine = n; input = input; printed = c.printed })) machine
          ∙ ap (λ vs. go 0 vs (record { machine = machine_in new; input = input; printed = c.printed }))
          (whole-stack p mid s q0 g0 h0 q g h ends (giving-leave c x s given) once two lie
          (number-fits mid.heap mid.frames mid.at q g h two once lie fits) new words)
          ∙ ap (λ o. go 0 (core_of new).stack (record { machine = machine_in new; input = input; printed = o })) shown

  -- A window that is alone stays

  pub given-alone : length mid.frames.windows < 2 → (at : ℕ) (go : Go) (input : List ℕ)
      → free_act empty at (i.LeaveGiving x s) go (core_of p).stack (work_of (core_of p) input)
      ≡ go 0 (core_of mid).stack (work_of (core_of mid) input)
  given-alone few at go input =
      let c = core_of p in
      let f = freed (Some (left_with m s (window_that_ends m.windows))) (work_of c input) in
      let y = slot_at m x in
      let none : top_owner m.windows ≡ None =
      (let many : length m.windows ≡ length mid.frames.windows = ap length windows-same ∙ many-shown mid in
      alone-owner m.windows (omega (arith, many, few))) in
      let b = held-body mid.heap.cells.heap a (leads.held a is) in
      let there : object_at (machine_in mid).store y ≡ Ok (object_of mid.heap.cells.heap (Some b.0)) =
      ap (object_at (machine_in mid).store) (sym value ∙ ap (val_in mid) is) ∙ object-there mid.heap.cells.heap a b.0 q b.1 in
      ap (λ o. on_object f.machine.store y (λ n. go 0 c.stack (record f { machine = put_at o y (left_in f.machine s) }))) none
      ∙ leave-alone p mid s ends few at (λ k vs w. on_object w.machine.store y (λ n. go k vs w)) input
      ∙ ap (λ (r : Result Seen Trap). elim r [
        | Ok o ↦ go 0 (core_of mid).stack (work_of (core_of mid) input)
        | Err t ↦ Traps t
      ]) there
