use Rattle.std.proofs.Common.{◌≡◌, ◌≤◌, ◌<◌, length, slice_set, refl, true, ◌∙◌, sym, ap, subst, arith}
use Rattle.rg_base.specs.declared.object.Place.{Place}
use Rattle.rg_base.specs.declared.object.Place.TheVariants as place
use Rattle.rg_base.specs.declared.value.Word.TheVariants.{Slot}
use Rattle.rg_code.specs.Code.{empty}
use Rattle.rg_code.specs.declared.op.Op.TheVariants as i
use Rattle.rg_regions.proofs.Callers.Told.{lies_held}
use Rattle.rg_frames.specs.Stack.{Stack}
use Rattle.rg_frames.specs.Changes.{opened}
use Rattle.rg_held.specs.Frees.{free_act}
use Rattle.rg_stack.specs.Tops.{frame_number}
use Rattle.rg_stack.specs.Machine.{place_of}
use Rattle.rg_machine.specs.Core.{work_of}
use Rattle.rg_machine.specs.Frames.{can_open}
use Rattle.rg_machine.specs.Keeps.{SameBacks}
use Rattle.rg_machine.specs.Parts.{Parts, machine_in}
use Rattle.rg_machine.specs.Cores.{core_of}
use Rattle.rg_machine.specs.Stands.{AllLead, Stands}
use Rattle.rg_machine.specs.contracts.machine.Machine.{the_view}
use Rattle.rg_machine.proofs.Enter.Slot.{can-enter-of, opens-within, stands-entered, all-still-lead, enter-effect, same-backs}
use Rattle.rg_machine.proofs.Enter.Slot.{CanEnterSlot, entered_stack}
use Rattle.rg_machine.proofs.Enter.Key.{same-key}
use Rattle.rg_machine.proofs.Callers.High.{none-same}
use Rattle.rg_machine.proofs.machine.Machine.open.Goals as goal
use Rattle.rg_machine.proofs.machine.Machine.open.Goals.{After-set_place}

pub hinted_region-requires : goal.hinted_region-requires
hinted_region-requires c =
    let x = can-enter-of (the_view c.self.inside) _ c.self.invariant.0 c.args.s c.args.z c.in-Slot.slot c.is_forest.ensures.serials
    c.is_forest.ensures.forest c.self.view_is c.requires.given (sym c.word.ensures ∙ c.in-Slot.is) in
    lies_held c.self.inside.heap.cells.heap x.entered.region c.in-Slot.slot x.entered.lies

-- its base is a slot of the topmost frame

pub set_place-requires-clause-from : goal.set_place-requires-clause-from
set_place-requires-clause-from c =
    let m = c.self.inside in
    let opens = subst (λ (m : Parts). can_open (machine_in m) c.args.z ≡ true) (sym c.self.view_is) c.in-Some-base_at.ensures.some.0 in
    let base = subst (λ (m : Parts). c.in-Some-base_at.base ≡ place_of (machine_in m).frames c.args.z) (sym c.self.view_is)
    c.in-Some-base_at.ensures.some.1 in
    let at = (opens-within m.heap m.frames m.at c.self.invariant.0 c.args.z opens).1 in
    subst (λ (f : Stack). f.first ≤ c.in-Some-base_at.base) (sym (c.if-not-open_window.ensures.opens refl)) (omega (arith, base, at))

pub set_place-requires-clause-within : goal.set_place-requires-clause-within
set_place-requires-clause-within c =
    let there = subst (λ (m : Parts). c.in-Some-base_at.base < length m.frames.slots) (sym c.self.view_is) c.in-Some-base_at.ensures.some.3 in
    subst (λ (f : Stack). c.in-Some-base_at.base < length f.slots) (sym (c.if-not-open_window.ensures.opens refl)) there

-- what stands behind the call
record Behind (c : After-set_place) : Type 0 where
  x : CanEnterSlot c.self.inside.heap c.self.inside.frames c.self.inside.at c.self.invariant.0 c.args.s c.in-Slot.slot
  opens : can_open (machine_in (the_view c.self.inside)) c.args.z ≡ true
  is : c.set_place.new.self
      ≡ entered_stack c.self.inside.frames x.entered.closed.0 (place.Var c.depth.result c.args.s) c.args.z c.in-Slot.slot

slot-entered : (c : After-set_place) → Behind c
slot-entered c =
    let m = c.self.inside in
    let h = c.self.invariant.0 in
    let b = c.in-Slot.slot in
    let x = can-enter-of (the_view c.self.inside) _ c.self.invariant.0 c.args.s c.args.z c.in-Slot.slot c.is_forest.ensures.serials
    c.is_forest.ensures.forest c.self.view_is c.requires.given (sym c.word.ensures ∙ c.in-Slot.is) in
    let opens = subst (λ (m : Parts). can_open (machine_in m) c.args.z ≡ true) (sym c.self.view_is) c.in-Some-base_at.ensures.some.0 in
    let base = subst (λ (m : Parts). c.in-Some-base_at.base ≡ place_of (machine_in m).frames c.args.z) (sym c.self.view_is)
    c.in-Some-base_at.ensures.some.1 in
    let at = base ∙ (opens-within m.heap m.frames m.at h c.args.z opens).1 in
    let key = x.entered.closed.0 in
    let owner : Place = place.Var c.depth.result c.args.s in
    record {
      x = x;
      opens = opens;
      is =
          c.set_place.ensures
          ∙ ap (λ (f : Stack). record f { slots = slice_set f.slots c.in-Some-base_at.base (Slot b) }) (c.if-not-open_window.ensures.opens refl)
          ∙ ap (λ k. record (opened m.frames k owner c.in-Some-base_at.base) { slots = slice_set m.frames.slots c.in-Some-base_at.base (Slot b) })
          (same-key m.heap c.is_forest.ensures.forest b c.in-Some.key c.in-Some.ensures.0 key x.entered.region c.in-Some.ensures.1 c.in-Some.ensures.2
          x.entered.lies x.entered.closed.1)
          ∙ ap (λ n. record (opened m.frames key owner n) { slots = slice_set m.frames.slots n (Slot b) }) at;
    }

pub invariant_of-self-2 : goal.invariant_of-self-2
invariant_of-self-2 c =
    let m = c.self.inside in
    let h = c.self.invariant.0 in
    let b = slot-entered c in
    let e = b.x.entered in
    let owner : Place = place.Var c.depth.result c.args.s in
    let stands = stands-entered m.heap m.frames e.closed.0 owner c.args.z e.region c.in-Slot.slot h e.closed.1 e.closed.2 e.lies b.x.parent in
    let lead = all-still-lead m.heap m.frames e.closed.0 owner c.args.z e.region c.in-Slot.slot h e.closed.1 e.closed.2 e.lies m.stack.items
    c.self.invariant.1 in (
      subst (Stands m.heap) (sym b.is) stands,
      subst (λ v. AllLead m.heap v m.stack.items) (sym b.is) lead,
    )

new-is : (c : After-set_place) → (b : Behind c)
    → record (the_view c.self.inside) {
      frames = entered_stack c.self.inside.frames b.x.entered.closed.0 (place.Var c.depth.result c.args.s) c.args.z c.in-Slot.slot;
    }
    ≡ record (the_view c.self.inside) { frames = c.set_place.new.self }
new-is c b =
    let m = c.self.inside in
    ap (λ (v : Stack). record { heap = m.heap; frames = v; words = m.stack.items; at = m.at; printed = m.printed }) (sym b.is)

pub returns-clause-opens : goal.returns-clause-opens
returns-clause-opens c = λ opened at.
    let m = c.self.inside in
    let b = slot-entered c in
    let e = b.x.entered in
    let owner : Place = place.Var c.depth.result c.args.s in
    let depth = subst (λ (m : Parts). c.depth.result ≡ frame_number (machine_in m).frames) (sym c.self.view_is) c.depth.ensures in
    let new : Parts = record (the_view m) { frames = c.set_place.new.self } in
    record {
      effect = λ go input.
          subst (λ (m : Parts). free_act empty at (i.Enter c.args.s c.args.z) go (core_of m).stack (work_of (core_of m) input)
          ≡ go 0 (core_of new).stack (work_of (core_of new) input)) c.self.view_is (
          enter-effect m.heap m.frames m.at c.self.invariant.0 c.args.s c.args.z c.in-Slot.slot m.stack.items m.printed owner at b.x
          (ap (λ n. place.Var n c.args.s) depth) b.opens go input
          ∙ ap (λ (x : Parts). go 0 (core_of x).stack (work_of (core_of x) input)) (new-is c b));
      keeps =
          subst (λ (m : Parts). SameBacks (machine_in m) (machine_in new)) c.self.view_is
          (subst (λ (n : Parts). SameBacks (machine_in (the_view m)) (machine_in n)) (new-is c b)
          (same-backs m.heap m.frames e.closed.0 owner c.args.z e.region c.in-Slot.slot c.self.invariant.0 e.closed.1 e.closed.2 e.lies m.at));
      high = rw (← c.self.view_is) (none-same m.heap m.heap refl);
    }
