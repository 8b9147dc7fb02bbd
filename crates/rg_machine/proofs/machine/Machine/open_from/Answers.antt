use Rattle.std.proofs.Common.{◌≡◌, ◌≤◌, ◌<◌, ◌∷◌, ◌++◌, [], Option, Some, Result, Ok, length, slice_set, refl, true, ◌∙◌, sym, ap}
use Rattle.std.proofs.Common.{subst, arith}
use Rattle.rg_base.specs.declared.object.Place.{Place}
use Rattle.rg_base.specs.declared.object.Place.TheVariants as place
use Rattle.rg_base.specs.declared.outcome.Trap.{Trap}
use Rattle.rg_base.specs.declared.value.Word.{Word}
use Rattle.rg_base.specs.declared.value.Word.TheVariants.{Slot}
use Rattle.rg_code.specs.Code.{empty}
use Rattle.rg_code.specs.declared.op.Op.TheVariants as i
use Rattle.rg_cells.specs.Table.{field_at}
use Rattle.rg_regions.proofs.Callers.Told.{lies_held}
use Rattle.rg_frames.specs.Stack.{Stack}
use Rattle.rg_frames.specs.Changes.{opened}
use Rattle.rg_held.specs.Frees.{free_act}
use Rattle.rg_stack.specs.Machine.{place_of}
use Rattle.rg_machine.specs.Core.{work_of}
use Rattle.rg_machine.specs.Frames.{can_open}
use Rattle.rg_machine.specs.Keeps.{SameBacks}
use Rattle.rg_machine.specs.Parts.{Parts, machine_in, with_word}
use Rattle.rg_machine.specs.Cores.{core_of}
use Rattle.rg_machine.specs.Stands.{AllLead, Stands}
use Rattle.rg_machine.specs.contracts.machine.Machine.{the_view}
use Rattle.rg_machine.proofs.Enter.Slot.{ParentBeneath, opens-within, stands-entered, all-still-lead, same-backs, Entered, entered_stack}
use Rattle.rg_machine.proofs.Enter.Field.{Holds, holds-beside, field-entered, field-parent, enter-field-effect}
use Rattle.rg_machine.proofs.Enter.Key.{same-key}
use Rattle.rg_machine.proofs.Callers.High.{none-same}
use Rattle.rg_machine.proofs.machine.Machine.open_from.Goals as goal
use Rattle.rg_machine.proofs.machine.Machine.open_from.Goals.{After-set_place}

same-ok : (u w : Word) → ◌≡◌ {A = Result Word Trap} (Ok u) (Ok w) → u ≡ w
same-ok u w e = cc

-- the word that was read stands in the field
read-leads : (r u w : Word) {o : Option Word} → o ≡ Some r → ◌≡◌ {A = Result Word Trap} (Ok u) (Ok r) → u ≡ w → o ≡ Some w
read-leads r u w at got is = at ∙ ap Some (same-ok r u (sym got) ∙ is)

pub read-requires : goal.read-requires
read-requires c =
    (holds-beside (the_view c.self.inside) _ c.self.invariant.0 c.is_forest.ensures.serials c.is_forest.ensures.forest c.in-Slot.holder
    c.args.index c.args.z c.args.r c.self.view_is c.self.invariant.1 c.requires.leads c.in-Slot.is c.requires.given).within

pub hinted_region-requires : goal.hinted_region-requires
hinted_region-requires c =
    let m = c.self.inside in
    let x = holds-beside (the_view c.self.inside) _ c.self.invariant.0 c.is_forest.ensures.serials c.is_forest.ensures.forest
    c.in-Slot.holder c.args.index c.args.z c.args.r c.self.view_is c.self.invariant.1 c.requires.leads c.in-Slot.is c.requires.given in
    let e = field-entered m.heap m.frames m.at c.self.invariant.0 c.is_forest.ensures.serials c.is_forest.ensures.forest c.in-Slot.holder
    c.args.index c.args.z c.in-Slot-bridge.slot x
    (read-leads c.in-Ok.ensures.0 c.in-Ok.bridge _ c.in-Ok.ensures.2 c.in-Ok.ensures.1 c.in-Slot-bridge.is) in
    lies_held m.heap.cells.heap e.region c.in-Slot-bridge.slot e.lies

-- its base is a slot of the topmost frame

pub set_place-requires-clause-from : goal.set_place-requires-clause-from
set_place-requires-clause-from c =
    let m = c.self.inside in
    let opens = subst (λ (m : Parts). can_open (machine_in m) c.args.z ≡ true) (sym c.self.view_is) c.in-Some-base_at.ensures.some.0 in
    let base = subst (λ (m : Parts). c.in-Some-base_at.base ≡ place_of (machine_in m).frames c.args.z) (sym c.self.view_is)
    c.in-Some-base_at.ensures.some.1 in
    let at = (opens-within m.heap m.frames m.at c.self.invariant.0 c.args.z opens).1 in
    subst (λ (f : Stack). f.first ≤ c.in-Some-base_at.base) (sym (c.if-not-open_window.ensures.opens refl)) (omega (arith, base, at))

pub set_place-requires-clause-within : goal.set_place-requires-clause-within
set_place-requires-clause-within c =
    let there = subst (λ (m : Parts). c.in-Some-base_at.base < length m.frames.slots) (sym c.self.view_is) c.in-Some-base_at.ensures.some.3 in
    subst (λ (f : Stack). c.in-Some-base_at.base < length f.slots) (sym (c.if-not-open_window.ensures.opens refl)) there

-- what stands behind the call
record Behind (c : After-set_place) : Type 0 where
  x : Holds c.self.inside.heap c.self.inside.frames c.self.inside.at c.self.invariant.0 c.is_forest.ensures.serials c.is_forest.ensures.forest
      c.in-Slot.holder c.args.index c.args.z
  leads : field_at c.self.inside.heap.cells.heap c.in-Slot.holder c.args.index ≡ Some (Slot c.in-Slot-bridge.slot)
  e : Entered c.self.inside.heap c.self.inside.frames c.self.inside.at c.self.invariant.0 c.in-Slot-bridge.slot
  e_is : e ≡ field-entered c.self.inside.heap c.self.inside.frames c.self.inside.at c.self.invariant.0 c.is_forest.ensures.serials
      c.is_forest.ensures.forest c.in-Slot.holder c.args.index c.args.z c.in-Slot-bridge.slot x leads
  opens : can_open (machine_in (the_view c.self.inside)) c.args.z ≡ true
  is : record (the_view c.self.inside) {
    frames = entered_stack c.self.inside.frames e.closed.0 (place.Field c.serial.result c.args.index) c.args.z c.in-Slot-bridge.slot;
  }
      ≡ record (the_view c.self.inside) { frames = c.set_place.new.self }

bridge-entered : (c : After-set_place) → Behind c
bridge-entered c =
    let m = c.self.inside in
    let h = c.self.invariant.0 in
    let rest = c.self.inside.stack.items in
    let x = holds-beside (the_view c.self.inside) _ c.self.invariant.0 c.is_forest.ensures.serials c.is_forest.ensures.forest
    c.in-Slot.holder c.args.index c.args.z c.args.r c.self.view_is c.self.invariant.1 c.requires.leads c.in-Slot.is c.requires.given in
    let b = c.in-Slot-bridge.slot in
    let leads = read-leads c.in-Ok.ensures.0 c.in-Ok.bridge _ c.in-Ok.ensures.2 c.in-Ok.ensures.1 c.in-Slot-bridge.is in
    let e = field-entered m.heap m.frames m.at h c.is_forest.ensures.serials c.is_forest.ensures.forest c.in-Slot.holder c.args.index c.args.z b
    x leads in
    let opens = subst (λ (m : Parts). can_open (machine_in m) c.args.z ≡ true) (sym c.self.view_is) c.in-Some-base_at.ensures.some.0 in
    let base = subst (λ (m : Parts). c.in-Some-base_at.base ≡ place_of (machine_in m).frames c.args.z) (sym c.self.view_is)
    c.in-Some-base_at.ensures.some.1 in
    let at = base ∙ (opens-within m.heap m.frames m.at h c.args.z opens).1 in
    let key = e.closed.0 in
    let owner : Place = place.Field c.serial.result c.args.index in
    let frames =
    c.set_place.ensures
    ∙ ap (λ (f : Stack). record f { slots = slice_set f.slots c.in-Some-base_at.base (Slot b) }) (c.if-not-open_window.ensures.opens refl)
    ∙ ap (λ k. record (opened m.frames k owner c.in-Some-base_at.base) { slots = slice_set m.frames.slots c.in-Some-base_at.base (Slot b) })
    (same-key m.heap c.is_forest.ensures.forest b c.in-Some.key c.in-Some.ensures.0 key e.region c.in-Some.ensures.1 c.in-Some.ensures.2
    e.lies e.closed.1)
    ∙ ap (λ n. record (opened m.frames key owner n) { slots = slice_set m.frames.slots n (Slot b) }) at in
    record {
      x = x;
      leads = leads;
      e = e;
      e_is = refl;
      opens = opens;
      is = ap (λ (v : Stack). record { heap = m.heap; frames = v; words = rest; at = m.at; printed = m.printed }) (sym frames);
    }

pub invariant_of-self-2 : goal.invariant_of-self-2
invariant_of-self-2 c =
    let m = c.self.inside in
    let h = c.self.invariant.0 in
    let rest = c.self.inside.stack.items in
    let b = bridge-entered c in
    let e = b.e in
    let owner : Place = place.Field c.serial.result c.args.index in
    let parent = field-parent m.heap m.frames m.at h c.is_forest.ensures.serials c.is_forest.ensures.forest c.in-Slot.holder c.args.index c.args.z
    c.in-Slot-bridge.slot b.x b.leads in
    let P : Entered m.heap m.frames m.at h c.in-Slot-bridge.slot → Type 0 = λ e. ParentBeneath m.heap m.frames e.region in
    let stands = stands-entered m.heap m.frames e.closed.0 owner c.args.z e.region c.in-Slot-bridge.slot h e.closed.1 e.closed.2 e.lies
    (subst P (sym b.e_is) parent) in
    let lead = all-still-lead m.heap m.frames e.closed.0 owner c.args.z e.region c.in-Slot-bridge.slot h e.closed.1 e.closed.2 e.lies rest
    c.self.invariant.1
    in
    (subst (λ (n : Parts). Stands n.heap n.frames) b.is stands, subst (λ (n : Parts). AllLead n.heap n.frames n.words) b.is lead)

pub returns-clause-opens : goal.returns-clause-opens
returns-clause-opens c = λ opened at.
    let m = c.self.inside in
    let h = c.self.invariant.0 in
    let b = bridge-entered c in
    let e = b.e in
    let owner : Place = place.Field c.serial.result c.args.index in
    let rest = c.self.inside.stack.items in
    let old : Parts = the_view m in
    let new : Parts = record old { frames = c.set_place.new.self } in
    let words = ap (λ w. rest ++ w ∷ []) c.in-Slot.is in
    let start : Entered m.heap m.frames m.at h c.in-Slot-bridge.slot → Parts = λ e. record old {
      frames = entered_stack m.frames e.closed.0 (place.Field c.serial.result c.args.index) c.args.z c.in-Slot-bridge.slot;
    } in
    record {
      effect = λ go input.
          subst (λ (m : Parts). free_act empty at (i.EnterField c.args.index c.args.z) go (core_of (with_word m c.args.r)).stack
          (work_of (core_of (with_word m c.args.r)) input)
          ≡ go 0 (core_of new).stack (work_of (core_of new) input)) c.self.view_is (
          enter-field-effect m.heap m.frames m.at h c.is_forest.ensures.serials c.is_forest.ensures.forest c.in-Slot.holder c.args.index c.args.z
          c.in-Slot-bridge.slot c.serial.result (rest ++ c.args.r ∷ []) rest m.printed at b.x b.leads words c.serial.ensures b.opens go input
          ∙ ap (λ (x : Parts). go 0 (core_of x).stack (work_of (core_of x) input)) (ap start (sym b.e_is) ∙ b.is));
      keeps =
          subst (λ (m : Parts). SameBacks (machine_in m) (machine_in new)) c.self.view_is
          (subst (λ (n : Parts). SameBacks (machine_in old) (machine_in n)) b.is
          (same-backs m.heap m.frames e.closed.0 owner c.args.z e.region c.in-Slot-bridge.slot h e.closed.1 e.closed.2 e.lies m.at));
      high = rw (← c.self.view_is) (none-same m.heap m.heap refl);
    }
