use Rattle.std.proofs.Common.{inl, inr, ◌≡◌, ◌+◌, refl, true, ◌∙◌, sym, ap, subst}
use Rattle.rg_base.specs.declared.object.Place.{Place}
use Rattle.rg_base.specs.declared.object.Place.TheVariants as place
use Rattle.rg_code.specs.Code.{empty}
use Rattle.rg_code.specs.declared.op.Op.TheVariants as i
use Rattle.rg_regions.specs.Reach.{LiesIn}
use Rattle.rg_frames.specs.Stack.{Stack}
use Rattle.rg_frames.specs.Changes.{opened, with_slot}
use Rattle.rg_heap.specs.Parts.{Parts as HeapParts}
use Rattle.rg_heap.specs.Ends.{CanEnter}
use Rattle.rg_held.specs.Frees.{free_act}
use Rattle.rg_stack.specs.Tops.{frame_number}
use Rattle.rg_stack.specs.Machine.{place_of}
use Rattle.rg_base.specs.declared.outcome.Trap.TheVariants as trap
use Rattle.rg_base.proofs.Callers.Labels.{slot-same}
use Rattle.rg_stack.specs.Effects.{Traps}
use Rattle.rg_machine.specs.Core.{work_of}
use Rattle.rg_machine.specs.Frames.{can_open}
use Rattle.rg_machine.specs.Keeps.{SameBacks}
use Rattle.rg_machine.specs.Parts.{Parts, machine_in}
use Rattle.rg_machine.specs.Cores.{core_of}
use Rattle.rg_machine.specs.Stands.{AllLead, Stands}
use Rattle.rg_machine.specs.contracts.machine.Machine.{the_view}
use Rattle.rg_machine.proofs.Enter.Slot.{can-enter-of, opens-within, stands-entered, all-still-lead, enter-effect, enter-nil, same-backs}
use Rattle.rg_machine.proofs.Enter.Slot.{CanEnterSlot, entered_stack, no-object}
use Rattle.rg_machine.proofs.Callers.High.{none-same}
use Rattle.rg_machine.proofs.machine.Machine.enter.Goals as goal
use Rattle.rg_machine.proofs.machine.Machine.enter.Goals.{After-set_word}

pub enter-requires-clause-region : goal.enter-requires-clause-region
enter-requires-clause-region c =
    let x = can-enter-of (the_view c.self.inside) _ c.self.invariant.0 c.args.s c.args.z c.in-Slot.field-0 c.is_forest.ensures.serials
    c.is_forest.ensures.forest c.self.view_is c.requires.given (sym c.word-bridge.ensures ∙ c.in-Slot.is) in
    subst (CanEnter c.self.inside.heap.cells.heap) (sym c.in-Slot.is) (x.entered.region, x.entered.lies)

-- what stands behind the call
record Behind (c : After-set_word) : Type 0 where
  x : CanEnterSlot c.self.inside.heap c.self.inside.frames c.self.inside.at c.self.invariant.0 c.args.s c.in-Slot.field-0
  opens : can_open (machine_in (the_view c.self.inside)) c.args.z ≡ true
  is : c.set_word.new.self
      ≡ entered_stack c.self.inside.frames x.entered.closed.0 (place.Var c.depth.result c.args.s) c.args.z c.in-Slot.field-0

slot-entered : (c : After-set_word) → Behind c
slot-entered c =
    let m = c.self.inside in
    let h = c.self.invariant.0 in
    let b = c.in-Slot.field-0 in
    let x = can-enter-of (the_view c.self.inside) _ c.self.invariant.0 c.args.s c.args.z c.in-Slot.field-0 c.is_forest.ensures.serials
    c.is_forest.ensures.forest c.self.view_is c.requires.given (sym c.word-bridge.ensures ∙ c.in-Slot.is) in
    let opens = subst (λ (m : Parts). can_open (machine_in m) c.args.z ≡ true) (sym c.self.view_is) c.in-Some.ensures.some.0 in
    let base = subst (λ (m : Parts). c.in-Some.base ≡ place_of (machine_in m).frames c.args.z) (sym c.self.view_is) c.in-Some.ensures.some.1 in
    let at = base ∙ (opens-within m.heap m.frames m.at h c.args.z opens).1 in
    let same = slot-same b c.in-Ok.field-0 (sym c.in-Slot.is ∙ c.in-Ok.ensures.slot) in
    let lies = subst (LiesIn m.heap.cells.heap x.entered.region) same x.entered.lies in
    let key = x.entered.closed.0 in
    let owner : Place = place.Var c.depth.result c.args.s in
    record {
      x = x;
      opens = opens;
      is =
          c.set_word.ensures
          ∙ ap (λ f. with_slot f c.args.z c.word-bridge.result) (c.in-Ok.ensures.opened key x.entered.region lies x.entered.closed.1)
          ∙ ap (λ n. with_slot (opened m.frames key owner n) c.args.z c.word-bridge.result) at
          ∙ ap (λ w. with_slot (opened m.frames key owner (m.frames.first + c.args.z)) c.args.z w) c.in-Slot.is;
    }

pub invariant_of-self-2 : goal.invariant_of-self-2
invariant_of-self-2 c =
    let m = c.self.inside in
    let h = c.self.invariant.0 in
    let b = slot-entered c in
    let e = b.x.entered in
    let owner : Place = place.Var c.depth.result c.args.s in
    let stands = stands-entered m.heap m.frames e.closed.0 owner c.args.z e.region c.in-Slot.field-0 h e.closed.1 e.closed.2 e.lies b.x.parent in
    let lead = all-still-lead m.heap m.frames e.closed.0 owner c.args.z e.region c.in-Slot.field-0 h e.closed.1 e.closed.2 e.lies m.stack.items
    c.self.invariant.1 in (
      subst (λ (p : HeapParts). Stands p c.set_word.new.self) (sym c.enter.ensures.same) (subst (Stands m.heap) (sym b.is) stands),
      subst (λ (p : HeapParts). AllLead p c.set_word.new.self m.stack.items) (sym c.enter.ensures.same)
          (subst (λ v. AllLead m.heap v m.stack.items) (sym b.is) lead),
    )

new-is : (c : After-set_word) → (b : Behind c)
    → record (the_view c.self.inside) {
      frames = entered_stack c.self.inside.frames b.x.entered.closed.0 (place.Var c.depth.result c.args.s) c.args.z c.in-Slot.field-0;
    }
    ≡ record (the_view c.self.inside) { heap = c.enter.new.self; frames = c.set_word.new.self }
new-is c b =
    let m = c.self.inside in
    ap (λ (v : Stack). record { heap = m.heap; frames = v; words = m.stack.items; at = m.at; printed = m.printed }) (sym b.is)
    ∙ ap (λ (p : HeapParts). record { heap = p; frames = c.set_word.new.self; words = m.stack.items; at = m.at; printed = m.printed })
    (sym c.enter.ensures.same)

pub returns-clause-does : goal.returns-clause-does
returns-clause-does c at =
    let m = c.self.inside in
    let b = slot-entered c in
    let e = b.x.entered in
    let owner : Place = place.Var c.depth.result c.args.s in
    let depth = subst (λ (m : Parts). c.depth.result ≡ frame_number (machine_in m).frames) (sym c.self.view_is) c.depth.ensures in
    let new : Parts = record (the_view m) { heap = c.enter.new.self; frames = c.set_word.new.self } in
    record {
      effect = λ go input.
          subst (λ (m : Parts). free_act empty at (i.Enter c.args.s c.args.z) go (core_of m).stack (work_of (core_of m) input)
          ≡ go 0 (core_of new).stack (work_of (core_of new) input)) c.self.view_is (
          enter-effect m.heap m.frames m.at c.self.invariant.0 c.args.s c.args.z c.in-Slot.field-0 m.stack.items m.printed owner at b.x
          (ap (λ n. place.Var n c.args.s) depth) b.opens go input
          ∙ ap (λ (x : Parts). go 0 (core_of x).stack (work_of (core_of x) input)) (new-is c b));
      keeps =
          subst (λ (m : Parts). SameBacks (machine_in m) (machine_in new)) c.self.view_is
          (subst (λ (n : Parts). SameBacks (machine_in (the_view m)) (machine_in n)) (new-is c b)
          (same-backs m.heap m.frames e.closed.0 owner c.args.z e.region c.in-Slot.field-0 c.self.invariant.0 e.closed.1 e.closed.2 e.lies m.at));
      high = rw (← c.self.view_is) (none-same m.heap c.enter.new.self c.enter.ensures.same);
    }

pub returns-in_default-bridge-clause-does : goal.returns-in_default-bridge-clause-does
returns-in_default-bridge-clause-does c at =
    let m = c.self.inside in
    let none = no-object m.heap.cells.heap c.word-bridge.result c.in_default-bridge.not-Slot in
    let opens = subst (λ (m : Parts). can_open (machine_in m) c.args.z ≡ true) (sym c.self.view_is) c.in-Some.ensures.some.0 in
    record {
      effect = λ go input.
          subst (λ (m : Parts). free_act empty at (i.Enter c.args.s c.args.z) go (core_of m).stack (work_of (core_of m) input) ≡ Traps trap.Nil)
          c.self.view_is (enter-nil m.heap m.frames m.at c.self.invariant.0 c.args.s c.args.z m.stack.items m.printed at c.word-bridge.result
          (sym c.word-bridge.ensures) none opens go input);
      keeps = refl;
      high = record { made = refl; high = refl };
    }

-- where none is opened, all is left

pub returns-clause-stays : goal.returns-clause-stays
returns-clause-stays c = inl refl

pub returns-in_default-clause-stays : goal.returns-in_default-clause-stays
returns-in_default-clause-stays c = inr refl

pub returns-in_default-bridge-clause-stays : goal.returns-in_default-bridge-clause-stays
returns-in_default-bridge-clause-stays c = inr refl

pub returns-in_default-enter-clause-stays : goal.returns-in_default-enter-clause-stays
returns-in_default-enter-clause-stays c =
    let m = c.self.inside in
    inr
    (ap (λ (p : HeapParts). record (the_view m) { heap = p; frames = c.enter.new.frames }) c.enter.ensures.same
    ∙ ap (λ (v : Stack). record (the_view m) { frames = v }) c.in_default-enter.ensures.err ∙ c.self.view_is)

-- what is beside heap and frames stays

pub returns-clause-words : goal.returns-clause-words
returns-clause-words c = ap (λ (p : Parts). p.words) c.self.view_is

pub returns-clause-printed : goal.returns-clause-printed
returns-clause-printed c = ap (λ (p : Parts). p.printed) c.self.view_is

pub returns-in_default-enter-clause-words : goal.returns-in_default-enter-clause-words
returns-in_default-enter-clause-words c = ap (λ (p : Parts). p.words) c.self.view_is

pub returns-in_default-enter-clause-printed : goal.returns-in_default-enter-clause-printed
returns-in_default-enter-clause-printed c = ap (λ (p : Parts). p.printed) c.self.view_is
