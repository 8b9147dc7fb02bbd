use Rattle.std.proofs.Common.{inl, inr, ◌≡◌, ◌+◌, ◌∷◌, ◌++◌, [], Option, Some, Result, Ok, refl, true, ◌∙◌, sym, ap, subst}
use Rattle.rg_base.specs.declared.object.Place.{Place}
use Rattle.rg_base.specs.declared.object.Place.TheVariants as place
use Rattle.rg_base.specs.declared.outcome.Trap.{Trap}
use Rattle.rg_base.specs.declared.outcome.Trap.TheVariants as trap
use Rattle.rg_base.specs.declared.value.Word.{Word}
use Rattle.rg_base.specs.declared.value.Word.TheVariants.{Slot}
use Rattle.rg_base.proofs.Callers.Labels.{slot-same}
use Rattle.rg_code.specs.Code.{empty}
use Rattle.rg_code.specs.declared.op.Op.TheVariants as i
use Rattle.rg_cells.specs.Table.{field_at}
use Rattle.rg_regions.specs.Reach.{LiesIn}
use Rattle.rg_frames.specs.Stack.{Stack}
use Rattle.rg_frames.specs.Changes.{opened, with_slot}
use Rattle.rg_heap.specs.Parts.{Parts as HeapParts}
use Rattle.rg_heap.specs.Ends.{CanEnter}
use Rattle.rg_held.specs.Frees.{free_act}
use Rattle.rg_stack.specs.Effects.{Traps}
use Rattle.rg_stack.specs.Machine.{place_of}
use Rattle.rg_machine.specs.Core.{work_of}
use Rattle.rg_machine.specs.Frames.{can_open}
use Rattle.rg_machine.specs.Keeps.{SameBacks}
use Rattle.rg_machine.specs.Parts.{Parts, machine_in, with_word}
use Rattle.rg_machine.specs.Cores.{core_of}
use Rattle.rg_machine.specs.Stands.{AllLead, Stands}
use Rattle.rg_machine.specs.contracts.machine.Machine.{the_view}
use Rattle.rg_machine.proofs.Enter.Slot.{ParentBeneath, opens-within, stands-entered, all-still-lead, same-backs, Entered, entered_stack, no-object}
use Rattle.rg_machine.proofs.Enter.Field.{Holds, holds-beside, field-entered, field-parent, enter-field-effect, enter-field-nil}
use Rattle.rg_machine.proofs.Callers.High.{none-same}
use Rattle.rg_machine.proofs.machine.Machine.enter_from.Goals as goal
use Rattle.rg_machine.proofs.machine.Machine.enter_from.Goals.{After-set_word}

same-ok : (u w : Word) → ◌≡◌ {A = Result Word Trap} (Ok u) (Ok w) → u ≡ w
same-ok u w e = cc

-- the word that was read stands in the field
read-leads : (r u w : Word) {o : Option Word} → o ≡ Some r → ◌≡◌ {A = Result Word Trap} (Ok u) (Ok r) → u ≡ w → o ≡ Some w
read-leads r u w at got is = at ∙ ap Some (same-ok r u (sym got) ∙ is)

pub read-requires : goal.read-requires
read-requires c =
    (holds-beside (the_view c.self.inside) _ c.self.invariant.0 c.is_forest.ensures.serials c.is_forest.ensures.forest c.in-Slot.holder
    c.args.index c.args.z c.args.r c.self.view_is c.self.invariant.1 c.requires.leads c.in-Slot.is c.requires.given).within

pub enter-requires-clause-region : goal.enter-requires-clause-region
enter-requires-clause-region c =
    let x = holds-beside (the_view c.self.inside) _ c.self.invariant.0 c.is_forest.ensures.serials c.is_forest.ensures.forest
    c.in-Slot.holder c.args.index c.args.z c.args.r c.self.view_is c.self.invariant.1 c.requires.leads c.in-Slot.is c.requires.given in
    let e = field-entered c.self.inside.heap c.self.inside.frames c.self.inside.at c.self.invariant.0 c.is_forest.ensures.serials
    c.is_forest.ensures.forest c.in-Slot.holder c.args.index c.args.z c.in-Slot-bridge.field-0 x
    (read-leads c.in-Ok.ensures.0 c.in-Ok.bridge _ c.in-Ok.ensures.2 c.in-Ok.ensures.1 c.in-Slot-bridge.is) in
    subst (CanEnter c.self.inside.heap.cells.heap) (sym c.in-Slot-bridge.is) (e.region, e.lies)

-- what stands behind the call
record Behind (c : After-set_word) : Type 0 where
  x : Holds c.self.inside.heap c.self.inside.frames c.self.inside.at c.self.invariant.0 c.is_forest.ensures.serials c.is_forest.ensures.forest
      c.in-Slot.holder c.args.index c.args.z
  leads : field_at c.self.inside.heap.cells.heap c.in-Slot.holder c.args.index ≡ Some (Slot c.in-Slot-bridge.field-0)
  e : Entered c.self.inside.heap c.self.inside.frames c.self.inside.at c.self.invariant.0 c.in-Slot-bridge.field-0
  e_is : e ≡ field-entered c.self.inside.heap c.self.inside.frames c.self.inside.at c.self.invariant.0 c.is_forest.ensures.serials
      c.is_forest.ensures.forest c.in-Slot.holder c.args.index c.args.z c.in-Slot-bridge.field-0 x leads
  opens : can_open (machine_in (the_view c.self.inside)) c.args.z ≡ true
  is : record (the_view c.self.inside) {
    frames = entered_stack c.self.inside.frames e.closed.0 (place.Field c.serial.result c.args.index) c.args.z c.in-Slot-bridge.field-0;
  }
      ≡ record (the_view c.self.inside) { heap = c.enter.new.self; frames = c.set_word.new.self }

bridge-entered : (c : After-set_word) → Behind c
bridge-entered c =
    let m = c.self.inside in
    let h = c.self.invariant.0 in
    let rest = c.self.inside.stack.items in
    let x = holds-beside (the_view c.self.inside) _ c.self.invariant.0 c.is_forest.ensures.serials c.is_forest.ensures.forest
    c.in-Slot.holder c.args.index c.args.z c.args.r c.self.view_is c.self.invariant.1 c.requires.leads c.in-Slot.is c.requires.given in
    let b = c.in-Slot-bridge.field-0 in
    let leads = read-leads c.in-Ok.ensures.0 c.in-Ok.bridge _ c.in-Ok.ensures.2 c.in-Ok.ensures.1 c.in-Slot-bridge.is in
    let e = field-entered m.heap m.frames m.at h c.is_forest.ensures.serials c.is_forest.ensures.forest c.in-Slot.holder c.args.index c.args.z b
    x leads in
    let opens = subst (λ (m : Parts). can_open (machine_in m) c.args.z ≡ true) (sym c.self.view_is) c.in-Some.ensures.some.0 in
    let base = subst (λ (m : Parts). c.in-Some.base ≡ place_of (machine_in m).frames c.args.z) (sym c.self.view_is) c.in-Some.ensures.some.1 in
    let at = base ∙ (opens-within m.heap m.frames m.at h c.args.z opens).1 in
    let same = slot-same b c.in-Ok-enter.field-0 (sym c.in-Slot-bridge.is ∙ c.in-Ok-enter.ensures.slot) in
    let lies = subst (LiesIn m.heap.cells.heap e.region) same e.lies in
    let key = e.closed.0 in
    let owner : Place = place.Field c.serial.result c.args.index in
    let frames =
    c.set_word.ensures
    ∙ ap (λ f. with_slot f c.args.z c.in-Ok.bridge) (c.in-Ok-enter.ensures.opened key e.region lies e.closed.1)
    ∙ ap (λ n. with_slot (opened m.frames key owner n) c.args.z c.in-Ok.bridge) at
    ∙ ap (λ w. with_slot (opened m.frames key owner (m.frames.first + c.args.z)) c.args.z w) c.in-Slot-bridge.is in
    record {
      x = x;
      leads = leads;
      e = e;
      e_is = refl;
      opens = opens;
      is =
          ap (λ (v : Stack). record { heap = m.heap; frames = v; words = rest; at = m.at; printed = m.printed }) (sym frames)
          ∙ ap (λ (p : HeapParts). record { heap = p; frames = c.set_word.new.self; words = rest; at = m.at; printed = m.printed })
          (sym c.enter.ensures.same);
    }

pub invariant_of-self-2 : goal.invariant_of-self-2
invariant_of-self-2 c =
    let m = c.self.inside in
    let h = c.self.invariant.0 in
    let rest = c.self.inside.stack.items in
    let b = bridge-entered c in
    let e = b.e in
    let owner : Place = place.Field c.serial.result c.args.index in
    let parent = field-parent m.heap m.frames m.at h c.is_forest.ensures.serials c.is_forest.ensures.forest c.in-Slot.holder c.args.index c.args.z
    c.in-Slot-bridge.field-0 b.x b.leads in
    let P : Entered m.heap m.frames m.at h c.in-Slot-bridge.field-0 → Type 0 = λ e. ParentBeneath m.heap m.frames e.region in
    let stands = stands-entered m.heap m.frames e.closed.0 owner c.args.z e.region c.in-Slot-bridge.field-0 h e.closed.1 e.closed.2 e.lies
    (subst P (sym b.e_is) parent) in
    let lead = all-still-lead m.heap m.frames e.closed.0 owner c.args.z e.region c.in-Slot-bridge.field-0 h e.closed.1 e.closed.2 e.lies rest
    c.self.invariant.1
    in
    (subst (λ (n : Parts). Stands n.heap n.frames) b.is stands, subst (λ (n : Parts). AllLead n.heap n.frames n.words) b.is lead)

pub returns-clause-does : goal.returns-clause-does
returns-clause-does c at =
    let m = c.self.inside in
    let h = c.self.invariant.0 in
    let b = bridge-entered c in
    let e = b.e in
    let owner : Place = place.Field c.serial.result c.args.index in
    let rest = c.self.inside.stack.items in
    let old : Parts = the_view m in
    let new : Parts = record old { heap = c.enter.new.self; frames = c.set_word.new.self } in
    let words = ap (λ w. rest ++ w ∷ []) c.in-Slot.is in
    let start : Entered m.heap m.frames m.at h c.in-Slot-bridge.field-0 → Parts = λ e. record old {
      frames = entered_stack m.frames e.closed.0 (place.Field c.serial.result c.args.index) c.args.z c.in-Slot-bridge.field-0;
    } in
    record {
      effect = λ go input.
          subst (λ (m : Parts). free_act empty at (i.EnterField c.args.index c.args.z) go (core_of (with_word m c.args.r)).stack
          (work_of (core_of (with_word m c.args.r)) input)
          ≡ go 0 (core_of new).stack (work_of (core_of new) input)) c.self.view_is (
          enter-field-effect m.heap m.frames m.at h c.is_forest.ensures.serials c.is_forest.ensures.forest c.in-Slot.holder c.args.index c.args.z
          c.in-Slot-bridge.field-0 c.serial.result (rest ++ c.args.r ∷ []) rest m.printed at b.x b.leads words c.serial.ensures b.opens go input
          ∙ ap (λ (x : Parts). go 0 (core_of x).stack (work_of (core_of x) input)) (ap start (sym b.e_is) ∙ b.is));
      keeps =
          subst (λ (m : Parts). SameBacks (machine_in m) (machine_in new)) c.self.view_is
          (subst (λ (n : Parts). SameBacks (machine_in old) (machine_in n)) b.is
          (same-backs m.heap m.frames e.closed.0 owner c.args.z e.region c.in-Slot-bridge.field-0 h e.closed.1 e.closed.2 e.lies m.at));
      high = rw (← c.self.view_is) (none-same m.heap c.enter.new.self c.enter.ensures.same);
    }

pub returns-in_default-bridge-clause-does : goal.returns-in_default-bridge-clause-does
returns-in_default-bridge-clause-does c at =
    let m = c.self.inside in
    let h = c.self.invariant.0 in
    let rest = c.self.inside.stack.items in
    let is = ap (λ w. rest ++ w ∷ []) c.in-Slot.is in
    let x = holds-beside (the_view c.self.inside) _ c.self.invariant.0 c.is_forest.ensures.serials c.is_forest.ensures.forest
    c.in-Slot.holder c.args.index c.args.z c.args.r c.self.view_is c.self.invariant.1 c.requires.leads c.in-Slot.is c.requires.given in
    let u = c.in-Ok.bridge in
    let leads = read-leads c.in-Ok.ensures.0 u u c.in-Ok.ensures.2 c.in-Ok.ensures.1 refl in
    let none = no-object m.heap.cells.heap u c.in_default-bridge.not-Slot in
    let opens = subst (λ (m : Parts). can_open (machine_in m) c.args.z ≡ true) (sym c.self.view_is) c.in-Some.ensures.some.0 in
    record {
      effect = λ go input.
          subst (λ (m : Parts). free_act empty at (i.EnterField c.args.index c.args.z) go (core_of (with_word m c.args.r)).stack
          (work_of (core_of (with_word m c.args.r)) input)
          ≡ Traps trap.Nil)
          c.self.view_is (enter-field-nil m.heap m.frames m.at h c.is_forest.ensures.serials c.is_forest.ensures.forest c.in-Slot.holder
          c.args.index c.args.z u (rest ++ c.args.r ∷ []) rest m.printed at x leads is none opens go input);
      keeps = refl;
      high = record { made = refl; high = refl };
    }

-- where none is opened, all is left

pub returns-clause-stays : goal.returns-clause-stays
returns-clause-stays c = inl refl

pub returns-in_default-clause-stays : goal.returns-in_default-clause-stays
returns-in_default-clause-stays c = inr refl

pub returns-in_default-bridge-clause-stays : goal.returns-in_default-bridge-clause-stays
returns-in_default-bridge-clause-stays c = inr refl

pub returns-in_default-enter-clause-stays : goal.returns-in_default-enter-clause-stays
returns-in_default-enter-clause-stays c =
    let m = c.self.inside in
    inr
    (ap (λ (p : HeapParts). record (the_view m) { heap = p; frames = c.enter.new.frames }) c.enter.ensures.same
    ∙ ap (λ (v : Stack). record (the_view m) { frames = v }) c.in_default-enter.ensures.err ∙ c.self.view_is)

-- what is beside heap and frames stays

pub returns-clause-words : goal.returns-clause-words
returns-clause-words c = ap (λ (p : Parts). p.words) c.self.view_is

pub returns-clause-printed : goal.returns-clause-printed
returns-clause-printed c = ap (λ (p : Parts). p.printed) c.self.view_is

pub returns-in_default-enter-clause-words : goal.returns-in_default-enter-clause-words
returns-in_default-enter-clause-words c = ap (λ (p : Parts). p.words) c.self.view_is

pub returns-in_default-enter-clause-printed : goal.returns-in_default-enter-clause-printed
returns-in_default-enter-clause-printed c = ap (λ (p : Parts). p.printed) c.self.view_is
