use Rattle.std.proofs.Common.{◌∷◌, [], ◌++◌, sym, ap, subst, ◌∙◌}
use Rattle.rg_heap.specs.Moves.{CanMove, Freezes}
use Rattle.rg_machine.proofs.Moves.Given.{Owned, Owns, may-move, owned}
use Rattle.rg_machine.proofs.Moves.Effect.{freeze-backs, freeze-does, freeze-invariant, freeze-owns, no-object-acts, no-slot, takes-nothing}
use Rattle.rg_machine.proofs.machine.Machine.freeze.Goals as goal

pub freeze-requires : goal.freeze-requires
freeze-requires c =
    let x = c.self.inside in
    let o = freeze-owns _ _ c.self.view_is c.args.s c.in-Slot.field-0 _ c.requires.given c.word-w.ensures c.in-Slot.is in
    subst (CanMove x.heap.cells.heap x.heap.regions) (sym c.in-Slot.is)
    (may-move x.heap x.frames x.at c.is_forest.ensures.serials c.is_forest.ensures.forest c.self.invariant.0 c.args.s c.in-Slot.field-0 o)

owns : (c : goal.After-push_reserved) → Owns c.self.inside.heap c.self.inside.frames c.self.inside.at c.args.s c.in-Slot.field-0
owns c = freeze-owns _ _ c.self.view_is c.args.s c.in-Slot.field-0 _ c.requires.given c.word-w.ensures c.in-Slot.is

region : (c : goal.After-push_reserved) → Owned c.self.inside.heap c.self.inside.frames c.in-Slot.field-0
region c =
    let x = c.self.inside in
    owned x.heap x.frames x.at c.is_forest.ensures.serials c.is_forest.ensures.forest c.self.invariant.0 c.args.s c.in-Slot.field-0 (owns c)

freezes : (c : goal.After-push_reserved) → Freezes c.self.inside.heap c.freeze.new.self (region c).key
freezes c =
    let r = region c in
    c.freeze.ensures.freezes c.in-Slot.field-0 c.in-Slot.is r.key r.region r.lies r.has

pub invariant_of-self-in-Slot : goal.invariant_of-self-in-Slot
invariant_of-self-in-Slot c =
    let x = c.self.inside in
    rw (c.set_word.ensures, c.push_reserved.ensures.items, c.reserve.ensures.items, c.in-Slot.is)
    (freeze-invariant x.heap x.frames x.at c.is_forest.ensures.serials c.is_forest.ensures.forest c.self.invariant.0 c.args.s
    c.in-Slot.field-0 (owns c) (region c) x.stack.items c.self.invariant.1 c.freeze.new.self (freezes c))

pub returns-in-Ok : goal.returns-in-Ok
returns-in-Ok c at =
    let x = c.self.inside in
    record {
      effect =
          freeze-does _ _ c.self.view_is c.is_forest.ensures.serials c.is_forest.ensures.forest c.self.invariant.0 c.args.s c.in-Slot.field-0
          (owns c) (region c) c.freeze.new.self c.is_forest-in-Slot.ensures.forest _ c.set_word.ensures _
          (c.push_reserved.ensures.items ∙ ap (λ ws. ws ++ c.word-w.result ∷ []) c.reserve.ensures.items
          ∙ ap (λ w. c.self.inside.stack.items ++ w ∷ []) c.in-Slot.is) (freezes c) at;
      keeps =
          rw (← c.self.view_is, c.set_word.ensures)
          (freeze-backs x.heap x.frames x.at c.is_forest.ensures.serials c.is_forest.ensures.forest c.self.invariant.0 c.args.s
          c.in-Slot.field-0 (owns c) (region c) c.freeze.new.self (freezes c));
      high = rw (← c.self.view_is) (record { made = (freezes c).serials; high = (freezes c).high });
    }

pub returns-in-Nil : goal.returns-in-Nil
returns-in-Nil c at =
    takes-nothing _ (λ go input. no-object-acts _ _ c.self.view_is c.self.invariant.0 c.args.s _ c.word-w.ensures (no-slot _ c.in-Nil.is) _)
