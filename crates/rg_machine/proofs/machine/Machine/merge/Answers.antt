use Rattle.std.proofs.Common.{◌∷◌, [], ◌++◌, sym, ap, subst, ◌∙◌}
use Rattle.rg_heap.specs.Moves.{CanMove, Merges}
use Rattle.rg_machine.proofs.Moves.Given.{Owned, Owns, active, may-merge, may-move, owned}
use Rattle.rg_machine.proofs.Moves.Effect.{merge-backs, merge-does, merge-invariant, merge-owns, no-object-acts, no-slot, takes-nothing}
use Rattle.rg_machine.proofs.machine.Machine.merge.Goals as goal

pub merge-requires-clause-owned : goal.merge-requires-clause-owned
merge-requires-clause-owned c =
    let x = c.self.inside in
    let o = merge-owns _ _ c.self.view_is c.args.s c.in-Slot.field-0 _ c.requires.given c.word-w.ensures c.in-Slot.is in
    subst (CanMove x.heap.cells.heap x.heap.regions) (sym c.in-Slot.is)
    (may-move x.heap x.frames x.at c.is_forest.ensures.serials c.is_forest.ensures.forest c.self.invariant.0 c.args.s c.in-Slot.field-0 o)

pub merge-requires-clause-apart : goal.merge-requires-clause-apart
merge-requires-clause-apart c =
    let x = c.self.inside in
    λ slot e w is.
    may-merge x.heap x.frames x.at c.is_forest.ensures.serials c.is_forest.ensures.forest c.self.invariant.0 c.args.s slot
    (merge-owns _ _ c.self.view_is c.args.s slot _ c.requires.given c.word-w.ensures e) w is

owns : (c : goal.After-push_reserved) → Owns c.self.inside.heap c.self.inside.frames c.self.inside.at c.args.s c.in-Ok-merge.field-0
owns c = merge-owns _ _ c.self.view_is c.args.s c.in-Ok-merge.field-0 _ c.requires.given c.word-w.ensures c.in-Ok-merge.ensures.slot

region : (c : goal.After-push_reserved) → Owned c.self.inside.heap c.self.inside.frames c.in-Ok-merge.field-0
region c =
    let x = c.self.inside in
    owned x.heap x.frames x.at c.is_forest.ensures.serials c.is_forest.ensures.forest c.self.invariant.0 c.args.s c.in-Ok-merge.field-0 (owns c)

merges : (c : goal.After-push_reserved) → Merges c.self.inside.heap c.merge.new.self (region c).key
    (active c.self.inside.heap c.self.inside.frames c.self.inside.at c.is_forest.ensures.serials c.is_forest.ensures.forest c.self.invariant.0
    c.args.s c.in-Ok-merge.field-0 (owns c) (region c)).window.region
merges c =
    let x = c.self.inside in
    let r = region c in
    let a = active x.heap x.frames x.at c.is_forest.ensures.serials c.is_forest.ensures.forest c.self.invariant.0 c.args.s
    c.in-Ok-merge.field-0 (owns c) r in
    c.in-Ok-merge.ensures.merges a.window a.is r.key r.region r.lies r.has

pub invariant_of-self-in-Slot : goal.invariant_of-self-in-Slot
invariant_of-self-in-Slot c =
    let x = c.self.inside in
    rw (c.set_word.ensures, c.push_reserved.ensures.items, c.reserve.ensures.items, c.in-Ok-merge.ensures.slot)
    (merge-invariant x.heap x.frames x.at c.is_forest.ensures.serials c.is_forest.ensures.forest c.self.invariant.0 c.args.s
    c.in-Ok-merge.field-0 (owns c) (region c) x.stack.items c.self.invariant.1 c.merge.new.self (merges c))

pub returns-in-Ok-merge : goal.returns-in-Ok-merge
returns-in-Ok-merge c at =
    let x = c.self.inside in
    record {
      effect =
          merge-does _ _ c.self.view_is c.is_forest.ensures.serials c.is_forest.ensures.forest c.self.invariant.0 c.args.s c.in-Ok-merge.field-0
          (owns c) (region c) c.merge.new.self c.is_forest-in-Slot.ensures.forest _ c.set_word.ensures _
          (c.push_reserved.ensures.items ∙ ap (λ ws. ws ++ c.word-w.result ∷ []) c.reserve.ensures.items
          ∙ ap (λ w. c.self.inside.stack.items ++ w ∷ []) c.in-Ok-merge.ensures.slot) (merges c) at;
      keeps =
          rw (← c.self.view_is, c.set_word.ensures)
          (merge-backs x.heap x.frames x.at c.is_forest.ensures.serials c.is_forest.ensures.forest c.self.invariant.0 c.args.s
          c.in-Ok-merge.field-0 (owns c) (region c) c.merge.new.self (merges c));
      high = rw (← c.self.view_is) (record { made = (merges c).serials; high = (merges c).high });
    }

pub returns-in-Nil : goal.returns-in-Nil
returns-in-Nil c at =
    takes-nothing _ (λ go input. no-object-acts _ _ c.self.view_is c.self.invariant.0 c.args.s _ c.word-w.ensures (no-slot _ c.in-Nil.is) _)
