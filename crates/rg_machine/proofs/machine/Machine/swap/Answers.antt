use Rattle.rg_frames.specs.Changes.{with_slot}
use Rattle.rg_machine.proofs.Swap.{Swapped, may-swap, swapped}
use Rattle.rg_machine.proofs.Callers.High.{none-written}
use Rattle.rg_machine.proofs.machine.Machine.swap.Goals as goal
use Rattle.rg_machine.proofs.Enter.Field.{front-lead as lead-front}

pub swap-held-requires-clause-width : goal.swap-held-requires-clause-width
swap-held-requires-clause-width c =
    (may-swap _ _ c.self.view_is c.pop.new.self.items c.in-Some.r c.in-Slot.slot c.args.s c.args.index c.in-Some.ensures.items c.in-Slot.is
    c.is_forest.ensures.serials c.is_forest.ensures.forest c.self.invariant.0 c.self.invariant.1 c.requires.given
    c.word-w.result c.word-w.ensures).0

pub swap-held-requires-clause-place : goal.swap-held-requires-clause-place
swap-held-requires-clause-place c =
    (may-swap _ _ c.self.view_is c.pop.new.self.items c.in-Some.r c.in-Slot.slot c.args.s c.args.index c.in-Some.ensures.items c.in-Slot.is
    c.is_forest.ensures.serials c.is_forest.ensures.forest c.self.invariant.0 c.self.invariant.1 c.requires.given
    c.word-w.result c.word-w.ensures).1

-- what the calls of the heap and the frames came to
all : (c : goal.After-set_word) → Swapped (record {
  heap = c.self.inside.heap;
  frames = c.self.inside.frames;
  words = c.self.inside.stack.items;
  at = c.self.inside.at;
  printed = c.self.inside.printed;
}) c.args.s c.args.index c.swap-held.new.self
    (with_slot c.self.inside.frames c.args.s c.swap-held.result) c.pop.new.self.items
all c =
    swapped _ _ c.self.view_is c.pop.new.self.items c.in-Some.r c.in-Slot.slot c.args.s c.args.index c.in-Some.ensures.items c.in-Slot.is
    c.is_forest.ensures.serials c.is_forest.ensures.forest c.self.invariant.0 c.self.invariant.1 c.requires.given c.word-w.result c.word-w.ensures
    c.swap-held.new.self c.swap-held.result c.swap-held.ensures.value c.swap-held.ensures.heap c.swap-held.ensures.regions

pub invariant_of-self-in-Slot : goal.invariant_of-self-in-Slot
invariant_of-self-in-Slot c = rw c.set_word.ensures ((all c).stands, (all c).lead)

pub invariant_of-self-in-Nil : goal.invariant_of-self-in-Nil
invariant_of-self-in-Nil c =
    let x = c.self.inside in (
      c.self.invariant.0,
      lead-front x.heap x.frames x.stack.items c.pop.new.self.items c.in-Some.r c.in-Some.ensures.items c.self.invariant.1,
    )

pub returns-in-Slot-clause-does : goal.returns-in-Slot-clause-does
returns-in-Slot-clause-does c at =
    record {
      effect = rw (c.set_word.ensures, ← c.self.view_is) ((all c).effect at);
      keeps = rw (c.set_word.ensures, ← c.self.view_is) (all c).backs;
      high =
          rw (← c.self.view_is)
          (none-written c.self.inside.heap c.swap-held.new.self c.in-Slot.slot c.args.index c.word-w.result c.swap-held.ensures.heap);
    }
