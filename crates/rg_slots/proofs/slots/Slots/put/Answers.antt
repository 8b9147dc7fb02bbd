use Rattle.std.specs.Vec.Iter.{into_iter_items}
use Rattle.rg_slots.proofs.Taken.{next-is, put-step}
use Rattle.rg_slots.proofs.slots.Slots.put.Goals as goal

pub loop-n-preserved : goal.loop-n-preserved
loop-n-preserved c =
    put-step c.args.cowns.now c.args.contents.items c.args.self.now c.loop-n.n-index (into_iter_items c.loop-n.rest) (into_iter_items c.next.new.self)
    c.loop-n.self-inside.slots.items c.next.result c.slot_or_empty-slot.result c.loop-n-test.true c.loop-n.invariant
    (next-is c.loop-n.rest c.next.new.self c.next.result c.loop-n.rest.rest.ok.0 c.next.new.self.rest.ok.0 c.next.ensures.cases)
    c.slot_or_empty-slot.ensures
