use Rattle.std.proofs.Common.{◌∙◌}
use Rattle.rg_slots.proofs.Taken.{take-step}
use Rattle.rg_slots.proofs.slots.Slots.take.Goals as goal

pub loop-n-preserved : goal.loop-n-preserved
loop-n-preserved c =
    take-step c.args.cowns.now c.args.self.now c.loop-n.n-index c.loop-n.taken.items c.loop-n.self-inside.slots.items c.push.new.self.items
    c.replace-slot.result _ c.replace-slot.new.dest c.loop-n-test.true c.loop-n.invariant c.requires.below c.in-Ok.ensures.items
    (c.replace-slot.ensures.value ∙ c.index_mut.ensures.value) c.replace-slot.ensures.after
