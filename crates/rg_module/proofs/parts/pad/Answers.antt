use Rattle.std.proofs.Common.{arith}
use Rattle.rg_module.proofs.Filling.{padded-start, padded-more}
use Rattle.rg_module.proofs.parts.pad.Goals as goal

pub loop-alloc-init : goal.loop-alloc-init
loop-alloc-init c = λ n lt le. padded-start n c.args.maps.now.items le

pub loop-alloc-preserved : goal.loop-alloc-preserved
loop-alloc-preserved c =
    λ n lt le. rw (c.in-Ok.ensures.items, c.new.ensures)
    (padded-more n c.args.at c.args.maps.now.items c.loop-alloc.maps.items (omega arith) lt (c.loop-alloc.invariant n lt le))
