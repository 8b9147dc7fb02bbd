use Rattle.std.proofs.Common.{take}
use Rattle.rg_store.specs.Inner.Found.{FindsToo}
use Rattle.rg_store.proofs.marks.mark_all.Given as goal

abbrev pub invariant-loop-region : goal.invariant-loop-region
invariant-loop-region l = FindsToo l.fn.found l.found (take l.region-index l.regions)
