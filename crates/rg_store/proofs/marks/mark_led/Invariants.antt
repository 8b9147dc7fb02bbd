use Rattle.std.proofs.Common.{flat_map, take, drop}
use Rattle.rg_store.specs.Links.{listed}
use Rattle.rg_store.specs.Inner.Found.{FindsToo}
use Rattle.rg_store.proofs.marks.mark_led.Given as goal

abbrev pub invariant-loop-i : goal.invariant-loop-i
invariant-loop-i l = FindsToo l.fn.found l.found (flat_map (listed l.led) (drop l.done (take l.i l.fn.found.regions.items)))
