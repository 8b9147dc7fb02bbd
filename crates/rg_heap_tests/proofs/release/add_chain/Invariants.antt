use Rattle.std.proofs.Common.{◌<◌}
use Rattle.rg_regions.specs.Grove.{Grove}
use Rattle.rg_heap_tests.specs.Tops.{IsAbove}
use Rattle.rg_heap_tests.proofs.release.add_chain.Given as goal

abbrev pub invariant-deeper : goal.invariant-deeper
invariant-deeper l = Grove l.cells l.regions × IsAbove l.cells l.regions l.top.0 l.top.1 × (0 < l.regions.next)
