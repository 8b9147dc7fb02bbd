use Rattle.rg_base.specs.declared.words.Manager.TheVariants.{Trace}
use Rattle.rg_regions.specs.Grove.{Grove}
use Rattle.rg_regions.specs.Collection.{HasManager}
use Rattle.rg_heap_tests.specs.Traced.{AllTraced}
use Rattle.rg_heap_tests.proofs.collections.add_cells.Given as goal

abbrev pub invariant-loop-to : goal.invariant-loop-to
invariant-loop-to l = Grove l.cells l.regions × HasManager l.regions l.key Trace × AllTraced l.cells l.regions l.key l.slots.items
