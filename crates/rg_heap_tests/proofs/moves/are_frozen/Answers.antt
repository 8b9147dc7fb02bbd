use Rattle.rg_heap_tests.proofs.TopsMade.{top_closed}
use Rattle.rg_heap_tests.proofs.moves.are_frozen.Goals as goal

pub freeze-requires-clause-closed : goal.freeze-requires-clause-closed
freeze-requires-clause-closed c =
    let t = c.in_ok-top.ensures.top in
    top_closed c.add_chain.new.cells c.add_chain.new.regions t.0 c.in_ok-top.top.0 c.in_ok-top.top.1 t.1 t.2
