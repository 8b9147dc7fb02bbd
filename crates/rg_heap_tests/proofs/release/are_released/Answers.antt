use Rattle.rg_heap_tests.proofs.TopsMade.{top_unowned}
use Rattle.rg_heap_tests.proofs.release.are_released.Goals as goal

pub release-released-requires-clause-unowned : goal.release-released-requires-clause-unowned
release-released-requires-clause-unowned c =
    let t = c.in_ok-top.ensures.top in
    top_unowned c.add_chain.new.cells c.add_chain.new.regions t.0 c.in_ok-top.top.0 c.in_ok-top.top.1 t.1 t.2
