use Rattle.std.proofs.Common.{◌≢◌, arith}
use Rattle.rg_heap_tests.proofs.TopsMade.{first_takes}
use Rattle.rg_heap_tests.proofs.moves.goes_into_first.Goals as goal

pub merge-requires-clause-into : goal.merge-requires-clause-into
merge-requires-clause-into c =
    let d : c.add_top-2.new.regions.next ≢ 0 = λ e. omega (arith, e, c.in_ok-beneath.ensures.next) in
    first_takes c.add_top-3.new.cells c.add_top-3.new.regions c.add_top-2.new.regions.next c.in_ok-top.top.0 c.in-Some.first
    c.in_ok-top.ensures.grove d c.in_ok-top.ensures.top.has c.in-Some.ensures.some
