use Rattle.std.proofs.Common.{◌≢◌, arith}
use Rattle.rg_heap_tests.proofs.cargo.comes_back.Goals as goal

pub unload-requires-clause-bridge : goal.unload-requires-clause-bridge
unload-requires-clause-bridge c =
    let next = c.in_ok-add_top.ensures.next in
    let d : c.add_top.new.regions.next ≢ 0 = λ e. omega (arith, e, next) in
    (c.add_top.new.regions.next, d, c.in_ok-bridge.ensures.bridge)
