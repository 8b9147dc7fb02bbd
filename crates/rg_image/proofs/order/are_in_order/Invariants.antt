use Rattle.std.proofs.Common.{◌≡◌, suc, drop}
use Rattle.rg_image.specs.Inner.Order.{passes}
use Rattle.rg_image.proofs.order.are_in_order.Given as goal

abbrev pub invariant-loop-k : goal.invariant-loop-k
invariant-loop-k l = passes l.cells l.k (suc l.last.object) (suc l.last.region) (drop l.k l.cells) ≡ passes l.cells 0 1 1 l.cells
