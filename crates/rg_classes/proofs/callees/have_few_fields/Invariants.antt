use Rattle.std.proofs.Common.{◌≡◌, drop}
use Rattle.rg_classes.specs.Order.{have_few_fields}
use Rattle.rg_classes.proofs.callees.have_few_fields.Given as goal

abbrev pub invariant-loop-shape : goal.invariant-loop-shape
invariant-loop-shape l = have_few_fields (drop l.shape-index l.shapes) ≡ have_few_fields l.shapes
