use Rattle.std.proofs.Common.{arith, refl}
use Rattle.rg_step.proofs.Locals.{blank-new}
use Rattle.rg_step.proofs.stepper.Stepper.new.Goals as goal

pub invariant_of-result : goal.invariant_of-result
invariant_of-result c = (record { words = refl; printed = refl }, blank-new 258 c.new-3.result (omega arith) c.new-3.ensures)
