use Rattle.std.proofs.Common.{refl, arith}
use Rattle.rg_plan.proofs.PieceSteps.{pieces-length}
use Rattle.rg_plan.proofs.reading.read_plan.Goals as goal

pub loop-text-init : goal.loop-text-init
loop-text-init c = record {
  same = rw (c.new-plan.ensures, c.of-lines.ensures) refl;
  line = rw c.of-lines.ensures (omega (arith, pieces-length 10 c.args.bytes.now));
}
