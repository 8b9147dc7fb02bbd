use Rattle.std.proofs.Common.{arith}
use Rattle.rg_io.proofs.Content.{Appends-taken, AppendsPart-taken}
use Rattle.rg_io.proofs.sink.put_all.Goals as goal

pub loop-at-preserved : goal.loop-at-preserved
loop-at-preserved g c = record {
  within = omega (arith, c.in-Ok.ensures.some);
  took = Appends-taken _ _ _ c.loop-at.at c.in-Ok.n c.args.bytes.now c.loop-at.invariant.took c.in-Ok.ensures.took;
  never_falls = omega arith;
}

pub returns-in-Err-clause-part : goal.returns-in-Err-clause-part
returns-in-Err-clause-part g c =
    AppendsPart-taken _ _ _ c.loop-at.at c.args.bytes.now c.loop-at.invariant.took c.in-Err.ensures.kept
