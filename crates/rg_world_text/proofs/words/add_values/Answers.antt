use Rattle.std.proofs.Common.{sym, arith}
use Rattle.rg_world_text.proofs.Lines.{there, text-next, text-end}
use Rattle.rg_world_text.proofs.words.add_values.Goals as goal

pub unreachable-requires : goal.unreachable-requires
unreachable-requires c =
    there c.args.values.now c.loop-k.k (omega (arith, c.loop-k-test.true, c.len-k-end.ensures)) (sym c.in_default.ensures)

pub loop-k-preserved : goal.loop-k-preserved
loop-k-preserved c =
    text-next c.args.values.now c.loop-k.k c.in-Some.v c.loop-k.line c.add_value.new.line _ (sym c.in-Some.ensures) c.loop-k.invariant
    c.in_ok-add_value.ensures

pub returns : goal.returns
returns c =
    text-end c.args.values.now c.loop-k.k c.loop-k.line _ (omega (arith, c.loop-k-test.false, c.len-k-end.ensures)) c.loop-k.invariant
