use Rattle.std.proofs.Common.{Some, get_or, ◌∙◌}
use Rattle.std.proofs.lemmas.List.{length-set}
use Rattle.rg_queues.proofs.Steps.{written-next, written-end}
use Rattle.rg_queues.proofs.last.write_last.Goals as goal

pub loop-n-preserved : goal.loop-n-preserved
loop-n-preserved c = record {
  written_are = written-next c.args.cowns.now c.loop-n.n-index c.args.number c.loop-n.last.items c.args.last.now.items c.loop-n-test.true
      c.loop-n.invariant.written_are;
  many = length-set c.loop-n.last.items (get_or c.args.cowns.now c.loop-n.n-index 0) (Some c.args.number) ∙ c.loop-n.invariant.many;
}

pub returns : goal.returns
returns c =
    written-end c.args.cowns.now c.loop-n.n-index c.args.number c.loop-n.last.items c.args.last.now.items c.loop-n-test.false
    c.loop-n.invariant.written_are
