use Rattle.std.proofs.Common.{◌∙◌, length}
use Rattle.rg_queues.proofs.Steps.{room-next, room-end}
use Rattle.rg_queues.proofs.last.make_room.Goals as goal

pub loop-n-preserved : goal.loop-n-preserved
loop-n-preserved c = record {
  same = λ n. c.in_ok-reach.ensures.same n ∙ c.loop-n.invariant.same n;
  within = room-next c.args.cowns.now c.loop-n.n-index (length c.loop-n.last.items) (length c.reach.new.last.items) c.in_ok-reach.ensures.grows
      c.in_ok-reach.ensures.within c.loop-n.invariant.within;
}

pub returns-clause-within : goal.returns-clause-within
returns-clause-within c =
    room-end c.args.cowns.now c.loop-n.n-index (length c.loop-n.last.items) c.loop-n-test.false c.loop-n.invariant.within
