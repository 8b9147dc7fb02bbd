use Rattle.std.proofs.Common.{drop}
use Rattle.rg_module.proofs.Bodies.{Entered}
use Rattle.rg_module.proofs.follows.add_entries.Given as goal

abbrev pub invariant-loop-head : goal.invariant-loop-head
invariant-loop-head l = Entered l.fn.code l.from l.heads l.code l.at (drop l.head-index l.heads)
