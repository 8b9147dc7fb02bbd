use Rattle.std.proofs.Common.{arith}
use Rattle.rg_tests.proofs.Worlds.{behaviours-are, cowns-are}
use Rattle.rg_tests.proofs.paths.runs_with_it.Goals as goal

pub state-requires : goal.state-requires
state-requires c = let b = c.requires.behind in omega (arith, c.requires.behaviours, behaviours-are b.0 b.1 c.args.plan.now b.2 b.3 c.args.world.now b.4)

pub turns-requires : goal.turns-requires
turns-requires c = let b = c.requires.behind in omega (arith, c.requires.behaviours, behaviours-are b.0 b.1 c.args.plan.now b.2 b.3 c.args.world.now b.4)

pub content-requires : goal.content-requires
content-requires c = let b = c.requires.behind in omega (arith, c.requires.cowns, cowns-are b.0 b.1 c.args.plan.now b.2 b.3 c.args.world.now b.4)
