use Rattle.std.proofs.Common.{[], ◌∷◌, ◌++◌, arith}
use Rattle.rg_tree.specs.Rows.RowTrees.{program_of}
use Rattle.rg_tests.proofs.Worlds.{cowns-are}
use Rattle.rg_tests.proofs.paths.is_taken.Goals as goal

pub content-requires : goal.content-requires
content-requires c =
    let there = cowns-are (program_of c.args.two.accepted.program) c.in_ok-code.code c.args.two.plan c.args.two.images.items [] c.in_ok-first.first
    (c.in_ok-first.ensures c.in_ok-code.code c.in_ok-code.ensures) in
    omega (arith, c.if-cowns-eq0.false, c.cowns.ensures, there)

pub event-requires-clause-behind : goal.event-requires-clause-behind
event-requires-clause-behind c = (c.args.two.images.items, [], c.in_ok-first.ensures c.in_ok-code.code c.in_ok-code.ensures)

pub runs_with_it-requires-clause-behind : goal.runs_with_it-requires-clause-behind
runs_with_it-requires-clause-behind c = (
  program_of c.args.two.accepted.program,
  c.in_ok-code.code,
  c.args.two.images.items,
  [] ++ 0 ∷ [],
  c.in_ok-world.ensures.shows c.args.two.images.items [] (c.in_ok-first.ensures c.in_ok-code.code c.in_ok-code.ensures),
)
