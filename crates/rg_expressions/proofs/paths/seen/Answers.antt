use Rattle.std.specs.Prelude.{◌==◌}
use Rattle.rg_expressions.proofs.PathSteps.{IsKnown-seen}
use Rattle.rg_expressions.proofs.paths.seen.Goals as goal

pub returns-clause-known : goal.returns-clause-known
returns-clause-known c classes h =
    rw c.seen.ensures (IsKnown-seen classes (c.args.found.now.depth == c.args.env.now.depth) c.args.found.now.ty h)
