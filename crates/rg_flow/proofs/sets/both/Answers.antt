use Rattle.std.proofs.Common.{rules}
use Rattle.rg_flow.proofs.Set.{both_sets}
use Rattle.rg_flow.proofs.sets.both.Goals as goal

pub returns : goal.returns
returns c = λ v. both_sets c.args.a.now c.args.b.now (search rules) v
