use Rattle.std.proofs.Common.{rules}
use Rattle.rg_flow.proofs.Set.{without_sets}
use Rattle.rg_flow.proofs.sets.without.Goals as goal

pub returns : goal.returns
returns c = λ v. without_sets c.args.a.now c.args.b.now (search rules) (search rules) (search rules) (search rules) (search rules) v
