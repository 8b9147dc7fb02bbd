use Rattle.rg_top.proofs.Each.{each-runs}
use Rattle.rg_top.proofs.laws.each_runs.Goals as goal

pub returns : goal.returns
returns c = each-runs c.raised_alike.ensures c.at_most_one_module.ensures c.stand_alike.ensures c.same_asks.ensures
