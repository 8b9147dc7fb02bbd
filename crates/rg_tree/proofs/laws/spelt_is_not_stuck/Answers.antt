use Rattle.rg_tree.proofs.Stopping.{spelt-not_stuck}
use Rattle.rg_tree.proofs.laws.spelt_is_not_stuck.Goals as goal

pub returns : goal.returns
returns c = spelt-not_stuck
