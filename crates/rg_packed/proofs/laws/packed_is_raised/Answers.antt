use Rattle.rg_packed.proofs.Whole.{is-raised}
use Rattle.rg_packed.proofs.laws.packed_is_raised.Goals as goal

pub returns : goal.returns
returns c = is-raised c.spelt_is_within_limits.ensures c.modules_are_raised.ensures
