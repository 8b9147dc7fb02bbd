use Rattle.rg_within.proofs.Whole.{within-limits}
use Rattle.rg_within.proofs.laws.spelt_is_within_limits.Goals as goal

pub returns : goal.returns
returns c = within-limits c.spelt_has_few_names.ensures
