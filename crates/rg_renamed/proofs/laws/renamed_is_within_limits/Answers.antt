use Rattle.rg_renamed.proofs.Opens.{within-again}
use Rattle.rg_renamed.proofs.laws.renamed_is_within_limits.Goals as goal

pub returns : goal.returns
returns c = within-again
