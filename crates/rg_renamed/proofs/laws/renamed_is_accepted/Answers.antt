use Rattle.rg_renamed.proofs.Whole.{accepted-again}
use Rattle.rg_renamed.proofs.laws.renamed_is_accepted.Goals as goal

pub returns : goal.returns
returns c = accepted-again
