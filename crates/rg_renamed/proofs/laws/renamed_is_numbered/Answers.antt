use Rattle.rg_renamed.proofs.Numbered.{renamed-numbered}
use Rattle.rg_renamed.proofs.laws.renamed_is_numbered.Goals as goal

pub returns : goal.returns
returns c = renamed-numbered
