use Rattle.rg_verify_expressions.proofs.ToldStands.{blocks-are-told}
use Rattle.rg_verify_expressions.proofs.laws.blocks_are_told.Goals as goal

pub returns : goal.returns
returns c = blocks-are-told
