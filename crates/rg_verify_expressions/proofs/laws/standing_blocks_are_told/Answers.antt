use Rattle.rg_verify_expressions.proofs.BlocksAgain.{standing-blocks-are-told}
use Rattle.rg_verify_expressions.proofs.laws.standing_blocks_are_told.Goals as goal

pub returns : goal.returns
returns c = standing-blocks-are-told
