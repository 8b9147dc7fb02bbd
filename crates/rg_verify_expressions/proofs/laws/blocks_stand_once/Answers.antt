use Rattle.rg_verify_expressions.proofs.BlocksAgain.{blocks-stand-once}
use Rattle.rg_verify_expressions.proofs.laws.blocks_stand_once.Goals as goal

pub returns : goal.returns
returns c = blocks-stand-once
