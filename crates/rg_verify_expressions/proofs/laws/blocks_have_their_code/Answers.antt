use Rattle.rg_verify_expressions.proofs.NamedBlocks.{blocks-have-their-code}
use Rattle.rg_verify_expressions.proofs.laws.blocks_have_their_code.Goals as goal

pub returns : goal.returns
returns c = blocks-have-their-code
