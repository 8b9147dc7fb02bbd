use Rattle.rg_verify_expressions.proofs.BlockRaises.{raised-blocks-stand}
use Rattle.rg_verify_expressions.proofs.laws.raised_blocks_stand.Goals as goal

pub returns : goal.returns
returns c = raised-blocks-stand
