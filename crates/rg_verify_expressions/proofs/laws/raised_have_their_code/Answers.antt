use Rattle.rg_verify_expressions.proofs.Named.{have-their-code}
use Rattle.rg_verify_expressions.proofs.laws.raised_have_their_code.Goals as goal

pub returns : goal.returns
returns c = have-their-code
