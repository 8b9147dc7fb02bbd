use Rattle.rg_limits.proofs.TreeTexts.{opens-so}
use Rattle.rg_limits.proofs.laws.opens_are_brackets.Goals as goal

pub returns : goal.returns
returns c = opens-so
