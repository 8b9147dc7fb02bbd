use Rattle.rg_check.proofs.BlockSteps.{last_of-more}
use Rattle.rg_check.proofs.statements.last_of.Goals as goal

pub returns-in-len1-up-clause-last : goal.returns-in-len1-up-clause-last
returns-in-len1-up-clause-last c = λ at. last_of-more c.args.result_type at c.args.others.now c.in-len1-up.len_at_least
