use Rattle.rg_verify_expressions.proofs.Again.{stand-once}
use Rattle.rg_verify_expressions.proofs.laws.expressions_stand_once.Goals as goal

pub returns : goal.returns
returns c = stand-once
