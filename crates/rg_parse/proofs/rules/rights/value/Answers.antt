use Rattle.rg_reader.proofs.Tokens.{exit}
use Rattle.rg_reader.proofs.Halting.{halts-here, halts-row}
use Rattle.rg_parse.proofs.RightRows.{value-row, value-found}
use Rattle.rg_parse.proofs.rules.rights.value.Goals as goal

pub returns-in_err-expr-clause-fault : goal.returns-in_err-expr-clause-fault
returns-in_err-expr-clause-fault c = exit _ c.from_residual.ensures.1 (halts-row _ _ (value-row _ c.requires)
    (halts-here _ c.in_err-expr.ensures.fault))

pub returns-clause-ok : goal.returns-clause-ok
returns-clause-ok c = value-found (value-row _ c.requires) c.in_ok-expr.ensures.ok
