use Rattle.rg_reader.proofs.Tokens.{exit}
use Rattle.rg_reader.proofs.Halting.{halts-here, halts-row, halts-took}
use Rattle.rg_parse.proofs.RightRows.{freeze-row, freeze-found}
use Rattle.rg_parse.proofs.rules.rights.freeze.Goals as goal

pub returns-in_err-take-clause-fault : goal.returns-in_err-take-clause-fault
returns-in_err-take-clause-fault c = exit _ c.from_residual.ensures.1 (halts-row _ _ (freeze-row _ c.requires)
    (halts-here _ c.in_err-take.ensures.fault))

pub returns-in_err-name-clause-fault : goal.returns-in_err-name-clause-fault
returns-in_err-name-clause-fault c = exit _ c.from_residual-in_err-name.ensures.1 (halts-row _ _ (freeze-row _ c.requires)
    (halts-took _ c.in_ok-take.ensures.ok (halts-here _ c.in_err-name.ensures.fault)))

pub returns-clause-ok : goal.returns-clause-ok
returns-clause-ok c = freeze-found c.in_ok-take.ensures.ok c.in_ok-name.ensures.ok
