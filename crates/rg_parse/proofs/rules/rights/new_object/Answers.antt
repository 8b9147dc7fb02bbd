use Rattle.rg_reader.proofs.Tokens.{exit}
use Rattle.rg_reader.proofs.Halting.{halts-here, halts-row, halts-took}
use Rattle.rg_parse.proofs.RightRows.{new-row, new-found}
use Rattle.rg_parse.proofs.rules.rights.new_object.Goals as goal

pub returns-in_err-take-clause-fault : goal.returns-in_err-take-clause-fault
returns-in_err-take-clause-fault c = exit _ c.from_residual.ensures.1 (halts-row _ _ (new-row _ c.requires)
    (halts-here _ c.in_err-take.ensures.fault))

pub returns-in_err-right-clause-fault : goal.returns-in_err-right-clause-fault
returns-in_err-right-clause-fault c = exit _ c.from_residual-in_err-right.ensures.1 (halts-row _ _ (new-row _ c.requires)
    (halts-took _ c.in_ok-take.ensures.ok (halts-here _ c.in_err-right.ensures.fault)))

pub returns-clause-ok : goal.returns-clause-ok
returns-clause-ok c = new-found c.in_ok-take.ensures.ok c.in_ok-right.ensures.ok
