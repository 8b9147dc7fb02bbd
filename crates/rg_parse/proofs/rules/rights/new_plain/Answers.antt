use Rattle.rg_reader.proofs.Tokens.{exit}
use Rattle.rg_reader.proofs.Halting.{halts-here, halts-row, halts-used}
use Rattle.rg_parse.proofs.RightRows.{new_plain-row, new_plain-found}
use Rattle.rg_parse.proofs.rules.rights.new_plain.Goals as goal

pub returns-in_err-name-clause-fault : goal.returns-in_err-name-clause-fault
returns-in_err-name-clause-fault c = exit _ c.from_residual.ensures.1 (halts-row _ _ (new_plain-row _ c.requires)
    (halts-here _ c.in_err-name.ensures.fault))

pub returns-in_err-size-clause-fault : goal.returns-in_err-size-clause-fault
returns-in_err-size-clause-fault c = exit _ c.from_residual-in_err-size.ensures.1 (halts-row _ _ (new_plain-row _ c.requires)
    (halts-used _ c.in_ok-name.ensures.ok (halts-here _ c.in_err-size.ensures.fault)))

pub returns-clause-ok : goal.returns-clause-ok
returns-clause-ok c = new_plain-found c.in_ok-name.ensures.ok c.in_ok-size.ensures.ok
