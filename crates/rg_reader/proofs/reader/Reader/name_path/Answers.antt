use Rattle.rg_reader.proofs.Tokens.{exit}
use Rattle.rg_reader.proofs.Halting.{halts-here, halts-row, halts-used}
use Rattle.rg_reader.proofs.PathRows.{name_path-row, name_path-found}
use Rattle.rg_reader.proofs.reader.Reader.name_path.Goals as goal

pub returns-in_err-name-clause-fault : goal.returns-in_err-name-clause-fault
returns-in_err-name-clause-fault c = exit _ c.from_residual.ensures.1 (halts-row _ _ (name_path-row _ c.requires)
    (halts-here _ c.in_err-name.ensures.fault))

pub returns-in_err-fields-clause-fault : goal.returns-in_err-fields-clause-fault
returns-in_err-fields-clause-fault c = exit _ c.from_residual-in_err-fields.ensures.1 (halts-row _ _ (name_path-row _ c.requires)
    (halts-used _ c.in_ok-name.ensures.ok (halts-here _ c.in_err-fields.ensures.fault)))

pub returns-clause-ok : goal.returns-clause-ok
returns-clause-ok c = name_path-found c.in_ok-name.ensures.ok c.in_ok-fields.ensures.ok
