use Rattle.rg_reader.proofs.Tokens.{exit}
use Rattle.rg_reader.proofs.Halting.{halts-here, halts-row}
use Rattle.rg_reader.proofs.PathRows.{name_base-row, name_base-found}
use Rattle.rg_reader.proofs.reader.Reader.name_base.Goals as goal

pub returns-in_err-name-clause-fault : goal.returns-in_err-name-clause-fault
returns-in_err-name-clause-fault c = exit _ c.from_residual.ensures.1 (halts-row _ _ (name_base-row _ c.requires)
    (halts-here _ c.in_err-name.ensures.fault))

pub returns-clause-ok : goal.returns-clause-ok
returns-clause-ok c = name_base-found c.in_ok-name.ensures.ok
