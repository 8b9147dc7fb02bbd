use Rattle.rg_reader.proofs.Tokens.{exit}
use Rattle.rg_reader.proofs.Halting.{halts-here, halts-row}
use Rattle.rg_reader.proofs.PathRows.{self_base-row, self_base-found}
use Rattle.rg_reader.proofs.reader.Reader.self_base.Goals as goal

pub returns-in_err-take-clause-fault : goal.returns-in_err-take-clause-fault
returns-in_err-take-clause-fault c = exit _ c.from_residual.ensures.1 (halts-row _ _ (self_base-row _ c.requires)
    (halts-here _ c.in_err-take.ensures.fault))

pub returns-clause-ok : goal.returns-clause-ok
returns-clause-ok c = self_base-found c.in_ok-take.ensures.ok
