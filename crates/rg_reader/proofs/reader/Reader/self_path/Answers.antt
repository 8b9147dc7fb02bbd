use Rattle.rg_reader.proofs.Tokens.{exit}
use Rattle.rg_reader.proofs.Halting.{halts-here, halts-row, halts-took}
use Rattle.rg_reader.proofs.PathRows.{self_path-row, self_path-found}
use Rattle.rg_reader.proofs.reader.Reader.self_path.Goals as goal

pub returns-in_err-take-clause-fault : goal.returns-in_err-take-clause-fault
returns-in_err-take-clause-fault c = exit _ c.from_residual.ensures.1 (halts-row _ _ (self_path-row _ c.requires)
    (halts-here _ c.in_err-take.ensures.fault))

pub returns-in_err-fields-clause-fault : goal.returns-in_err-fields-clause-fault
returns-in_err-fields-clause-fault c = exit _ c.from_residual-in_err-fields.ensures.1 (halts-row _ _ (self_path-row _ c.requires)
    (halts-took _ c.in_ok-take.ensures.ok (halts-here _ c.in_err-fields.ensures.fault)))

pub returns-clause-ok : goal.returns-clause-ok
returns-clause-ok c = self_path-found c.in_ok-take.ensures.ok c.in_ok-fields.ensures.ok
