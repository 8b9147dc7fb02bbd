use Rattle.rg_reader.proofs.Tokens.{exit}
use Rattle.rg_reader.proofs.Halting.{halts-here, halts-row, halts-took}
use Rattle.rg_parse.proofs.StmtRows.{collect-row, collect-found}
use Rattle.rg_parse.proofs.rules.statements.collect_row.Goals as goal

pub returns-in_err-take-clause-fault : goal.returns-in_err-take-clause-fault
returns-in_err-take-clause-fault c = exit _ c.from_residual.ensures.1 (halts-row _ _ (collect-row _ c.requires)
    (halts-here _ c.in_err-take.ensures.fault))

pub returns-in_err-take-2-clause-fault : goal.returns-in_err-take-2-clause-fault
returns-in_err-take-2-clause-fault c = exit _ c.from_residual-in_err-take-2.ensures.1 (halts-row _ _ (collect-row _ c.requires)
    (halts-took _ c.in_ok-take.ensures.ok (halts-here _ c.in_err-take-2.ensures.fault)))

pub returns-clause-ok : goal.returns-clause-ok
returns-clause-ok c = collect-found c.in_ok-take.ensures.ok c.in_ok-take-2.ensures.ok
