use Rattle.rg_tree.specs.Forms as form
use Rattle.rg_reader.proofs.Tokens.{exit}
use Rattle.rg_reader.proofs.Halting.{halts-found, halts-here, halts-row}
use Rattle.rg_parse.proofs.StmtRows.{call-row, call-found, call-some}
use Rattle.rg_parse.proofs.rules.statements.call_row.Goals as goal

pub returns-in_err-call-clause-fault : goal.returns-in_err-call-clause-fault
returns-in_err-call-clause-fault c = exit _ c.from_residual.ensures.1 (halts-row _ _ (call-row _ c.requires)
    (halts-here _ c.in_err-call.ensures.fault))

pub returns-in_err-take-clause-fault : goal.returns-in_err-take-clause-fault
returns-in_err-take-clause-fault c = exit _ c.from_residual-in_err-take.ensures.1 (halts-row _ _ (call-row _ c.requires)
    (halts-found form.Call _ tt c.in_ok-call.ensures.ok (halts-here _ c.in_err-take.ensures.fault)))

pub returns-clause-ok : goal.returns-clause-ok
returns-clause-ok c = call-found (call-some _ c.requires) c.in_ok-call.ensures.ok c.in_ok-take.ensures.ok
