use Rattle.rg_reader.proofs.Tokens.{exit}
use Rattle.rg_reader.proofs.Halting.{halts-here, halts-row}
use Rattle.rg_parse.proofs.RightRows.{call-row, call_right-found}
use Rattle.rg_parse.proofs.rules.rights.call_right.Goals as goal

pub returns-in_err-call-clause-fault : goal.returns-in_err-call-clause-fault
returns-in_err-call-clause-fault c = exit _ c.from_residual.ensures.1 (halts-row _ _ (call-row _ c.requires)
    (halts-here _ c.in_err-call.ensures.fault))

pub returns-clause-ok : goal.returns-clause-ok
returns-clause-ok c = call_right-found c.in_ok-call.ensures.ok
