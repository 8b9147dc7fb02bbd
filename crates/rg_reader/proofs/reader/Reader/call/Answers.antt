use Rattle.std.proofs.Common.{ap}
use Rattle.rg_tree.specs.Forms as form
use Rattle.rg_tree.specs.Phrases as p
use Rattle.rg_tree.specs.Table.{row}
use Rattle.rg_reader.proofs.Tokens.{exit}
use Rattle.rg_reader.proofs.Halting.{halts-found, halts-here, halts-row, halts-took, halts-used}
use Rattle.rg_reader.proofs.PathRows.{call-found, base-there, name-there}
use Rattle.rg_reader.proofs.reader.Reader.call.Goals as goal

pub returns-in_err-take-clause-fault : goal.returns-in_err-take-clause-fault
returns-in_err-take-clause-fault c = exit _ c.from_residual.ensures.1 (halts-row _ _ (ap (row p.Call) c.requires)
    (halts-here _ c.in_err-take.ensures.fault))

pub returns-in_err-base-clause-fault : goal.returns-in_err-base-clause-fault
returns-in_err-base-clause-fault c = exit _ c.from_residual-in_err-base.ensures.1 (halts-row _ _ (ap (row p.Call) c.requires)
    (halts-took _ c.in_ok-take.ensures.ok (halts-here _ c.in_err-base.ensures.fault)))

pub returns-in_err-take-2-clause-fault : goal.returns-in_err-take-2-clause-fault
returns-in_err-take-2-clause-fault c = exit _ c.from_residual-in_err-take-2.ensures.1 (halts-row _ _ (ap (row p.Call) c.requires)
    (halts-took _ c.in_ok-take.ensures.ok (halts-found form.CallBase _ tt c.in_ok-base.ensures.ok (halts-here _ c.in_err-take-2.ensures.fault))))

pub returns-in_err-name-clause-fault : goal.returns-in_err-name-clause-fault
returns-in_err-name-clause-fault c = exit _ c.from_residual-in_err-name.ensures.1 (halts-row _ _ (ap (row p.Call) c.requires)
    (halts-took _ c.in_ok-take.ensures.ok (halts-found form.CallBase _ tt c.in_ok-base.ensures.ok (halts-took _ c.in_ok-take-2.ensures.ok
    (halts-here _ c.in_err-name.ensures.fault)))))

pub returns-in_err-call-clause-fault : goal.returns-in_err-call-clause-fault
returns-in_err-call-clause-fault c = exit _ c.from_residual-in_err-call.ensures.1 (halts-row _ _ (ap (row p.Call) c.requires)
    (halts-took _ c.in_ok-take.ensures.ok (halts-found form.CallBase _ tt c.in_ok-base.ensures.ok (halts-took _ c.in_ok-take-2.ensures.ok
    (halts-used _ c.in_ok-name.ensures.ok (halts-here _ c.in_err-call.ensures.fault))))))

pub returns-clause-ok : goal.returns-clause-ok
returns-clause-ok c = call-found c.in_ok-take.ensures.ok c.in_ok-base.ensures.ok c.in_ok-take-2.ensures.ok c.in_ok-name.ensures.ok
    c.in_ok-call.ensures.ok

pub call_rest-requires-clause-base : goal.call_rest-requires-clause-base
call_rest-requires-clause-base c = base-there c.in_ok-base.ensures.ok c.in_ok-take-2.ensures.ok c.in_ok-name.ensures.ok

pub call_rest-requires-clause-first : goal.call_rest-requires-clause-first
call_rest-requires-clause-first c = name-there c.in_ok-name.ensures.ok
