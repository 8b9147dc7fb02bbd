use Rattle.rg_tree.specs.Forms as form
use Rattle.rg_reader.proofs.Tokens.{exit}
use Rattle.rg_reader.proofs.Halting.{halts-found, halts-here, halts-row, halts-took}
use Rattle.rg_parse.proofs.StmtRows.{assign-row, assign-found, assign-some}
use Rattle.rg_parse.proofs.rules.statements.assign_row.Goals as goal

pub returns-in_err-path-clause-fault : goal.returns-in_err-path-clause-fault
returns-in_err-path-clause-fault c = exit _ c.from_residual.ensures.1 (halts-row _ _ (assign-row _ c.requires)
    (halts-here _ c.in_err-path.ensures.fault))

pub returns-in_err-index-clause-fault : goal.returns-in_err-index-clause-fault
returns-in_err-index-clause-fault c = exit _ c.from_residual-in_err-index.ensures.1 (halts-row _ _ (assign-row _ c.requires)
    (halts-found form.Path _ tt c.in_ok-path.ensures.ok (halts-here _ c.in_err-index.ensures.fault)))

pub returns-in_err-take-clause-fault : goal.returns-in_err-take-clause-fault
returns-in_err-take-clause-fault c = exit _ c.from_residual-in_err-take.ensures.1 (halts-row _ _ (assign-row _ c.requires)
    (halts-found form.Path _ tt c.in_ok-path.ensures.ok (halts-found form.At _ tt c.in_ok-index.ensures.ok
    (halts-here _ c.in_err-take.ensures.fault))))

pub returns-in_err-right-clause-fault : goal.returns-in_err-right-clause-fault
returns-in_err-right-clause-fault c = exit _ c.from_residual-in_err-right.ensures.1 (halts-row _ _ (assign-row _ c.requires)
    (halts-found form.Path _ tt c.in_ok-path.ensures.ok (halts-found form.At _ tt c.in_ok-index.ensures.ok
    (halts-took _ c.in_ok-take.ensures.ok (halts-here _ c.in_err-right.ensures.fault)))))

pub returns-in_err-take-2-clause-fault : goal.returns-in_err-take-2-clause-fault
returns-in_err-take-2-clause-fault c = exit _ c.from_residual-in_err-take-2.ensures.1 (halts-row _ _ (assign-row _ c.requires)
    (halts-found form.Path _ tt c.in_ok-path.ensures.ok (halts-found form.At _ tt c.in_ok-index.ensures.ok
    (halts-took _ c.in_ok-take.ensures.ok (halts-found form.Right _ tt c.in_ok-right.ensures.ok (halts-here _ c.in_err-take-2.ensures.fault))))))

pub returns-clause-ok : goal.returns-clause-ok
returns-clause-ok c = rw c.set_row.ensures (assign-found
    (assign-some _ c.requires) c.in_ok-path.ensures.ok c.in_ok-index.ensures.ok c.in_ok-take.ensures.ok c.in_ok-right.ensures.ok
    c.in_ok-take-2.ensures.ok)
