use Rattle.rg_tree.specs.Forms as form
use Rattle.rg_reader.proofs.Tokens.{exit}
use Rattle.rg_reader.proofs.Halting.{halts-found, halts-here, halts-row, halts-took, halts-used}
use Rattle.rg_parse.proofs.StmtRows.{swap-row, swap-found}
use Rattle.rg_parse.proofs.rules.statements.swap_row.Goals as goal

pub returns-in_err-take-clause-fault : goal.returns-in_err-take-clause-fault
returns-in_err-take-clause-fault c = exit _ c.from_residual.ensures.1 (halts-row _ _ (swap-row _ c.requires)
    (halts-here _ c.in_err-take.ensures.fault))

pub returns-in_err-name-clause-fault : goal.returns-in_err-name-clause-fault
returns-in_err-name-clause-fault c = exit _ c.from_residual-in_err-name.ensures.1 (halts-row _ _ (swap-row _ c.requires)
    (halts-took _ c.in_ok-take.ensures.ok (halts-here _ c.in_err-name.ensures.fault)))

pub returns-in_err-take-2-clause-fault : goal.returns-in_err-take-2-clause-fault
returns-in_err-take-2-clause-fault c = exit _ c.from_residual-in_err-take-2.ensures.1 (halts-row _ _ (swap-row _ c.requires)
    (halts-took _ c.in_ok-take.ensures.ok (halts-used _ c.in_ok-name.ensures.ok (halts-here _ c.in_err-take-2.ensures.fault))))

pub returns-in_err-path-clause-fault : goal.returns-in_err-path-clause-fault
returns-in_err-path-clause-fault c = exit _ c.from_residual-in_err-path.ensures.1 (halts-row _ _ (swap-row _ c.requires)
    (halts-took _ c.in_ok-take.ensures.ok (halts-used _ c.in_ok-name.ensures.ok (halts-took _ c.in_ok-take-2.ensures.ok
    (halts-here _ c.in_err-path.ensures.fault)))))

pub returns-in_err-take-3-clause-fault : goal.returns-in_err-take-3-clause-fault
returns-in_err-take-3-clause-fault c = exit _ c.from_residual-in_err-take-3.ensures.1 (halts-row _ _ (swap-row _ c.requires)
    (halts-took _ c.in_ok-take.ensures.ok (halts-used _ c.in_ok-name.ensures.ok (halts-took _ c.in_ok-take-2.ensures.ok
    (halts-found form.Path _ tt c.in_ok-path.ensures.ok (halts-here _ c.in_err-take-3.ensures.fault))))))

pub returns-clause-ok : goal.returns-clause-ok
returns-clause-ok c = swap-found c.in_ok-take.ensures.ok c.in_ok-name.ensures.ok c.in_ok-take-2.ensures.ok c.in_ok-path.ensures.ok
    c.in_ok-take-3.ensures.ok
