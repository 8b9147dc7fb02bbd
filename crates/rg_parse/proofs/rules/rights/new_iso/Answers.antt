use Rattle.rg_tree.specs.Forms as form
use Rattle.rg_reader.proofs.Tokens.{exit}
use Rattle.rg_reader.proofs.Halting.{halts-found, halts-here, halts-row, halts-took, halts-used}
use Rattle.rg_parse.proofs.RightRows.{new_iso-row, new_iso-found}
use Rattle.rg_parse.proofs.rules.rights.new_iso.Goals as goal

pub returns-in_err-take-clause-fault : goal.returns-in_err-take-clause-fault
returns-in_err-take-clause-fault c = exit _ c.from_residual.ensures.1 (halts-row _ _ (new_iso-row _ c.requires)
    (halts-here _ c.in_err-take.ensures.fault))

pub returns-in_err-name-clause-fault : goal.returns-in_err-name-clause-fault
returns-in_err-name-clause-fault c = exit _ c.from_residual-in_err-name.ensures.1 (halts-row _ _ (new_iso-row _ c.requires)
    (halts-took _ c.in_ok-take.ensures.ok (halts-here _ c.in_err-name.ensures.fault)))

pub returns-in_err-size-clause-fault : goal.returns-in_err-size-clause-fault
returns-in_err-size-clause-fault c = exit _ c.from_residual-in_err-size.ensures.1 (halts-row _ _ (new_iso-row _ c.requires)
    (halts-took _ c.in_ok-take.ensures.ok (halts-used _ c.in_ok-name.ensures.ok (halts-here _ c.in_err-size.ensures.fault))))

pub returns-in_err-take-2-clause-fault : goal.returns-in_err-take-2-clause-fault
returns-in_err-take-2-clause-fault c = exit _ c.from_residual-in_err-take-2.ensures.1 (halts-row _ _ (new_iso-row _ c.requires)
    (halts-took _ c.in_ok-take.ensures.ok (halts-used _ c.in_ok-name.ensures.ok (halts-found form.At _ tt c.in_ok-size.ensures.ok
    (halts-here _ c.in_err-take-2.ensures.fault)))))

pub returns-in_err-manager-clause-fault : goal.returns-in_err-manager-clause-fault
returns-in_err-manager-clause-fault c = exit _ c.from_residual-in_err-manager.ensures.1 (halts-row _ _ (new_iso-row _ c.requires)
    (halts-took _ c.in_ok-take.ensures.ok (halts-used _ c.in_ok-name.ensures.ok (halts-found form.At _ tt c.in_ok-size.ensures.ok
    (halts-took _ c.in_ok-take-2.ensures.ok (halts-here _ c.in_err-manager.ensures.fault))))))

pub returns-clause-ok : goal.returns-clause-ok
returns-clause-ok c = new_iso-found c.in_ok-take.ensures.ok c.in_ok-name.ensures.ok c.in_ok-size.ensures.ok c.in_ok-take-2.ensures.ok
    c.in_ok-manager.ensures.ok
