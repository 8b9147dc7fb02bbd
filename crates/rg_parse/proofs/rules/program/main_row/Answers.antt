use Rattle.std.proofs.Common.{ap}
use Rattle.rg_tree.specs.Forms as form
use Rattle.rg_tree.specs.Phrases as p
use Rattle.rg_tree.specs.Table.{row}
use Rattle.rg_reader.proofs.Tokens.{exit}
use Rattle.rg_reader.proofs.Halting.{halts-found, halts-here, halts-row, halts-took}
use Rattle.rg_parse.proofs.ProgramRows.{main-found}
use Rattle.rg_reader.proofs.Growing.{found-there}
use Rattle.rg_parse.proofs.rules.program.main_row.Goals as goal

pub returns-in_err-take-clause-fault : goal.returns-in_err-take-clause-fault
returns-in_err-take-clause-fault c = exit _ c.from_residual.ensures.1 (halts-row _ _ (ap (row p.Program) c.requires)
    (halts-here _ c.in_err-take.ensures.fault))

pub returns-in_err-manager-clause-fault : goal.returns-in_err-manager-clause-fault
returns-in_err-manager-clause-fault c = exit _ c.from_residual-in_err-manager.ensures.1 (halts-row _ _ (ap (row p.Program) c.requires)
    (halts-took _ c.in_ok-take.ensures.ok (halts-here _ c.in_err-manager.ensures.fault)))

pub returns-in_err-body-clause-fault : goal.returns-in_err-body-clause-fault
returns-in_err-body-clause-fault c = exit _ c.from_residual-in_err-body.ensures.1 (halts-row _ _ (ap (row p.Program) c.requires)
    (halts-took _ c.in_ok-take.ensures.ok (halts-found form.Manager _ tt c.in_ok-manager.ensures.ok (halts-here _ c.in_err-body.ensures.fault))))

pub returns-clause-ok : goal.returns-clause-ok
returns-clause-ok c = main-found _ _ c.line-line.ensures c.in_ok-take.ensures.ok c.in_ok-manager.ensures.ok c.in_ok-body.ensures.ok
    c.in_ok-finish.ensures.ok c.set_main.ensures

pub returns-in_err-finish-clause-fault : goal.returns-in_err-finish-clause-fault
returns-in_err-finish-clause-fault c =
    exit _ c.from_residual-in_err-finish.ensures.1 (halts-row _ _ (ap (row p.Program) c.requires) (halts-took _ c.in_ok-take.ensures.ok
    (halts-found form.Manager _ tt c.in_ok-manager.ensures.ok (halts-found form.Block _ tt c.in_ok-body.ensures.ok c.in_err-finish.ensures.fault))))

pub set_main-requires : goal.set_main-requires
set_main-requires c = found-there c.in_ok-body.ensures.ok
