use Rattle.std.proofs.Common.{ap}
use Rattle.rg_tree.specs.Forms as form
use Rattle.rg_tree.specs.Phrases as p
use Rattle.rg_tree.specs.Table.{row}
use Rattle.rg_reader.proofs.Tokens.{exit}
use Rattle.rg_reader.proofs.Halting.{halts-found, halts-here, halts-row, halts-took}
use Rattle.rg_parse.proofs.ClassRows.{members_row-found}
use Rattle.rg_parse.proofs.rules.classes.members_row.Goals as goal

pub returns-in_err-take-clause-fault : goal.returns-in_err-take-clause-fault
returns-in_err-take-clause-fault c = exit _ c.from_residual.ensures.1 (halts-row _ _ (ap (row p.ClassRest) c.requires)
    (halts-here _ c.in_err-take.ensures.fault))

pub returns-in_err-members-clause-fault : goal.returns-in_err-members-clause-fault
returns-in_err-members-clause-fault c = exit _ c.from_residual-in_err-members.ensures.1 (halts-row _ _ (ap (row p.ClassRest) c.requires)
    (halts-took _ c.in_ok-take.ensures.ok (halts-here _ c.in_err-members.ensures.fault)))

pub returns-in_err-take-2-clause-fault : goal.returns-in_err-take-2-clause-fault
returns-in_err-take-2-clause-fault c = exit _ c.from_residual-in_err-take-2.ensures.1 (halts-row _ _ (ap (row p.ClassRest) c.requires)
    (halts-took _ c.in_ok-take.ensures.ok (halts-found form.Members _ tt c.in_ok-members.ensures.ok (halts-here _ c.in_err-take-2.ensures.fault))))

pub returns-clause-ok : goal.returns-clause-ok
returns-clause-ok c = members_row-found c.in_ok-take.ensures.ok c.in_ok-members.ensures.ok c.in_ok-take-2.ensures.ok
