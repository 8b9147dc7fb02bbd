use Rattle.std.proofs.Common.{ap}
use Rattle.rg_tree.specs.Forms as form
use Rattle.rg_reader.specs.declared.reader.limits.Role.TheVariants as role
use Rattle.rg_tree.specs.Phrases as p
use Rattle.rg_tree.specs.Table.{row}
use Rattle.rg_reader.proofs.Tokens.{exit}
use Rattle.rg_reader.proofs.Halting.{halts-declared, halts-found, halts-here, halts-row, halts-took}
use Rattle.rg_parse.proofs.ClassRows.{field-found}
use Rattle.rg_parse.proofs.rules.classes.field_row.Goals as goal

pub returns-in_err-name-clause-fault : goal.returns-in_err-name-clause-fault
returns-in_err-name-clause-fault c = exit _ c.from_residual.ensures.1 (halts-row _ _ (ap (row p.Members) c.requires)
    (halts-here _ c.in_err-name.ensures.fault))

pub returns-in_err-take-clause-fault : goal.returns-in_err-take-clause-fault
returns-in_err-take-clause-fault c = exit _ c.from_residual-in_err-take.ensures.1 (halts-row _ _ (ap (row p.Members) c.requires)
    (halts-declared role.Field _ c.in_ok-name.ensures.ok (halts-here _ c.in_err-take.ensures.fault)))

pub returns-in_err-ty-clause-fault : goal.returns-in_err-ty-clause-fault
returns-in_err-ty-clause-fault c = exit _ c.from_residual-in_err-ty.ensures.1 (halts-row _ _ (ap (row p.Members) c.requires)
    (halts-declared role.Field _ c.in_ok-name.ensures.ok (halts-took _ c.in_ok-take.ensures.ok (halts-here _ c.in_err-ty.ensures.fault))))

pub returns-in_err-take-2-clause-fault : goal.returns-in_err-take-2-clause-fault
returns-in_err-take-2-clause-fault c = exit _ c.from_residual-in_err-take-2.ensures.1 (halts-row _ _ (ap (row p.Members) c.requires)
    (halts-declared role.Field _ c.in_ok-name.ensures.ok (halts-took _ c.in_ok-take.ensures.ok (halts-found form.Type' _ tt c.in_ok-ty.ensures.ok
    (halts-here _ c.in_err-take-2.ensures.fault)))))

pub returns-clause-ok : goal.returns-clause-ok
returns-clause-ok c = field-found _ c.line-line.ensures c.in_ok-name.ensures.ok c.in_ok-take.ensures.ok c.in_ok-ty.ensures.ok
    c.in_ok-take-2.ensures.ok
