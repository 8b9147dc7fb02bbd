use Rattle.std.proofs.Common.{ap}
use Rattle.rg_reader.specs.declared.reader.limits.Role.TheVariants as role
use Rattle.rg_tree.specs.Phrases as p
use Rattle.rg_tree.specs.Table.{row}
use Rattle.rg_reader.proofs.Tokens.{exit}
use Rattle.rg_reader.proofs.Halting.{halts-declared, halts-here, halts-row, halts-took}
use Rattle.rg_parse.proofs.ClassRows.{class-found}
use Rattle.rg_parse.proofs.rules.classes.class_row.Goals as goal

pub returns-in_err-take-clause-fault : goal.returns-in_err-take-clause-fault
returns-in_err-take-clause-fault c = exit _ c.from_residual.ensures.1 (halts-row _ _ (ap (row p.Class) c.requires)
    (halts-here _ c.in_err-take.ensures.fault))

pub returns-in_err-name-clause-fault : goal.returns-in_err-name-clause-fault
returns-in_err-name-clause-fault c = exit _ c.from_residual-in_err-name.ensures.1 (halts-row _ _ (ap (row p.Class) c.requires)
    (halts-took _ c.in_ok-take.ensures.ok (halts-here _ c.in_err-name.ensures.fault)))

pub returns-in_err-rest-clause-fault : goal.returns-in_err-rest-clause-fault
returns-in_err-rest-clause-fault c = exit _ c.from_residual-in_err-rest.ensures.1 (halts-row _ _ (ap (row p.Class) c.requires)
    (halts-took _ c.in_ok-take.ensures.ok (halts-declared role.Class _ c.in_ok-name.ensures.ok (halts-here _ c.in_err-rest.ensures.fault))))

pub returns-clause-ok : goal.returns-clause-ok
returns-clause-ok c = class-found _ c.line-line.ensures c.in_ok-take.ensures.ok c.in_ok-name.ensures.ok c.in_ok-rest.ensures.ok
