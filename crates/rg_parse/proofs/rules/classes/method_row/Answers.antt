use Rattle.std.proofs.Common.{ap}
use Rattle.rg_tree.specs.Forms as form
use Rattle.rg_reader.specs.declared.reader.limits.Role.TheVariants as role
use Rattle.rg_tree.specs.Phrases as p
use Rattle.rg_tree.specs.Table.{row}
use Rattle.rg_reader.proofs.Tokens.{exit}
use Rattle.rg_reader.proofs.Halting.{halts-declared, halts-found, halts-here, halts-row, halts-took}
use Rattle.rg_parse.proofs.ClassRows.{method-found}
use Rattle.rg_parse.proofs.rules.classes.method_row.Goals as goal

pub returns-in_err-take-clause-fault : goal.returns-in_err-take-clause-fault
returns-in_err-take-clause-fault c = exit _ c.from_residual.ensures.1 (halts-row _ _ (ap (row p.Members) c.requires)
    (halts-here _ c.in_err-take.ensures.fault))

pub returns-in_err-cap-clause-fault : goal.returns-in_err-cap-clause-fault
returns-in_err-cap-clause-fault c = exit _ c.from_residual-in_err-cap.ensures.1 (halts-row _ _ (ap (row p.Members) c.requires)
    (halts-took _ c.in_ok-take.ensures.ok (halts-here _ c.in_err-cap.ensures.fault)))

pub returns-in_err-name-clause-fault : goal.returns-in_err-name-clause-fault
returns-in_err-name-clause-fault c = exit _ c.from_residual-in_err-name.ensures.1 (halts-row _ _ (ap (row p.Members) c.requires)
    (halts-took _ c.in_ok-take.ensures.ok (halts-found form.Cap _ tt c.in_ok-cap.ensures.ok (halts-here _ c.in_err-name.ensures.fault))))

pub returns-in_err-take-2-clause-fault : goal.returns-in_err-take-2-clause-fault
returns-in_err-take-2-clause-fault c = exit _ c.from_residual-in_err-take-2.ensures.1 (halts-row _ _ (ap (row p.Members) c.requires)
    (halts-took _ c.in_ok-take.ensures.ok (halts-found form.Cap _ tt c.in_ok-cap.ensures.ok (halts-declared role.Method _ c.in_ok-name.ensures.ok
    (halts-here _ c.in_err-take-2.ensures.fault)))))

pub returns-in_err-params-clause-fault : goal.returns-in_err-params-clause-fault
returns-in_err-params-clause-fault c = exit _ c.from_residual-in_err-params.ensures.1 (halts-row _ _ (ap (row p.Members) c.requires)
    (halts-took _ c.in_ok-take.ensures.ok (halts-found form.Cap _ tt c.in_ok-cap.ensures.ok (halts-declared role.Method _ c.in_ok-name.ensures.ok
    (halts-took _ c.in_ok-take-2.ensures.ok (halts-here _ c.in_err-params.ensures.fault))))))

pub returns-in_err-take-3-clause-fault : goal.returns-in_err-take-3-clause-fault
returns-in_err-take-3-clause-fault c = exit _ c.from_residual-in_err-take-3.ensures.1 (halts-row _ _ (ap (row p.Members) c.requires)
    (halts-took _ c.in_ok-take.ensures.ok (halts-found form.Cap _ tt c.in_ok-cap.ensures.ok (halts-declared role.Method _ c.in_ok-name.ensures.ok
    (halts-took _ c.in_ok-take-2.ensures.ok (halts-found form.Params _ tt c.in_ok-params.ensures.ok
    (halts-here _ c.in_err-take-3.ensures.fault)))))))

pub returns-in_err-result-clause-fault : goal.returns-in_err-result-clause-fault
returns-in_err-result-clause-fault c = exit _ c.from_residual-in_err-result.ensures.1 (halts-row _ _ (ap (row p.Members) c.requires)
    (halts-took _ c.in_ok-take.ensures.ok (halts-found form.Cap _ tt c.in_ok-cap.ensures.ok (halts-declared role.Method _ c.in_ok-name.ensures.ok
    (halts-took _ c.in_ok-take-2.ensures.ok (halts-found form.Params _ tt c.in_ok-params.ensures.ok (halts-took _ c.in_ok-take-3.ensures.ok
    (halts-here _ c.in_err-result.ensures.fault))))))))

pub returns-in_err-body-clause-fault : goal.returns-in_err-body-clause-fault
returns-in_err-body-clause-fault c = exit _ c.from_residual-in_err-body.ensures.1 (halts-row _ _ (ap (row p.Members) c.requires)
    (halts-took _ c.in_ok-take.ensures.ok (halts-found form.Cap _ tt c.in_ok-cap.ensures.ok (halts-declared role.Method _ c.in_ok-name.ensures.ok
    (halts-took _ c.in_ok-take-2.ensures.ok (halts-found form.Params _ tt c.in_ok-params.ensures.ok (halts-took _ c.in_ok-take-3.ensures.ok
    (halts-found form.Result _ tt c.in_ok-result.ensures.ok (halts-here _ c.in_err-body.ensures.fault)))))))))

pub returns-clause-ok : goal.returns-clause-ok
returns-clause-ok c = method-found _ c.line-line.ensures c.in_ok-take.ensures.ok c.in_ok-cap.ensures.ok c.in_ok-name.ensures.ok
    c.in_ok-take-2.ensures.ok c.in_ok-params.ensures.ok c.in_ok-take-3.ensures.ok c.in_ok-result.ensures.ok c.in_ok-body.ensures.ok
