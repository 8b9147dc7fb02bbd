use Rattle.std.proofs.lemmas.Result.{err_from_is_err_and}
use Rattle.rg_verify_expressions.specs.Naming.{class_name}
use Rattle.rg_raise.specs.Telling.{array_of}
use Rattle.rg_raise.proofs.RightSides.{array-new, array-tmp, array-iso, array-unnamed}
use Rattle.rg_raise.proofs.rights.array_row.Goals as goal

pub returns-in_ok-name-in-New-clause-told : goal.returns-in_ok-name-in-New-clause-told
returns-in_ok-name-in-New-clause-told c e tree =
    rw c.in-New.is (array-new c.args.body.in_method c.in-New.class e c.in_ok-name-in-New.ensures.adds tree)

pub returns-in_ok-name-in-NewTmp-clause-told : goal.returns-in_ok-name-in-NewTmp-clause-told
returns-in_ok-name-in-NewTmp-clause-told c e tree =
    rw c.in-NewTmp.is (array-tmp c.args.body.in_method c.in-NewTmp.class e c.in_ok-name-in-NewTmp.ensures.adds tree)

pub returns-in_ok-name-in-NewIso-clause-told : goal.returns-in_ok-name-in-NewIso-clause-told
returns-in_ok-name-in-NewIso-clause-told c e tree =
    rw c.in-NewIso.is (array-iso c.args.body.in_method c.in-NewIso.class e c.in_ok-name-in-NewIso.ensures.adds tree c.in-NewIso.manager)

pub returns-in_err-name-in-New-clause-told : goal.returns-in_err-name-in-New-clause-told
returns-in_err-name-in-New-clause-told c e tree =
    let p = err_from_is_err_and c.from_residual.result c.from_residual.ensures.1 in
    rw (p.1, p.2) (array-unnamed c.args.program.now c.class_row.new.program c.args.body.in_method (class_name c.in-New.class)
    (array_of c.args.walk e) c.in_err-name-in-New.field-0.0 c.in_err-name-in-New.ensures.adds)

pub returns-in_err-name-in-NewTmp-clause-told : goal.returns-in_err-name-in-NewTmp-clause-told
returns-in_err-name-in-NewTmp-clause-told c e tree =
    let p = err_from_is_err_and c.from_residual-in_err-name-in-NewTmp.result c.from_residual-in_err-name-in-NewTmp.ensures.1 in
    rw (p.1, p.2) (array-unnamed c.args.program.now c.class_row-in-NewTmp.new.program c.args.body.in_method (class_name c.in-NewTmp.class)
    (array_of c.args.walk e) c.in_err-name-in-NewTmp.field-0.0 c.in_err-name-in-NewTmp.ensures.adds)

pub returns-in_err-name-in-NewIso-clause-told : goal.returns-in_err-name-in-NewIso-clause-told
returns-in_err-name-in-NewIso-clause-told c e tree =
    let p = err_from_is_err_and c.from_residual-in_err-name-in-NewIso.result c.from_residual-in_err-name-in-NewIso.ensures.1 in
    rw (p.1, p.2) (array-unnamed c.args.program.now c.class_row-in-NewIso.new.program c.args.body.in_method (class_name c.in-NewIso.class)
    (array_of c.args.walk e) c.in_err-name-in-NewIso.field-0.0 c.in_err-name-in-NewIso.ensures.adds)
