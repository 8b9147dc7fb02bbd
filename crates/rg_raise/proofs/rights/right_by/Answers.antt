use Rattle.std.proofs.Common.{sym, subst, Option}
use Rattle.std.proofs.lemmas.Result.{err_from_is_err_and}
use Rattle.rg_verify_expressions.specs.declared.signs.Walk.{Walk}
use Rattle.rg_verify_expressions.specs.Blocks.{right_by}
use Rattle.rg_raise.specs.Telling.{given, MakesAs, IsRightSaid}
use Rattle.rg_raise.proofs.RightSides.{array-refused, array-made}
use Rattle.rg_raise.proofs.rights.right_by.Goals as goal

pub returns-in-None-clause-told : goal.returns-in-None-clause-told
returns-in-None-clause-told c e tree spans =
    let t = c.args.program.now in
    let told = rw c.code.ensures at c.in-None.ensures.told in
    subst (λ (w : Option Walk). MakesAs (IsRightSaid c.args.source.now.body.in_method) t t
    (right_by (given c.args.source.now) c.args.types.now.items e c.args.code.end w) c.value_at.result) told
    (c.value_at.ensures e tree spans)

pub returns-in_err-right-in-Some-clause-told : goal.returns-in_err-right-in-Some-clause-told
returns-in_err-right-in-Some-clause-told c e tree spans =
    let p = err_from_is_err_and c.from_residual.result c.from_residual.ensures.1 in
    let walk = rw c.code.ensures at c.in-Some.ensures.told in
    rw (p.1, p.2) (array-refused (given c.args.source.now) c.args.types.now.items e c.args.code.end c.in-Some.walk (sym walk) c.args.program.now
    c.array_row.new.program c.args.source.now.body.in_method c.in_err-right-in-Some.field-0.0 (c.in_err-right-in-Some.ensures.told e tree))

pub returns-in_ok-right-in-Some-clause-told : goal.returns-in_ok-right-in-Some-clause-told
returns-in_ok-right-in-Some-clause-told c e tree spans =
    let walk = rw c.code.ensures at c.in-Some.ensures.told in
    array-made (given c.args.source.now) c.args.types.now.items e c.args.code.end c.in-Some.walk (sym walk) c.args.program.now
    c.array_row.new.program c.args.source.now.body.in_method c.in_ok-right-in-Some.right (c.in_ok-right-in-Some.ensures.told e tree)
