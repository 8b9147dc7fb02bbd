use Rattle.std.proofs.Common.{Ok, Err, subst, sym}
use Rattle.std.proofs.lemmas.Result.{err_from_is_err_and}
use Rattle.rg_verify_expressions.specs.declared.front.FrontRow.{FrontRow}
use Rattle.rg_verify_expressions.specs.Raising.{front_in}
use Rattle.rg_verify_expressions.specs.Inner.Stacks.{MakesFront}
use Rattle.rg_verify_expressions.proofs.Fronts.{front-row, front-no-row, refused-row}
use Rattle.rg_verify_expressions.proofs.stack.row_of.Goals as goal

pub returns-in_err-front-clause-makes : goal.returns-in_err-front-clause-makes
returns-in_err-front-clause-makes c x is =
    let p = err_from_is_err_and c.from_residual.result c.from_residual.ensures.1 in
    rw (p.1, p.2) (refused-row c.args.program.now c.front_of.new.program c.args.body.in_method x c.in_err-front.field-0.0
    (c.in_err-front.ensures.makes x is))

pub returns-in_default-clause-makes : goal.returns-in_default-clause-makes
returns-in_default-clause-makes c x is =
    front-no-row c.args.program.now c.front_of.new.program c.args.body.in_method x c.in_ok-front.front c.in_default.not-Expression
    (c.in_ok-front.ensures.makes x is)

pub returns-clause-makes : goal.returns-clause-makes
returns-clause-makes c x is =
    let t = c.args.program.now in
    let u = c.front_of.new.program in
    let m = c.args.body.in_method in
    front-row t u m x c.in-Expression.row
    (subst (λ (f : FrontRow). MakesFront t u m (front_in x) (Ok f)) c.in-Expression.is (c.in_ok-front.ensures.makes x is))
