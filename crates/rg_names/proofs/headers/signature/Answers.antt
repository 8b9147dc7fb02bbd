use Rattle.std.proofs.lemmas.Result.{err_from_is_err_and}
use Rattle.rg_names.proofs.TypeSteps.{result-fail, result-pass}
use Rattle.rg_names.proofs.SignatureSteps.{fails-at_third, passes}
use Rattle.rg_names.proofs.headers.signature.Goals as goal

pub returns-in_err-ty-clause-judged : goal.returns-in_err-ty-clause-judged
returns-in_err-ty-clause-judged c =
    let p = err_from_is_err_and c.from_residual-in_err-ty.result c.from_residual-in_err-ty.ensures.1 in
    rw (p.1, p.2) (fails-at_third c.args.method.line _ _ _ _ c.in_ok-receiver.ensures.judged (rw c.order.ensures at c.in_ok-params.ensures)
    (result-fail c.args.program.now c.args.heads.now c.requires.heads c.args.method.line c.args.method.result c.requires.result _
    c.in_err-ty.ensures.judged))

pub returns-clause-judged : goal.returns-clause-judged
returns-clause-judged c =
    passes c.args.method.line _ _ _ c.in_ok-receiver.ensures.judged (rw c.order.ensures at c.in_ok-params.ensures)
    (result-pass c.args.program.now c.args.heads.now c.requires.heads c.args.method.line c.args.method.result c.requires.result _
    c.in_ok-ty.ensures.judged).passed

pub returns-clause-ty : goal.returns-clause-ty
returns-clause-ty c =
    (result-pass c.args.program.now c.args.heads.now c.requires.heads c.args.method.line c.args.method.result c.requires.result _
    c.in_ok-ty.ensures.judged).is
