use Rattle.std.proofs.Common.{Ok, Err}
use Rattle.std.proofs.lemmas.Result.{err_from_is_err_and}
use Rattle.rg_tree.specs.Rows.RowTrees.{call_of, classes_of}
use Rattle.rg_flow.specs.Scope.{env_of}
use Rattle.rg_type.proofs.RightSteps.{call-no_method, call-judged}
use Rattle.rg_type.proofs.rights.call.Goals as goal

pub returns-in_err-sig-clause-judged : goal.returns-in_err-sig-clause-judged
returns-in_err-sig-clause-judged c =
    let t = c.args.book.now.program in
    let p = err_from_is_err_and c.from_residual-in_err-sig.result c.from_residual-in_err-sig.ensures.1 in
    rw (p.1, p.2) (call-no_method (classes_of t) (env_of t c.args.env.now) (call_of t c.args.row) c.in_ok-receiver.receiver
    c.in_ok-receiver.ensures.judged _ c.in_err-sig.ensures)

pub returns-in_err-arguments-clause-judged : goal.returns-in_err-arguments-clause-judged
returns-in_err-arguments-clause-judged c =
    let t = c.args.book.now.program in
    let p = err_from_is_err_and c.from_residual-in_err-arguments.result c.from_residual-in_err-arguments.ensures.1 in
    rw (p.1, p.2) (call-judged t (env_of t c.args.env.now) c.args.row c.in_ok-receiver.receiver c.in_ok-sig.sig _ _ (Err _)
    c.in_ok-receiver.ensures.judged c.in_ok-sig.ensures c.order-params.ensures c.order-args.ensures c.if-args-params.false
    c.in_err-arguments.ensures.judged)

pub returns-clause-judged : goal.returns-clause-judged
returns-clause-judged c =
    let t = c.args.book.now.program in
    call-judged t (env_of t c.args.env.now) c.args.row c.in_ok-receiver.receiver c.in_ok-sig.sig _ _ (Ok _)
    c.in_ok-receiver.ensures.judged c.in_ok-sig.ensures c.order-params.ensures c.order-args.ensures c.if-args-params.false
    c.in_ok-arguments.ensures.judged
