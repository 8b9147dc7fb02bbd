use Rattle.std.proofs.Common.{◌≡◌, true, sym, ap, ◌∙◌}
use Rattle.std.proofs.lemmas.Result.{err_from_is_err_and}
use Rattle.rg_tree.specs.Rows.RowTrees.{classes_of, expr_at}
use Rattle.rg_rules.specs.Expressions.{among, operand_type, agree, result_type}
use Rattle.rg_flow.specs.Scope.{env_of}
use Rattle.rg_expressions.proofs.ExpressionSteps.{Operands, own-fails, own-passes, operation-passes}
use Rattle.rg_expressions.proofs.expressions.+expression.Goals as goal

pub expression-returns-in_err-ty-clause-judged : goal.expression-returns-in_err-ty-clause-judged
expression-returns-in_err-ty-clause-judged t c =
    let p = c.args.book.now.program in
    let r = err_from_is_err_and c.from_residual.result c.from_residual.ensures.1 in
    rw (r.1, r.2) (own-fails (classes_of p) (env_of p c.args.env.now) c.args.wanted (expr_at p c.args.e) _ c.in_err-ty.ensures.judged)

pub expression-returns-clause-judged : goal.expression-returns-clause-judged
expression-returns-clause-judged t c =
    let p = c.args.book.now.program in
    own-passes (classes_of p) (env_of p c.args.env.now) (env_of p c.own_type.new.env) c.args.wanted (expr_at p c.args.e) c.in_ok-ty.ty
    c.against.result
    c.in_ok-ty.ensures.judged (c.against.ensures.judged (env_of p c.own_type.new.env))

pub expression-returns-clause-known : goal.expression-returns-clause-known
expression-returns-clause-known t c = c.against.ensures.known (classes_of c.args.book.now.program) c.in_ok-ty.ensures.known

pub operation-returns-clause-judged : goal.operation-returns-clause-judged
operation-returns-clause-judged t c =
    let p = c.args.book.now.program in
    let w : c.operand_type-operand.result ≡ operand_type (among c.args.op) =
    c.operand_type-operand.ensures.ty ∙ ap operand_type c.among-operators.ensures in
    let u : c.result_type.result ≡ result_type (among c.args.op) = c.result_type.ensures.ty ∙ ap result_type c.among-operators.ensures in
    let g : agree (among c.args.op) c.in_ok-first.first c.in_ok-second.second ≡ true =
    rw (← c.among-operators.ensures) (sym c.agree.ensures ∙ c.if-not-agree.false) in
    let h : Operands (classes_of p) (env_of p c.args.env.now) (among c.args.op) (expr_at p c.args.left) (expr_at p c.args.right)
    (env_of p c.expression.new.env) (env_of p c.expression-2.new.env) c.in_ok-first.first c.in_ok-second.second =
    record { left = rw (← w) c.in_ok-first.ensures.judged; right = rw (← w) c.in_ok-second.ensures.judged; together = g } in
    rw u (operation-passes (classes_of p) (env_of p c.args.env.now) (env_of p c.expression.new.env) (env_of p c.expression-2.new.env)
    c.args.op (expr_at p c.args.left) (expr_at p c.args.right) c.in_ok-first.first c.in_ok-second.second h)
