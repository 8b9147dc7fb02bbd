use Rattle.std.proofs.Common.{◌∙◌, sym, ap}
use Rattle.rg_tree.specs.Rows.RowTrees.{expr_at, expr_of}
use Rattle.rg_rules.specs.Evaluation.{uses, cleared}
use Rattle.rg_values.specs.Shown.{locals_of}
use Rattle.rg_values.proofs.Expressions.Using.{cleared-binary}
use Rattle.rg_values.proofs.values.uses.+use_up.Goals as goal

pub returns-in-Binary-clause-cleared : goal.returns-in-Binary-clause-cleared
returns-in-Binary-clause-cleared t c =
    let p = c.args.book.now.program in
    let old = locals_of p c.args.locals.now in
    cleared-binary c.in-Binary.op (expr_at p c.in-Binary.left) (expr_at p c.in-Binary.right) old (locals_of p c.use_up.new.locals)
    (locals_of p c.use_up-in-Binary.new.locals) c.use_up.ensures.cleared c.use_up-in-Binary.ensures.cleared
    ∙ ap (λ e. cleared (uses old e) old) (sym (c.expr.ensures.tree ∙ ap (expr_of p) c.in-Binary.is))
