use Rattle.rg_tree.specs.Rows.RowTrees.{classes_of, expr_at}
use Rattle.rg_lower.specs.Inner.Slots.{scope_of}
use Rattle.rg_lower.proofs.Codes.{behind-jump}
use Rattle.rg_lower.proofs.expressions.+expression.Goals as goal

pub write_behind-returns-in_ok-write_expr-in-None :
    goal.write_behind-returns-in_ok-write_expr-in-None
write_behind-returns-in_ok-write_expr-in-None k c =
    let t = c.args.book.now.program in
    behind-jump (classes_of t) (scope_of t c.args.slots.now) c.args.code.now c.push-in-None.new.self c.write_expr-in-None.new.code c.set.new.self
    c.jump.result c.jump-in-None.result c.args.op (expr_at t c.args.right) c.len-at.result c.len-end.result c.in-None.ensures.none c.len-at.ensures
    c.in_ok-push-in-None.ensures c.in_ok-write_expr-in-None.ensures c.len-end.ensures c.jump-in-None.ensures.code c.set.ensures
