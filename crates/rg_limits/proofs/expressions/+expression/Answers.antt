use Rattle.std.proofs.Common.{arith}
use Rattle.rg_tree.specs.Canonical.{level}
use Rattle.rg_tree.specs.Rows.RowTrees.{expr_at}
use Rattle.rg_limits.proofs.Leaving.{two-parts, one-taken, bare-operand, in-parens}
use Rattle.rg_limits.proofs.expressions.+expression.Goals as goal

pub left_behind-returns-in-Neg : goal.left_behind-returns-in-Neg
left_behind-returns-in-Neg t c = rw c.in-Neg.ensures.tree c.left_in_operand.ensures

pub left_behind-returns-in-Not : goal.left_behind-returns-in-Not
left_behind-returns-in-Not t c = rw c.in-Not.ensures.tree c.left_in_operand-in-Not.ensures

pub left_behind-returns-in-Some : goal.left_behind-returns-in-Some
left_behind-returns-in-Some t c =
    let first = rw c.least_left.ensures at c.in-Some.ensures in
    let second = rw c.least_right.ensures at c.left_in_operand-in-Binary-2.ensures in
    rw c.in-Binary.ensures.tree (one-taken _ _ _ _ c.if-left-eq0.false (two-parts _ _ _ _ _ _ _ _ _ _ first second))

pub left_in_operand-returns-then-level_of-least : goal.left_in_operand-returns-then-level_of-least
left_in_operand-returns-then-level_of-least t c =
    bare-operand _ _ (level (expr_at c.args.program.now c.args.e)) c.args.least _ _ _ _
    (omega (arith, c.level_of.ensures, c.if-level_of-least.true)) c.left_behind.ensures

pub left_in_operand-returns : goal.left_in_operand-returns
left_in_operand-returns t c =
    in-parens _ _ (level (expr_at c.args.program.now c.args.e)) c.args.least _ _ _ _
    (omega (arith, c.level_of.ensures, c.if-level_of-least.false)) c.left_in_brackets.ensures
