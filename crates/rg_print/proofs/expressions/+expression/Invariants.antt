use Rattle.std.proofs.Common.{◌+◌, ◌*◌}
use Rattle.rg_print.proofs.expressions.+expression.Given as goal

abbrev pub decreases-write_expr : goal.decreases-write_expr
decreases-write_expr l = 2 * l.e

abbrev pub decreases-write_index : goal.decreases-write_index
decreases-write_index l = 2 * l.e + 1

abbrev pub decreases-write_operand : goal.decreases-write_operand
decreases-write_operand l = 2 * l.e + 1
