use Rattle.std.proofs.Common.{◌+◌, ◌*◌}
use Rattle.rg_limits.proofs.expressions.+expression.Given as goal

abbrev pub decreases-left_behind : goal.decreases-left_behind
decreases-left_behind l = 3 * l.e

abbrev pub decreases-left_in_brackets : goal.decreases-left_in_brackets
decreases-left_in_brackets l = 3 * l.e + 1

abbrev pub decreases-left_in_operand : goal.decreases-left_in_operand
decreases-left_in_operand l = 3 * l.e + 2
