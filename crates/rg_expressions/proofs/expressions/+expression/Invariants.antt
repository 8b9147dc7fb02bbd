use Rattle.std.proofs.Common.{◌+◌, ◌*◌, max}
use Rattle.rg_expressions.proofs.expressions.+expression.Given as goal

abbrev pub decreases-expression : goal.decreases-expression
decreases-expression l = 3 * l.e + 2

abbrev pub decreases-own_type : goal.decreases-own_type
decreases-own_type l = 3 * l.e + 1

abbrev pub decreases-element : goal.decreases-element
decreases-element l = 3 * l.index + 3

abbrev pub decreases-operation : goal.decreases-operation
decreases-operation l = 3 * max l.left l.right + 3
