use Rattle.std.proofs.Common.{◌+◌, ◌-◌, ◌*◌, drop}
use Rattle.rg_tree.specs.Rows.RowTrees.{stmt_at}
use Rattle.rg_tree.specs.Rows.Tables.{numbers_in}
use Rattle.rg_tree.proofs.Callers.{above, above_some}
use Rattle.rg_limits.proofs.Leaving.{GoesOn, numbers_names, AreFine}
use Rattle.rg_limits.proofs.blocks.+statement.Given as goal

abbrev pub decreases-left_in_stmt : goal.decreases-left_in_stmt
decreases-left_in_stmt l = 3 * l.n + 2

abbrev pub decreases-left_in_else : goal.decreases-left_in_else
decreases-left_in_else l = 3 * above_some l.program.now l.no + 1

abbrev pub decreases-left_in_braces : goal.decreases-left_in_braces
decreases-left_in_braces l = 3 * above (numbers_in l.program.now l.block)

abbrev pub invariant-left_in_braces-loop-n : goal.invariant-left_in_braces-loop-n
invariant-left_in_braces-loop-n l =
    let at = stmt_at l.program in
    GoesOn (numbers_names at) (AreFine (l.room - 1) at) (drop l.n-index l.n-items) l.rest (numbers_in l.program l.fn.block) l.fn.left
