use Rattle.std.proofs.Common.{◌+◌, ◌*◌, max, drop}
use Rattle.rg_tree.specs.Rows.Tables.{numbers_in}
use Rattle.rg_tree.proofs.Callers.{above, above_some}
use Rattle.rg_build.proofs.Walking.{WalkedTo}
use Rattle.rg_build.proofs.walk.+statement.Given as goal

abbrev pub decreases-put_stmt : goal.decreases-put_stmt
decreases-put_stmt l = 5 * l.n + 4

abbrev pub decreases-put_inner : goal.decreases-put_inner
decreases-put_inner l = 5 * l.n + 3

abbrev pub decreases-put_if : goal.decreases-put_if
decreases-put_if l = 5 * max (above (numbers_in l.book.now.program l.yes)) (above_some l.book.now.program l.no) + 2

abbrev pub decreases-put_while : goal.decreases-put_while
decreases-put_while l = 5 * above (numbers_in l.book.now.program l.body) + 1

abbrev pub decreases-put_else : goal.decreases-put_else
decreases-put_else l = 5 * above_some l.book.now.program l.no + 1

abbrev pub decreases-put_window : goal.decreases-put_window
decreases-put_window l = 5 * above (numbers_in l.book.now.program l.body) + 1

abbrev pub decreases-put_block : goal.decreases-put_block
decreases-put_block l = 5 * above (numbers_in l.book.now.program l.block)

abbrev pub invariant-put_block-loop-n : goal.invariant-put_block-loop-n
invariant-put_block-loop-n l = WalkedTo l.book.program l.marked l.fn.slots l.fn.laying l.these l.slots l.laying (drop l.n-index l.these)
