use Rattle.std.proofs.Common.{◌+◌, ◌*◌, max, drop}
use Rattle.rg_tree.specs.Rows.Tables.{numbers_in}
use Rattle.rg_tree.proofs.Callers.{above, above_some}
use Rattle.rg_lower.proofs.BlockSteps.{BlockUpTo}
use Rattle.rg_lower.proofs.statements.+statement.Given as goal

abbrev pub decreases-write_stmt : goal.decreases-write_stmt
decreases-write_stmt l = 6 * l.n + 5

abbrev pub decreases-write_if : goal.decreases-write_if
decreases-write_if l = 6 * max (above (numbers_in l.book.now.program l.yes.span)) (above_some l.book.now.program l.no) + 4

abbrev pub decreases-write_else : goal.decreases-write_else
decreases-write_else l = 6 * above_some l.book.now.program l.no + 3

abbrev pub decreases-write_while : goal.decreases-write_while
decreases-write_while l = 6 * above (numbers_in l.book.now.program l.body.span) + 3

abbrev pub decreases-write_enter : goal.decreases-write_enter
decreases-write_enter l = 6 * above (numbers_in l.book.now.program l.body.span) + 3

abbrev pub decreases-write_nested : goal.decreases-write_nested
decreases-write_nested l = 6 * above (numbers_in l.book.now.program l.block.span) + 2

abbrev pub decreases-write_block : goal.decreases-write_block
decreases-write_block l = 6 * above (numbers_in l.book.now.program l.block) + 1

abbrev pub decreases-write_these : goal.decreases-write_these
decreases-write_these l = 6 * above (numbers_in l.book.now.program l.block)

abbrev pub invariant-write_these-loop-n : goal.invariant-write_these-loop-n
invariant-write_these-loop-n l = BlockUpTo l.book.program l.fn.slots l.fn.code l.these l.slots l.code (drop l.n-index l.these)
