use Rattle.std.proofs.Common.{◌+◌, ◌*◌, max, drop}
use Rattle.rg_tree.specs.Rows.Tables.{numbers_in}
use Rattle.rg_tree.proofs.Callers.{above}
use Rattle.rg_tree.proofs.Callers.{above_some}
use Rattle.rg_type.proofs.BlockSteps.{BlockUpTo}
use Rattle.rg_type.proofs.statements.+statement.Given as goal

abbrev pub decreases-statement : goal.decreases-statement
decreases-statement l = 4 * l.s + 3

abbrev pub decreases-branch : goal.decreases-branch
decreases-branch l = 4 * max (above (numbers_in l.book.now.program l.yes)) (above_some l.book.now.program l.no) + 2

abbrev pub decreases-else_block : goal.decreases-else_block
decreases-else_block l = 4 * above_some l.book.now.program l.no + 1

abbrev pub decreases-while_ : goal.decreases-while_
decreases-while_ l = 4 * above (numbers_in l.book.now.program l.body) + 1

abbrev pub decreases-window : goal.decreases-window
decreases-window l = 4 * above (numbers_in l.book.now.program l.body) + 1

abbrev pub decreases-block : goal.decreases-block
decreases-block l = 4 * above (numbers_in l.book.now.program l.span)

abbrev pub invariant-block-loop-s : goal.invariant-block-loop-s
invariant-block-loop-s l = BlockUpTo l.book.program l.fn.span l.fn.env l.env (drop l.s-index l.s-items)
