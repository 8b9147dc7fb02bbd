use Rattle.std.proofs.Common.{◌≡◌, suc, ◌+◌, ◌*◌, [], ◌∷◌, ◌++◌, codes, drop}
use Rattle.rg_tree.specs.Canonical.{block_text}
use Rattle.rg_tree.specs.Rows.RowTrees.{block_of, block_over, stmt_at}
use Rattle.rg_tree.specs.Rows.Tables.{numbers_in}
use Rattle.rg_tree.proofs.Callers.{above, above_some}
use Rattle.rg_print.proofs.statements.+statement.Given as goal

abbrev pub decreases-write_stmt : goal.decreases-write_stmt
decreases-write_stmt l = 3 * l.n + 2

abbrev pub decreases-write_else : goal.decreases-write_else
decreases-write_else l = 3 * above_some l.program.now l.no + 1

abbrev pub decreases-write_block : goal.decreases-write_block
decreases-write_block l = 3 * above (numbers_in l.program.now l.block)

abbrev pub invariant-write_block-loop-n : goal.invariant-write_block-loop-n
invariant-write_block-loop-n l =
    l.out ++ block_text l.within (block_over (stmt_at l.program) (drop l.n-index l.n-items))
    ≡ l.fn.out ++ codes " {" ++ 10 ∷ [] ++ block_text (suc l.fn.depth) (block_of l.program l.fn.block)
