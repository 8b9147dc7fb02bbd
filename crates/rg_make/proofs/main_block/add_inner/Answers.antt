use Rattle.rg_tree.specs.Rows.RowTrees.{stmt_at}
use Rattle.rg_tree.specs.Rows.RowsExist.{IsStmtNumber}
use Rattle.rg_make.proofs.Adding.{adds-none, adds-push}
use Rattle.rg_make.proofs.main_block.add_inner.Goals as goal

pub returns : goal.returns
returns c =
    c.in_ok-block.ensures _ _ (adds-push (adds-push (adds-push (adds-push (adds-push (adds-push (adds-push (adds-push (adds-push (adds-push
    (adds-push (adds-push (adds-none stmt_at IsStmtNumber _) c.in_ok-first.ensures) c.in_ok-fill.ensures) c.in_ok-sum_a.ensures)
    c.in_ok-print_a.ensures) c.in_ok-thin.ensures) c.in_ok-sum_b.ensures) c.in_ok-print_b.ensures) c.in_ok-collect.ensures)
    c.in_ok-again.ensures) c.in_ok-refill.ensures) c.in_ok-sum_c.ensures) c.in_ok-print_c.ensures)
