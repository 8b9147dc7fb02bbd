use Rattle.std.proofs.Common.{None, codes}
use Rattle.rg_tree.specs.Tree as tree
use Rattle.rg_tree.specs.Rows.RowTrees.{stmt_at}
use Rattle.rg_tree.specs.Rows.RowsExist.{IsStmtNumber}
use Rattle.rg_make.specs.Generated as generated
use Rattle.rg_make.proofs.Adding.{adds-none, adds-push, adds-there, adds-over, main-set}
use Rattle.rg_make.proofs.main_block.add_main.Goals as goal

pub add_enter-requires : goal.add_enter-requires
add_enter-requires c = adds-there c.in_ok-inner.ensures

pub set_main-requires : goal.set_main-requires
set_main-requires c =
    adds-there (c.in_ok-body.ensures _ _ (adds-push (adds-push (adds-none stmt_at IsStmtNumber _) c.in_ok-make.ensures) (adds-over (λ b.
    tree.stmt 1 (tree.enter (generated.var "box") (codes "l") b None)) c.in_ok-inner.ensures c.in_ok-enter.ensures)))

pub returns : goal.returns
returns c =
    main-set _ (c.in_ok-body.ensures _ _ (adds-push (adds-push (adds-none stmt_at IsStmtNumber _) c.in_ok-make.ensures) (adds-over (λ b.
    tree.stmt 1 (tree.enter (generated.var "box") (codes "l") b None)) c.in_ok-inner.ensures c.in_ok-enter.ensures))) c.set_main.ensures.program
