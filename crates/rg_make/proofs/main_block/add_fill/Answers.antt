use Rattle.rg_tree.specs.declared.rows.BinOp.TheVariants as op
use Rattle.rg_tree.specs.Tree as tree
use Rattle.rg_make.specs.Generated as generated
use Rattle.rg_tree.specs.Rows.RowTrees.{stmt_at}
use Rattle.rg_tree.specs.Rows.RowsExist.{IsStmtNumber}
use Rattle.rg_make.proofs.Adding.{adds-none, adds-push, adds-there, adds-over}
use Rattle.rg_make.proofs.main_block.add_fill.Goals as goal

pub add_while-requires : goal.add_while-requires
add_while-requires c =
    adds-there (c.in_ok-body.ensures _ _ (adds-push (adds-push (adds-none stmt_at IsStmtNumber _) c.in_ok-push.ensures)
    c.in_ok-next.ensures))

pub returns : goal.returns
returns c =
    adds-over (λ b. tree.stmt 1 (tree.while (tree.binary op.Le (tree.path (generated.var "i")) (generated.num c.args.n.size)) b))
    (c.in_ok-body.ensures _ _ (adds-push (adds-push (adds-none stmt_at IsStmtNumber _) c.in_ok-push.ensures) c.in_ok-next.ensures))
    c.in_ok-number.ensures
