use Rattle.std.proofs.Common.{[], Some}
use Rattle.rg_base.specs.declared.words.Cap.TheVariants as cap
use Rattle.rg_tree.specs.Tree as tree
use Rattle.rg_make.specs.Generated as generated
use Rattle.rg_tree.specs.Rows.RowTrees.{stmt_at}
use Rattle.rg_tree.specs.Rows.RowsExist.{IsStmtNumber}
use Rattle.rg_make.proofs.Adding.{adds-none, adds-push, adds-there, adds-over}
use Rattle.rg_make.proofs.classes.add_sum.Goals as goal

pub add_method-requires : goal.add_method-requires
add_method-requires c =
    adds-there (c.in_ok-body.ensures _ _ (adds-push (adds-push (adds-push (adds-push (adds-none stmt_at IsStmtNumber _)
    c.in_ok-none.ensures) c.in_ok-first.ensures) c.in_ok-steps.ensures) c.in_ok-total.ensures))

pub returns : goal.returns
returns c =
    adds-over (generated.def cap.Paused "sum" [] (Some tree.int)) (c.in_ok-body.ensures _ _ (adds-push (adds-push (adds-push (adds-push
    (adds-none stmt_at IsStmtNumber _) c.in_ok-none.ensures) c.in_ok-first.ensures) c.in_ok-steps.ensures) c.in_ok-total.ensures))
    c.in_ok-number.ensures
