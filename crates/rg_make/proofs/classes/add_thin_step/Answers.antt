use Rattle.std.proofs.Common.{[], ◌∷◌}
use Rattle.rg_tree.specs.Tree as tree
use Rattle.rg_tree.specs.Rows.RowTrees.{stmt_at}
use Rattle.rg_tree.specs.Rows.RowsExist.{IsStmtNumber}
use Rattle.rg_make.specs.Generated as generated
use Rattle.rg_make.proofs.Adding.{adds-none, adds-push, adds-there, adds-there_first, adds-over_two}
use Rattle.rg_make.proofs.classes.add_thin_step.Goals as goal

pub add_if-requires-clause-first : goal.add_if-requires-clause-first
add_if-requires-clause-first c =
    adds-there_first (c.in_ok-first.ensures _ _ (adds-push (adds-none stmt_at IsStmtNumber _) c.in_ok-stop.ensures))
    (c.in_ok-second.ensures _ _ (adds-push (adds-push (adds-push (adds-none stmt_at IsStmtNumber _) c.in_ok-skip.ensures)
    c.in_ok-step.ensures) c.in_ok-go.ensures))

pub add_if-requires-clause-second : goal.add_if-requires-clause-second
add_if-requires-clause-second c =
    adds-there (c.in_ok-second.ensures _ _ (adds-push (adds-push (adds-push (adds-none stmt_at IsStmtNumber _) c.in_ok-skip.ensures)
    c.in_ok-step.ensures) c.in_ok-go.ensures))

pub returns : goal.returns
returns c =
    adds-over_two (λ a b. tree.stmt 1 (tree.branch (tree.is_nil (generated.of "p" ("next" ∷ []))) a (tree.otherwise b)))
    (c.in_ok-first.ensures _ _ (adds-push (adds-none stmt_at IsStmtNumber _) c.in_ok-stop.ensures)) (c.in_ok-second.ensures _ _ (adds-push
    (adds-push (adds-push (adds-none stmt_at IsStmtNumber _) c.in_ok-skip.ensures) c.in_ok-step.ensures) c.in_ok-go.ensures))
    c.in_ok-number.ensures
