use Rattle.std.proofs.Common.{length, refl}
use Rattle.rg_tree.specs.declared.rows.StmtKind.TheVariants as row
use Rattle.rg_tree.specs.Rows.RowTrees.{expr_at}
use Rattle.rg_tree.specs.Rows.RowsExist.{IsExprNumber}
use Rattle.rg_make.specs.Inner.Adds.{kind_of, IsKindRow}
use Rattle.rg_tree.specs.Tree as tree
use Rattle.rg_make.proofs.Adding.{adds-none, adds-push, adds-order, adds-there, adds-three, adds-over}
use Rattle.rg_make.proofs.main_block.add_push_call.Goals as goal

pub put_stmt-requires : goal.put_stmt-requires
put_stmt-requires c =
    let e = c.in_ok-args.ensures in
    adds-there (adds-three {at = kind_of} {exists = IsKindRow} (λ q m s. row.Call (record { path = q; method = m; args = s })) (λ q m s.
    tree.call (record { target = q; method = m; args = s })) (λ u q m s. refl) (λ u q m s x y z. record {
      target = x;
      method = y;
      args = z;
    }) c.in_ok-path.ensures c.in_ok-method.ensures (adds-order expr_at (λ t. length t.exprs) (adds-push (adds-none expr_at IsExprNumber _)
    c.in_ok-mixed.ensures) e.keeps e.program e.span))

pub returns : goal.returns
returns c =
    let e = c.in_ok-args.ensures in
    adds-over (tree.stmt 1) (adds-three {at = kind_of} {exists = IsKindRow} (λ q m s. row.Call (record { path = q; method = m; args = s }))
    (λ q m s. tree.call (record { target = q; method = m; args = s })) (λ u q m s. refl) (λ u q m s x y z. record {
      target = x;
      method = y;
      args = z;
    }) c.in_ok-path.ensures c.in_ok-method.ensures (adds-order expr_at (λ t. length t.exprs) (adds-push (adds-none expr_at
    IsExprNumber _) c.in_ok-mixed.ensures) e.keeps e.program e.span)) c.in_ok-number.ensures
