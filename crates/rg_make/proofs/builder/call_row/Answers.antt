use Rattle.std.proofs.Common.{length, refl}
use Rattle.rg_tree.specs.Rows.RowTrees.{expr_at}
use Rattle.rg_tree.specs.Rows.RowsExist.{IsExprNumber}
use Rattle.rg_make.proofs.Adding.{adds-none, adds-order, adds-three}
use Rattle.rg_make.proofs.builder.call_row.Goals as goal

pub returns : goal.returns
returns c =
    let e = c.in_ok-args.ensures in
    adds-three (λ q m s. record { path = q; method = m; args = s }) (λ q m s. record { target = q; method = m; args = s }) (λ u q m s. refl)
    (λ u q m s x y z. record { target = x; method = y; args = z }) c.in_ok-path.ensures c.in_ok-method.ensures
    (adds-order expr_at (λ t. length t.exprs) (adds-none expr_at IsExprNumber _) e.keeps e.program e.span)
