use Rattle.std.proofs.Common.{refl}
use Rattle.rg_tree.specs.declared.rows.ExprRow.TheVariants as row
use Rattle.rg_tree.specs.Tree as tree
use Rattle.rg_tree.specs.Rows.RowTrees.{expr_of}
use Rattle.rg_make.specs.Inner.Adds.{IsExprRow}
use Rattle.rg_make.proofs.Adding.{adds-there, adds-one, adds-over}
use Rattle.rg_make.proofs.builder.add_expr.Goals as goal

pub put_expr-requires-in-IsThere : goal.put_expr-requires-in-IsThere
put_expr-requires-in-IsThere c = adds-there c.in_ok-absent-in-IsThere.ensures

pub returns-in_ok-number-in-IsThere : goal.returns-in_ok-number-in-IsThere
returns-in_ok-number-in-IsThere c =
    rw c.in-IsThere.is
    (adds-over (λ e. e)
    (adds-one {at = expr_of} {exists = IsExprRow} row.Not tree.not (λ u a. refl) (λ u a h. h) c.in_ok-absent-in-IsThere.ensures)
    c.in_ok-number-in-IsThere.ensures)
