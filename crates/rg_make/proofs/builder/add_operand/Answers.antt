use Rattle.std.proofs.Common.{refl}
use Rattle.rg_tree.specs.declared.rows.ExprRow.TheVariants as row
use Rattle.rg_tree.specs.Tree as tree
use Rattle.rg_tree.specs.Rows.RowTrees.{expr_of}
use Rattle.rg_make.specs.Inner.Adds.{IsExprRow}
use Rattle.rg_make.proofs.Adding.{adds-there, adds-one, adds-over}
use Rattle.rg_make.proofs.builder.add_operand.Goals as goal

pub put_expr-requires-in-Path : goal.put_expr-requires-in-Path
put_expr-requires-in-Path c = adds-there c.in_ok-row-in-Path.ensures

pub returns-in_ok-number-in-Path : goal.returns-in_ok-number-in-Path
returns-in_ok-number-in-Path c =
    rw c.in-Path.is
    (adds-over (λ e. e) (adds-one {at = expr_of} {exists = IsExprRow} row.Path tree.path (λ u q. refl) (λ u q h. h) c.in_ok-row-in-Path.ensures)
    c.in_ok-number-in-Path.ensures)
