use Rattle.std.proofs.Common.{refl}
use Rattle.rg_tree.specs.declared.rows.ExprRow.TheVariants as row
use Rattle.rg_tree.specs.Tree as tree
use Rattle.rg_tree.specs.Rows.RowTrees.{expr_of}
use Rattle.rg_make.specs.Inner.Adds.{IsExprRow}
use Rattle.rg_make.proofs.Adding.{adds-there, adds-one, adds-over}
use Rattle.rg_make.proofs.builder.add_is_nil.Goals as goal

pub put_expr-requires : goal.put_expr-requires
put_expr-requires c = adds-there c.in_ok-row.ensures

pub returns : goal.returns
returns c =
    adds-over (λ e. e)
    (adds-one {at = expr_of} {exists = IsExprRow} row.IsNil tree.is_nil (λ u q. refl) (λ u q h. h) c.in_ok-row.ensures) c.in_ok-number.ensures
