use Rattle.std.proofs.Common.{refl}
use Rattle.rg_tree.specs.declared.rows.ExprRow.TheVariants as row
use Rattle.rg_tree.specs.Tree as tree
use Rattle.rg_tree.specs.Rows.RowTrees.{expr_of}
use Rattle.rg_make.specs.Inner.Adds.{IsExprRow}
use Rattle.rg_make.proofs.Adding.{adds-there, adds-two, adds-over}
use Rattle.rg_make.proofs.builder.add_binary.Goals as goal

pub put_expr-requires : goal.put_expr-requires
put_expr-requires c =
    adds-there (adds-two {at = expr_of} {exists = IsExprRow} (row.Binary c.args.op) (tree.binary c.args.op) (λ u a b. refl) (λ u a b p q. (p, q))
    c.in_ok-left.ensures c.in_ok-right.ensures)

pub returns : goal.returns
returns c =
    adds-over (λ e. e)
    (adds-two {at = expr_of} {exists = IsExprRow} (row.Binary c.args.op) (tree.binary c.args.op) (λ u a b. refl) (λ u a b p q. (p, q))
    c.in_ok-left.ensures c.in_ok-right.ensures) c.in_ok-number.ensures
