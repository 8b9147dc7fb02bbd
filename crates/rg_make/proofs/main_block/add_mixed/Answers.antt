use Rattle.std.proofs.Common.{refl}
use Rattle.rg_tree.specs.declared.rows.ExprRow.TheVariants as row
use Rattle.rg_tree.specs.declared.rows.BinOp.TheVariants as op
use Rattle.rg_tree.specs.Rows.RowTrees.{expr_of}
use Rattle.rg_make.specs.Inner.Adds.{IsExprRow}
use Rattle.rg_tree.specs.Tree as tree
use Rattle.rg_make.proofs.Adding.{adds-there, adds-two, adds-over}
use Rattle.rg_make.proofs.main_block.add_mixed.Goals as goal

pub put_expr-requires : goal.put_expr-requires
put_expr-requires c =
    adds-there (adds-two {at = expr_of} {exists = IsExprRow} (row.Binary op.Rem) (tree.binary op.Rem) (λ u a b. refl) (λ u a b p q. (p, q))
    c.in_ok-total.ensures c.in_ok-modulus.ensures)

pub returns : goal.returns
returns c =
    adds-over (λ e. e) (adds-two {at = expr_of} {exists = IsExprRow} (row.Binary op.Rem) (tree.binary op.Rem) (λ u a b. refl) (λ u a b p q.
    (p, q)) c.in_ok-total.ensures c.in_ok-modulus.ensures) c.in_ok-number.ensures
