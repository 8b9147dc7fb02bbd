use Rattle.std.proofs.Common.{refl}
use Rattle.rg_tree.specs.declared.rows.StmtKind.TheVariants as row
use Rattle.rg_tree.specs.declared.rows.Right.TheVariants as right
use Rattle.rg_tree.specs.Tree as tree
use Rattle.rg_make.proofs.Adding.{adds-two, adds-three}
use Rattle.rg_make.proofs.builder.kind_row.Goals as goal

pub returns-in_ok-right-in-Let : goal.returns-in_ok-right-in-Let
returns-in_ok-right-in-Let c =
    rw c.in-Let.is
    (adds-three row.Let tree.declare (λ u n y r. refl) (λ u n y r p q w. (p, q, w)) c.in_ok-name-in-Let.ensures c.in_ok-ty-in-Let.ensures
    c.in_ok-right-in-Let.ensures)

pub returns-in_ok-value-in-Set : goal.returns-in_ok-value-in-Set
returns-in_ok-value-in-Set c =
    rw c.in-Set.is
    (adds-two (λ p e. row.Set p (right.Expr e)) (λ p e. tree.assign p (tree.value e)) (λ u p e. refl) (λ u p e x y. (x, y))
    c.in_ok-path-in-Set.ensures c.in_ok-value-in-Set.ensures)
