use Rattle.std.proofs.Common.{None, refl}
use Rattle.rg_tree.specs.declared.rows.StmtKind.TheVariants as row
use Rattle.rg_tree.specs.Tree as tree
use Rattle.rg_make.specs.Inner.Adds.{kind_of, IsKindRow}
use Rattle.rg_make.proofs.Adding.{adds-there, adds-three, adds-over, block-there}
use Rattle.rg_make.proofs.builder.add_enter.Goals as goal

pub put_stmt-requires : goal.put_stmt-requires
put_stmt-requires c =
    adds-there (adds-three {at = kind_of} {exists = IsKindRow} (λ b q z. row.Enter q z b None) (λ b q z. tree.enter q z b None) (λ u b q z. refl)
    (λ u b q z x y w. (y, w, x, tt)) (block-there c.args.program.now c.args.body c.requires) c.in_ok-path.ensures c.in_ok-name.ensures)

pub returns : goal.returns
returns c =
    adds-over (tree.stmt 1)
    (adds-three {at = kind_of} {exists = IsKindRow} (λ b q z. row.Enter q z b None) (λ b q z. tree.enter q z b None) (λ u b q z. refl)
    (λ u b q z x y w. (y, w, x, tt)) (block-there c.args.program.now c.args.body c.requires) c.in_ok-path.ensures c.in_ok-name.ensures)
    c.in_ok-number.ensures
