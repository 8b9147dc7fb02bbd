use Rattle.std.proofs.Common.{refl}
use Rattle.rg_tree.specs.declared.rows.StmtKind.TheVariants as row
use Rattle.rg_tree.specs.Tree as tree
use Rattle.rg_make.specs.Inner.Adds.{kind_of, IsKindRow}
use Rattle.rg_make.proofs.Adding.{adds-there, adds-two, adds-over, block-there}
use Rattle.rg_make.proofs.builder.add_while.Goals as goal

pub put_stmt-requires : goal.put_stmt-requires
put_stmt-requires c =
    adds-there (adds-two {at = kind_of} {exists = IsKindRow} (λ b e. row.While e b) (λ b e. tree.while e b) (λ u b e. refl) (λ u b e p q. (q, p))
    (block-there c.args.program.now c.args.body c.requires) c.in_ok-test.ensures)

pub returns : goal.returns
returns c =
    adds-over (tree.stmt 1)
    (adds-two {at = kind_of} {exists = IsKindRow} (λ b e. row.While e b) (λ b e. tree.while e b) (λ u b e. refl) (λ u b e p q. (q, p))
    (block-there c.args.program.now c.args.body c.requires) c.in_ok-test.ensures)
    c.in_ok-number.ensures
