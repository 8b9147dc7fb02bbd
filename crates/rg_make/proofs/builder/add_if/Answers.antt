use Rattle.std.proofs.Common.{Some, refl}
use Rattle.rg_tree.specs.declared.rows.StmtKind.TheVariants as row
use Rattle.rg_tree.specs.Tree as tree
use Rattle.rg_make.specs.Inner.Adds.{kind_of, IsKindRow}
use Rattle.rg_make.proofs.Adding.{adds-there, adds-three, adds-over, block-there}
use Rattle.rg_make.proofs.builder.add_if.Goals as goal

pub put_stmt-requires : goal.put_stmt-requires
put_stmt-requires c =
    adds-there (adds-three {at = kind_of} {exists = IsKindRow} (λ y n e. row.If e y (Some n)) (λ y n e. tree.branch e y (tree.otherwise n))
    (λ u y n e. refl) (λ u y n e p q r. (r, p, q)) (block-there c.args.program.now c.args.first c.requires.first)
    (block-there c.args.program.now c.args.second c.requires.second) c.in_ok-test.ensures)

pub returns : goal.returns
returns c =
    adds-over (tree.stmt 1)
    (adds-three {at = kind_of} {exists = IsKindRow} (λ y n e. row.If e y (Some n)) (λ y n e. tree.branch e y (tree.otherwise n))
    (λ u y n e. refl) (λ u y n e p q r. (r, p, q)) (block-there c.args.program.now c.args.first c.requires.first)
    (block-there c.args.program.now c.args.second c.requires.second) c.in_ok-test.ensures)
    c.in_ok-number.ensures
