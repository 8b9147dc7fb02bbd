use Rattle.std.proofs.Common.{refl}
use Rattle.rg_tree.specs.declared.rows.MemberRow.TheVariants as row
use Rattle.rg_tree.specs.Rows.RowTrees.{member_of}
use Rattle.rg_tree.specs.Rows.RowsExist.{IsMemberIn}
use Rattle.rg_tree.specs.Tree as tree
use Rattle.rg_make.proofs.Adding.{adds-there, adds-four, adds-over, block-there}
use Rattle.rg_make.proofs.builder.add_method.Goals as goal

pub put_member-requires : goal.put_member-requires
put_member-requires c =
    let k = c.args.head.receiver in
    adds-there (adds-four {at = member_of} {exists = IsMemberIn} (λ b n ps r. row.Method k n ps r b 1)
    (λ b n ps r. tree.method (record { receiver = k; name = n; params = ps; result = r; body = b; line = 1 })) (λ u b n ps r. refl)
    (λ u b n ps r w x y z. (x, y, z, w)) (block-there c.args.program.now c.args.body c.requires) c.in_ok-name.ensures c.in_ok-params.ensures
    c.in_ok-result.ensures)

pub returns : goal.returns
returns c =
    let k = c.args.head.receiver in
    adds-over (λ m. m)
    (adds-four {at = member_of} {exists = IsMemberIn} (λ b n ps r. row.Method k n ps r b 1)
    (λ b n ps r. tree.method (record { receiver = k; name = n; params = ps; result = r; body = b; line = 1 })) (λ u b n ps r. refl)
    (λ u b n ps r w x y z. (x, y, z, w)) (block-there c.args.program.now c.args.body c.requires) c.in_ok-name.ensures c.in_ok-params.ensures
    c.in_ok-result.ensures)
    c.in_ok-number.ensures
