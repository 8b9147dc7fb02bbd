use Rattle.std.proofs.Common.{refl}
use Rattle.rg_tree.specs.declared.rows.MemberRow.TheVariants as row
use Rattle.rg_tree.specs.Rows.RowTrees.{member_of}
use Rattle.rg_tree.specs.Rows.RowsExist.{IsMemberIn}
use Rattle.rg_tree.specs.Tree as tree
use Rattle.rg_make.proofs.Adding.{adds-there, adds-two, adds-over}
use Rattle.rg_make.proofs.builder.add_field.Goals as goal

pub put_member-requires : goal.put_member-requires
put_member-requires c =
    adds-there (adds-two {at = member_of} {exists = IsMemberIn} (λ n y. row.Field n y 1) (λ n y. tree.field (record { name = n; ty = y; line = 1 }))
    (λ u n y. refl) (λ u n y p q. (p, q)) c.in_ok-name.ensures c.in_ok-ty.ensures)

pub returns : goal.returns
returns c =
    adds-over (λ m. m)
    (adds-two {at = member_of} {exists = IsMemberIn} (λ n y. row.Field n y 1) (λ n y. tree.field (record { name = n; ty = y; line = 1 }))
    (λ u n y. refl) (λ u n y p q. (p, q)) c.in_ok-name.ensures c.in_ok-ty.ensures)
    c.in_ok-number.ensures
