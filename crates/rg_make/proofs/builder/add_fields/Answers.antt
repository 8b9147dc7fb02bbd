use Rattle.std.proofs.Common.{length}
use Rattle.rg_tree.specs.Rows.Tables.{name_at}
use Rattle.rg_tree.specs.Rows.RowsExist.{IsNameIn}
use Rattle.rg_make.proofs.Adding.{adds-none, adds-push, adds-order}
use Rattle.rg_make.proofs.builder.add_fields.Goals as goal

pub returns-in_ok-span-in-None : goal.returns-in_ok-span-in-None
returns-in_ok-span-in-None c =
    let e = c.in_ok-span-in-None.ensures in
    rw c.in-None.is (adds-order name_at (λ t. length t.names) (adds-none name_at IsNameIn _) e.keeps e.program e.span)

pub returns-in_ok-span-in-One : goal.returns-in_ok-span-in-One
returns-in_ok-span-in-One c =
    let e = c.in_ok-span-in-One.ensures in
    rw c.in-One.is
    (adds-order name_at (λ t. length t.names) (adds-push (adds-none name_at IsNameIn _) c.in_ok-one-in-One.ensures) e.keeps e.program e.span)

pub returns-in_ok-span-in-Two : goal.returns-in_ok-span-in-Two
returns-in_ok-span-in-Two c =
    let e = c.in_ok-span-in-Two.ensures in
    rw c.in-Two.is
    (adds-order name_at (λ t. length t.names)
    (adds-push (adds-push (adds-none name_at IsNameIn _) c.in_ok-one-in-Two.ensures) c.in_ok-two-in-Two.ensures) e.keeps e.program e.span)
