use Rattle.std.proofs.Common.{None, refl}
use Rattle.rg_tree.specs.declared.rows.Right.TheVariants as right_row
use Rattle.rg_tree.specs.Tree as tree
use Rattle.rg_tree.specs.Rows.RowTrees.{right_of}
use Rattle.rg_tree.specs.Rows.RowsExist.{IsRightIn}
use Rattle.rg_raise.proofs.Rows.{adds-one}
use Rattle.rg_raise.proofs.row_parts.making_row.Goals as goal

pub returns-in_ok-name-in-New-clause-adds : goal.returns-in_ok-name-in-New-clause-adds
returns-in_ok-name-in-New-clause-adds c =
    rw c.in-New.is (adds-one {at = right_of} {exists = IsRightIn} (λ n. right_row.New n None) (λ n. tree.new n None) (λ u n. refl)
    (λ u n p. (p, tt)) c.in_ok-name-in-New.ensures.adds)

pub returns-in_ok-name-in-NewTmp-clause-adds : goal.returns-in_ok-name-in-NewTmp-clause-adds
returns-in_ok-name-in-NewTmp-clause-adds c =
    rw c.in-NewTmp.is (adds-one {at = right_of} {exists = IsRightIn} (λ n. right_row.NewTmp n None) (λ n. tree.new_tmp n None) (λ u n. refl)
    (λ u n p. (p, tt)) c.in_ok-name-in-NewTmp.ensures.adds)

pub returns-in_ok-name-in-NewIso-clause-adds : goal.returns-in_ok-name-in-NewIso-clause-adds
returns-in_ok-name-in-NewIso-clause-adds c =
    rw c.in-NewIso.is (adds-one {at = right_of} {exists = IsRightIn} (λ n. right_row.NewIso n None c.in-NewIso.manager)
    (λ n. tree.new_iso n None c.in-NewIso.manager) (λ u n. refl) (λ u n p. (p, tt)) c.in_ok-name-in-NewIso.ensures.adds)
