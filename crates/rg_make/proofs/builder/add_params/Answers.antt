use Rattle.std.proofs.Common.{length}
use Rattle.rg_tree.specs.Rows.RowTrees.{param_at}
use Rattle.rg_tree.specs.Rows.RowsExist.{IsParamNumber}
use Rattle.rg_make.proofs.Adding.{adds-none, adds-push, adds-order}
use Rattle.rg_make.proofs.builder.add_params.Goals as goal

pub returns-in_ok-span-in-None : goal.returns-in_ok-span-in-None
returns-in_ok-span-in-None c =
    let e = c.in_ok-span-in-None.ensures in
    rw c.in-None.is (adds-order param_at (λ t. length t.params) (adds-none param_at IsParamNumber _) e.keeps e.program e.span)

pub returns-in_ok-span-in-Some : goal.returns-in_ok-span-in-Some
returns-in_ok-span-in-Some c =
    let e = c.in_ok-span-in-Some.ensures in
    rw c.in-Some.is
    (adds-order param_at (λ t. length t.params) (adds-push (adds-none param_at IsParamNumber _) c.in_ok-number-in-Some.ensures) e.keeps e.program
    e.span)
