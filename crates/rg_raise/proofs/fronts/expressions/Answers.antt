use Rattle.std.proofs.lemmas.Result.{err_from_is_err_and}
use Rattle.rg_raise.proofs.FrontRows.{finds-none, finds-some}
use Rattle.rg_raise.proofs.fronts.expressions.Goals as goal

pub returns-in_err-rows : goal.returns-in_err-rows
returns-in_err-rows c t m ops fs a =
    let p = err_from_is_err_and c.from_residual.result c.from_residual.ensures.1 in
    rw (p.1, p.2) (finds-none a c.in_err-rows.field-0.0 c.in_err-rows.ensures)

pub returns : goal.returns
returns c t m ops fs a = finds-some a c.in_ok-rows.rows c.in_ok-rows.ensures
