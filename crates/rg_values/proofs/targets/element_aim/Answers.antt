use Rattle.std.proofs.lemmas.Result.{err_from_is_err_and}
use Rattle.rg_values.specs.Kept.{kept_of}
use Rattle.rg_values.proofs.Statements.Element.{element-aim, element-cut}
use Rattle.rg_values.proofs.targets.element_aim.Goals as goal

pub returns-in_err-spot : goal.returns-in_err-spot
returns-in_err-spot c =
    let p = err_from_is_err_and c.from_residual.result c.from_residual.ensures.1 in
    let is = rw (c.deref.ensures.value, c.deref-2.ensures.value) at c.in_err-spot.ensures in
    rw (p.1, p.2) (element-cut c.args.book.now.program (kept_of c.args.m.now) c.args.path c.args.index c.in_err-spot.field-0.0 is)

pub returns : goal.returns
returns c =
    let is = rw (c.deref.ensures.value, c.deref-2.ensures.value) at c.in_ok-spot.ensures in
    element-aim c.args.book.now.program (kept_of c.args.m.now) c.args.path c.args.index c.in_ok-spot.spot is
