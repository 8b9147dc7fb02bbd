use Rattle.rg_verify_expressions.proofs.Places.{check-put}
use Rattle.std.proofs.lemmas.Result.{err_from_is_err_and}
use Rattle.rg_verify_expressions.proofs.Refused.{check-refused}
use Rattle.rg_verify_expressions.proofs.stack.put_check.Goals as goal

pub returns-in_err-slot-clause-makes : goal.returns-in_err-slot-clause-makes
returns-in_err-slot-clause-makes c items p =
    let t = c.args.program.now in
    let m = c.args.body.in_method in
    let q = err_from_is_err_and c.from_residual.result c.from_residual.ensures.1 in
    rw (q.1, q.2) (check-refused t m c.take_path.new.stack.items items c.in_err-slot.field-0.0 (c.in_err-slot.ensures t m items p))

pub returns-clause-makes : goal.returns-clause-makes
returns-clause-makes c items p =
    let t = c.args.program.now in
    let m = c.args.body.in_method in
    check-put t c.path_row.new.program m c.take_path.new.stack.items items c.in_ok-slot.slot c.in_ok-slot.fields (c.in_ok-slot.ensures t m items p)
    c.in-Ok.path c.as_slice.ensures.value c.in-Ok.ensures.adds c.push.new.stack.items c.push.result c.push.ensures
