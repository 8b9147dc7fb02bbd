use Rattle.std.proofs.lemmas.Result.{err_from_is_err_and}
use Rattle.rg_verify_expressions.proofs.Places.{bound-put, bound-refused}
use Rattle.rg_verify_expressions.proofs.Refused.{index-refused}
use Rattle.rg_verify_expressions.proofs.stack.put_bound.Goals as goal

pub returns-in_err-index-clause-makes : goal.returns-in_err-index-clause-makes
returns-in_err-index-clause-makes c items p =
    let q = err_from_is_err_and c.from_residual.result c.from_residual.ensures.1 in
    rw (q.1, q.2) (index-refused c.args.program.now c.take_row.new.program c.args.body.in_method c.take_row.new.stack.items items
    c.in_err-index.field-0.0 (c.in_err-index.ensures.takes items p))

pub returns-in_err-path-clause-makes : goal.returns-in_err-path-clause-makes
returns-in_err-path-clause-makes c items p =
    let u = c.take_row.new.program in
    let m = c.args.body.in_method in
    let q = err_from_is_err_and c.from_residual-in_err-path.result c.from_residual-in_err-path.ensures.1 in
    rw (q.1, q.2) (bound-refused c.args.program.now u m c.take_row.new.stack.items c.take_checked.new.stack.items items c.in_ok-index.index
    (c.in_ok-index.ensures.takes items p) c.in_err-path.field-0.0 (λ below r. c.in_err-path.ensures u m below r))

pub returns-clause-makes : goal.returns-clause-makes
returns-clause-makes c items p =
    let u = c.take_row.new.program in
    let m = c.args.body.in_method in
    bound-put c.args.program.now u m c.take_row.new.stack.items c.take_checked.new.stack.items items c.in_ok-index.index
    (c.in_ok-index.ensures.takes items p) c.in_ok-path.path (λ below r. c.in_ok-path.ensures u m below r) c.push.new.stack.items c.push.result
    c.push.ensures
