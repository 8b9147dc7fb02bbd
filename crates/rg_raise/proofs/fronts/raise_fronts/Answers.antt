use Rattle.std.proofs.Common.{arith}
use Rattle.std.proofs.lemmas.Result.{err_from_is_err_and}
use Rattle.rg_raise.proofs.FrontRows.{fronts-past, fronts-refused, fronts-raised}
use Rattle.rg_raise.proofs.fronts.raise_fronts.Goals as goal

pub returns-then-from-len-clause-told : goal.returns-then-from-len-clause-told
returns-then-from-len-clause-told c =
    fronts-past c.args.program.now c.args.body.in_method c.args.code.now.ops c.args.from c.new-rows.result
    (omega (arith, c.if-from-len.true, c.len.ensures))
    c.new-rows.ensures.items

pub returns-in_err-rows-clause-told : goal.returns-in_err-rows-clause-told
returns-in_err-rows-clause-told c =
    let p = err_from_is_err_and c.from_residual.result c.from_residual.ensures.1 in
    rw (p.1, p.2) (fronts-refused c.args.program.now c.raise_expressions.new.program c.args.body.in_method c.args.code.now.ops c.args.from
    c.in_err-rows.field-0.0 c.in_err-rows.ensures.raises)

pub returns-clause-told : goal.returns-clause-told
returns-clause-told c =
    fronts-raised c.args.program.now c.raise_expressions.new.program c.args.body.in_method c.args.code.now.ops c.args.from c.in_ok-rows.rows
    c.in_ok-rows.end c.in_ok-rows.ensures.raises

pub returns-clause-grows : goal.returns-clause-grows
returns-clause-grows c =
    let (fs, from, grown, are) =
    fronts-raised c.args.program.now c.raise_expressions.new.program c.args.body.in_method c.args.code.now.ops c.args.from c.in_ok-rows.rows
    c.in_ok-rows.end c.in_ok-rows.ensures.raises in
    grown
