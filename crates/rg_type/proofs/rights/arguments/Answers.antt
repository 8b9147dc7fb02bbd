use Rattle.std.proofs.Common.{length, arith}
use Rattle.std.proofs.lemmas.List.{length_push}
use Rattle.std.proofs.lemmas.List.Elements.{All-get_or}
use Rattle.std.proofs.lemmas.Result.{err_from_is_err_and}
use Rattle.std.proofs.lemmas.Slice.Zip.{zip_turn, zip_end}
use Rattle.rg_tree.specs.Rows.RowsExist.{IsExprNumber}
use Rattle.rg_names.specs.TreeAnswers.{IsGoodParam}
use Rattle.rg_type.proofs.RightSteps.{args-fail, args-step, args-end}
use Rattle.rg_type.proofs.rights.arguments.Goals as goal

pub type_of_param-ty-requires : goal.type_of_param-ty-requires
type_of_param-ty-requires c =
    let into = c.into_iter-param-iterator.ensures.into_iter_gives in
    let z = zip_turn c.args.params.now c.args.args.now c.loop-param.yielded c.into_iter-param-iterator.result c.loop-param.param-iterator
    c.next.new.self
    c.next.result (rw (into, c.zip-param-items.ensures.first) c.iter.ensures.rest) (rw into c.zip-param-items.ensures.second.0)
    c.loop-param.yielded_by
    (c.in-Some.param, c.in-Some.arg) c.in-Some.is c.next.ensures.steps in
    record {
      param = rw (z.2 0) (All-get_or (IsGoodParam c.args.book.now.program) c.args.params.now (length c.loop-param.yielded) 0 z.0 c.requires.params);
    }

pub expression-requires-clause-expression : goal.expression-requires-clause-expression
expression-requires-clause-expression c =
    let into = c.into_iter-param-iterator.ensures.into_iter_gives in
    let z = zip_turn c.args.params.now c.args.args.now c.loop-param.yielded c.into_iter-param-iterator.result c.loop-param.param-iterator
    c.next.new.self
    c.next.result (rw (into, c.zip-param-items.ensures.first) c.iter.ensures.rest) (rw into c.zip-param-items.ensures.second.0)
    c.loop-param.yielded_by
    (c.in-Some.param, c.in-Some.arg) c.in-Some.is c.next.ensures.steps in
    rw (z.3 0) (All-get_or (IsExprNumber c.args.book.now.program) c.args.args.now (length c.loop-param.yielded) 0 z.1 c.requires.args)

pub loop-param-preserved : goal.loop-param-preserved
loop-param-preserved c =
    let into = c.into_iter-param-iterator.ensures.into_iter_gives in
    let z = zip_turn c.args.params.now c.args.args.now c.loop-param.yielded c.into_iter-param-iterator.result c.loop-param.param-iterator
    c.next.new.self
    c.next.result (rw (into, c.zip-param-items.ensures.first) c.iter.ensures.rest) (rw into c.zip-param-items.ensures.second.0)
    c.loop-param.yielded_by
    (c.in-Some.param, c.in-Some.arg) c.in-Some.is c.next.ensures.steps in
    rw (length_push c.loop-param.yielded (c.in-Some.param, c.in-Some.arg))
    (args-step c.args.book.now.program c.args.env.now c.loop-param.env c.expression.new.env c.args.params.now c.args.args.now
    (length c.loop-param.yielded) c.in_ok-expression.field-0 z.0 z.1 c.loop-param.invariant
    (rw (← (z.2 0), ← (z.3 0), ← c.type_of_param-ty.ensures.ty)
    c.in_ok-expression.ensures.judged)
    c.in_ok-expression.ensures.scope)

pub returns-in_err-expression-clause-judged : goal.returns-in_err-expression-clause-judged
returns-in_err-expression-clause-judged c =
    let r = err_from_is_err_and c.from_residual.result c.from_residual.ensures.1 in
    let into = c.into_iter-param-iterator.ensures.into_iter_gives in
    let z = zip_turn c.args.params.now c.args.args.now c.loop-param.yielded c.into_iter-param-iterator.result c.loop-param.param-iterator
    c.next.new.self
    c.next.result (rw (into, c.zip-param-items.ensures.first) c.iter.ensures.rest) (rw into c.zip-param-items.ensures.second.0)
    c.loop-param.yielded_by
    (c.in-Some.param, c.in-Some.arg) c.in-Some.is c.next.ensures.steps in
    rw (r.1, r.2) (args-fail c.args.book.now.program c.args.env.now c.loop-param.env c.args.params.now c.args.args.now (length c.loop-param.yielded) _
    z.0 z.1 c.loop-param.invariant (rw (← (z.2 0), ← (z.3 0), ← c.type_of_param-ty.ensures.ty) c.in_err-expression.ensures.judged))

pub returns-clause-judged : goal.returns-clause-judged
returns-clause-judged c =
    let into = c.into_iter-param-iterator.ensures.into_iter_gives in
    let z = zip_end c.args.params.now c.args.args.now c.loop-param.yielded c.into_iter-param-iterator.result c.loop-param.param-iterator
    c.next.new.self
    c.next.result (rw (into, c.zip-param-items.ensures.first) c.iter.ensures.rest) (rw into c.zip-param-items.ensures.second.0)
    c.loop-param.yielded_by
    c.in-None.is c.next.ensures.steps in
    let n = c.requires.as_many in
    args-end c.args.book.now.program c.args.env.now c.loop-param.env c.args.params.now c.args.args.now (length c.loop-param.yielded)
    (omega (arith, z, n)) (omega (arith, z, n)) c.loop-param.invariant
