use Rattle.std.proofs.Common.{refl, sym, ◌∙◌, arith}
use Rattle.std.proofs.lemmas.Option.{slice_get_within}
use Rattle.std.proofs.lemmas.Result.{err_from_is_err_and}
use Rattle.rg_verify_expressions.proofs.Walking.{walking-start, walking-past, walking-ends, walking-next, walking-refused}
use Rattle.rg_verify_expressions.proofs.expressions.walk.Goals as goal

pub loop-at-init : goal.loop-at-init
loop-at-init c =
    walking-start c.args.program.now c.args.body.in_method c.args.code.now.ops c.args.from c.new-stack.result.items c.requires
    c.new-stack.ensures.items

pub returns-in_default-clause-walks : goal.returns-in_default-clause-walks
returns-in_default-clause-walks c =
    walking-ends c.loop-at.invariant c.get.result c.get.ensures (sym c.part_of.ensures ∙ c.in_default.is) c.loop-at.stack refl

pub loop-at-preserved : goal.loop-at-preserved
loop-at-preserved c =
    let lt = slice_get_within c.args.code.now.ops c.loop-at.at c.get.result c.get.ensures in
    walking-next c.loop-at.invariant c.get.result c.get.ensures c.in-Some.part (sym c.part_of.ensures ∙ c.in-Some.is) c.act.new.program
    c.act.new.stack.items lt c.in_ok-act.ensures.makes

pub returns-in_err-act-clause-walks : goal.returns-in_err-act-clause-walks
returns-in_err-act-clause-walks c =
    let p = err_from_is_err_and c.from_residual.result c.from_residual.ensures.1 in
    rw (p.1, p.2) (walking-refused c.loop-at.invariant c.get.result c.get.ensures c.in-Some.part (sym c.part_of.ensures ∙ c.in-Some.is)
    c.act.new.program c.act.new.stack.items c.in_err-act.field-0.0 c.in_err-act.ensures.makes)

pub returns-clause-walks : goal.returns-clause-walks
returns-clause-walks c = walking-past c.loop-at.invariant (omega arith) c.loop-at.stack refl
