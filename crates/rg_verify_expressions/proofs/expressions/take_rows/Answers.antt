use Rattle.std.proofs.Common.{◌≡◌, length, arith}
use Rattle.std.proofs.lemmas.Result.{err_from_is_err_and}
use Rattle.rg_verify_expressions.proofs.TreeStack.{piled-pop}
use Rattle.rg_tree.proofs.Adding.{extends-trans}
use Rattle.rg_verify_expressions.proofs.Walking.{taking-next, taking-refused, taking-end}
use Rattle.rg_verify_expressions.proofs.expressions.take_rows.Goals as goal

pub front_of-requires : goal.front_of-requires
front_of-requires c =
    let (items, p) = c.requires in
    let k = c.loop-held.invariant items p in
    let (x, xs, same, is, below) =
    piled-pop c.loop-held.program c.args.body.in_method c.loop-held.stack.items c.pop.new.self.items c.in-Some.held k.items c.in-Some.ensures.items
    k.piled in
    (x, is)

pub returns-in_err-row-clause-makes : goal.returns-in_err-row-clause-makes
returns-in_err-row-clause-makes c items p =
    let q = err_from_is_err_and c.from_residual.result c.from_residual.ensures.1 in
    rw (q.1, q.2) (taking-refused c.front_of.new.program c.pop.new.self.items c.in-Some.held c.in_err-row.field-0.0 (c.loop-held.invariant items p)
    c.in-Some.ensures.items c.in_err-row.ensures.makes)

pub loop-held-preserved : goal.loop-held-preserved
loop-held-preserved c items p =
    rw c.in-Ok.ensures.items (taking-next c.front_of.new.program c.pop.new.self.items c.in-Some.held c.in_ok-row.row (c.loop-held.invariant items p)
    c.in-Some.ensures.items c.in_ok-row.ensures.makes)

pub returns-clause-makes : goal.returns-clause-makes
returns-clause-makes c items p =
    let none : length c.loop-held.stack.items ≡ 0 = grind (arith, c.in_default.ensures.cases) in
    taking-end c.reverse.new.self none (c.loop-held.invariant items p) c.reverse.ensures.items

pub returns-in_err-row-clause-grows : goal.returns-in_err-row-clause-grows
returns-in_err-row-clause-grows c =
    let (items, p) = c.requires in
    extends-trans (c.loop-held.invariant items p).extends c.in_err-row.ensures.grows

pub returns-in_default-push-clause-grows : goal.returns-in_default-push-clause-grows
returns-in_default-push-clause-grows c =
    let (items, p) = c.requires in
    extends-trans (c.loop-held.invariant items p).extends c.in_ok-row.ensures.grows
