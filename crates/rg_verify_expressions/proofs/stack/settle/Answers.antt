use Rattle.std.proofs.Common.{subst, refl}
use Rattle.rg_tree.specs.declared.rows.BinOp.{BinOp}
use Rattle.rg_tree.specs.declared.rows.ExprRow.TheVariants as row
use Rattle.rg_tree.specs.Rows.RowTrees.{expr_of}
use Rattle.rg_tree.proofs.Adding.{extends-trans}
use Rattle.rg_verify_expressions.specs.Inner.Adds.{AddsTree}
use Rattle.rg_verify_expressions.specs.Raising.{tree}
use Rattle.rg_verify_expressions.proofs.Settle.{left-taken, left-next, junction-there}
use Rattle.rg_verify_expressions.proofs.stack.settle.Goals as goal

pub row_of-requires : goal.row_of-requires
row_of-requires c =
    let (items, p) = c.requires.pile in
    let (r, f) = c.requires.tree in
    let l = c.loop-wait.invariant items r p f in
    (tree l.r, l.is)

pub put_expr-requires : goal.put_expr-requires
put_expr-requires c =
    let (items, p) = c.requires.pile in
    let (r, f) = c.requires.tree in
    let m = c.args.body.in_method in
    let k = left-taken c.take_wait.new.stack.items c.in-Some.wait (c.loop-wait.invariant items r p f)
    (λ xs q. c.in-Some.ensures.takes c.loop-wait.program m xs q) in
    junction-there m c.in-Some.wait {j = c.in-Some.wait.junction} k.a k.r refl k.left (c.in_ok-right.ensures.makes (tree k.r) k.is)

pub loop-wait-preserved : goal.loop-wait-preserved
loop-wait-preserved c items r p f =
    let m = c.args.body.in_method in
    let w = c.in-Some.wait in
    let v = c.row_of.new.program in
    let k = left-taken c.take_wait.new.stack.items w (c.loop-wait.invariant items r p f)
    (λ xs q. c.in-Some.ensures.takes c.loop-wait.program m xs q) in
    let put = subst (λ (o : BinOp). AddsTree v c.put_expr.new.program c.in-Ok.row (expr_of v (row.Binary o w.left c.in_ok-right.right)))
    c.operator_of.ensures c.in-Ok.ensures.adds in
    left-next k (c.in_ok-right.ensures.makes (tree k.r) k.is) put

pub returns-in_err-right-clause-grows : goal.returns-in_err-right-clause-grows
returns-in_err-right-clause-grows c =
    let (items, p) = c.requires.pile in
    let (r, f) = c.requires.tree in
    extends-trans (c.loop-wait.invariant items r p f).extends c.in_err-right.ensures.grows

pub returns-in_default-put_expr-clause-grows : goal.returns-in_default-put_expr-clause-grows
returns-in_default-put_expr-clause-grows c =
    let (items, p) = c.requires.pile in
    let (r, f) = c.requires.tree in
    extends-trans (c.loop-wait.invariant items r p f).extends (extends-trans c.in_ok-right.ensures.grows c.in_default-put_expr.ensures.grows)

pub returns-clause-grows : goal.returns-clause-grows
returns-clause-grows c =
    let (items, p) = c.requires.pile in
    let (r, f) = c.requires.tree in
    (c.loop-wait.invariant items r p f).extends
