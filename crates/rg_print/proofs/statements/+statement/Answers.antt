use Rattle.std.proofs.Common.{◌<◌, length, arith}
use Rattle.std.proofs.lemmas.List.Elements.{All-get_or}
use Rattle.rg_tree.specs.Rows.Tables.{numbers_in}
use Rattle.rg_tree.proofs.Callers.{below-above, IsBlockIn-below, above-below, IsBlockIn-below_some, above_some-below}
use Rattle.rg_print.proofs.statements.+statement.Goals as goal

pub write_block-write_stmt-requires : goal.write_block-write_stmt-requires
write_block-write_stmt-requires t c =
    let l : c.loop-n.n-index < length (numbers_in c.args.program.now c.args.block) = rw c.order-n-items.ensures at c.loop-n-test.true in
    let d = c.decreases in
    let b = below-above _ _ l in
    let e = All-get_or (λ k. k < length c.args.program.now.stmts) _ c.loop-n.n-index 0 l c.requires.each in
    rw c.order-n-items.ensures (omega (arith, d, b), e)

pub write_stmt-write_block-requires : goal.write_stmt-write_block-requires
write_stmt-write_block-requires t c =
    let d = c.decreases in
    let b = rw c.in-If.is at c.stmt.ensures.below in
    let a = above-below _ _ _ b.1 in
    (omega (arith, d, a), IsBlockIn-below _ _ _ c.requires b.1)

pub write_stmt-write_else-requires : goal.write_stmt-write_else-requires
write_stmt-write_else-requires t c =
    let d = c.decreases in
    let b = rw c.in-If.is at c.stmt.ensures.below in
    let a = above_some-below _ _ c.in-If.no b.2 in
    (omega (arith, d, a), IsBlockIn-below_some _ _ c.in-If.no c.requires b.2)

pub write_stmt-write_block-requires-in-While : goal.write_stmt-write_block-requires-in-While
write_stmt-write_block-requires-in-While t c =
    let d = c.decreases in
    let b = rw c.in-While.is at c.stmt.ensures.below in
    let a = above-below _ _ _ b.1 in
    (omega (arith, d, a), IsBlockIn-below _ _ _ c.requires b.1)

pub write_stmt-write_block-requires-in-Enter : goal.write_stmt-write_block-requires-in-Enter
write_stmt-write_block-requires-in-Enter t c =
    let d = c.decreases in
    let b = rw c.in-Enter.is at c.stmt.ensures.below in
    let a = above-below _ _ _ b.2 in
    (omega (arith, d, a), IsBlockIn-below _ _ _ c.requires b.2)
