use Rattle.std.proofs.Common.{◌-◌, ◌<◌, Some, None, length, arith}
use Rattle.std.proofs.lemmas.List.Elements.{All-get_or}
use Rattle.rg_tree.specs.Rows.RowTrees.{block_of, stmt_at}
use Rattle.rg_tree.specs.Rows.Tables.{numbers_in}
use Rattle.rg_tree.proofs.Callers.{below-above, IsBlockIn-below, above-below, IsBlockIn-below_some, above_some-below}
use Rattle.rg_rules.specs.Names.{block_names, stmt_names}
use Rattle.rg_limits.specs.Each.{HoldsInBlock}
use Rattle.rg_limits.specs.Opens.{block_opens}
use Rattle.rg_limits.specs.Inner.Fine.{IsFine}
use Rattle.rg_limits.proofs.Leaving.{in-brackets, no-args, numbers_names, AreFine, IsOneFine, block-first, goes-on, ends-there, at-end}
use Rattle.rg_limits.proofs.blocks.+statement.Goals as goal

pub left_in_braces-left_in_stmt-requires : goal.left_in_braces-left_in_stmt-requires
left_in_braces-left_in_stmt-requires t c =
    let l : c.loop-n.n-index < length (numbers_in c.args.program.now c.args.block) = rw c.order-n-items.ensures at c.loop-n-test.true in
    let d = c.decreases in
    let b = below-above _ _ l in
    let e = All-get_or (λ k. k < length c.args.program.now.stmts) _ c.loop-n.n-index 0 l c.requires.each in
    rw c.order-n-items.ensures (omega (arith, d, b), e)

pub left_in_braces-returns-in_default : goal.left_in_braces-returns-in_default
left_in_braces-returns-in_default t c =
    let at = stmt_at c.args.program.now in
    let b = block_of c.args.program.now c.args.block in
    let inner = c.args.room - 1 in
    in-brackets c.args.left (block_names b) (block_opens b) c.args.room (HoldsInBlock IsFine b) None c.if-room-eq0.false
    (ends-there (numbers_names at) (AreFine inner at) (λ k. stmt_names (at k)) (IsOneFine inner at) (block-first inner at) _ _ _ _ _
    c.loop-n-test.true c.loop-n.invariant c.in_default.ensures)

pub left_in_braces-loop-n-preserved : goal.left_in_braces-loop-n-preserved
left_in_braces-loop-n-preserved t c =
    let at = stmt_at c.args.program.now in
    let inner = c.args.room - 1 in
    goes-on (numbers_names at) (AreFine inner at) (λ k. stmt_names (at k)) (IsOneFine inner at) (block-first inner at) _ _ _ _ _ _
    c.loop-n-test.true c.loop-n.invariant c.in-Some.ensures

pub left_in_braces-returns : goal.left_in_braces-returns
left_in_braces-returns t c =
    let at = stmt_at c.args.program.now in
    let b = block_of c.args.program.now c.args.block in
    let inner = c.args.room - 1 in
    in-brackets c.args.left (block_names b) (block_opens b) c.args.room (HoldsInBlock IsFine b) (Some c.loop-n.rest) c.if-room-eq0.false
    (at-end (numbers_names at) (AreFine inner at) (λ k. stmt_names (at k)) (IsOneFine inner at) (block-first inner at) _ _ _ _ _
    c.loop-n-test.false c.loop-n.invariant (no-args inner c.loop-n.rest))

pub left_in_stmt-left_in_braces-requires : goal.left_in_stmt-left_in_braces-requires
left_in_stmt-left_in_braces-requires t c =
    let d = c.decreases in
    let b = rw c.in-If.is at c.stmt.ensures.below in
    let a = above-below _ _ _ b.1 in
    (omega (arith, d, a), IsBlockIn-below _ _ _ c.requires b.1)

pub left_in_stmt-left_in_else-requires : goal.left_in_stmt-left_in_else-requires
left_in_stmt-left_in_else-requires t c =
    let d = c.decreases in
    let b = rw c.in-If.is at c.stmt.ensures.below in
    let a = above_some-below _ _ c.in-If.no b.2 in
    (omega (arith, d, a), IsBlockIn-below_some _ _ c.in-If.no c.requires b.2)

pub left_in_stmt-left_in_braces-requires-in-While : goal.left_in_stmt-left_in_braces-requires-in-While
left_in_stmt-left_in_braces-requires-in-While t c =
    let d = c.decreases in
    let b = rw c.in-While.is at c.stmt.ensures.below in
    let a = above-below _ _ _ b.1 in
    (omega (arith, d, a), IsBlockIn-below _ _ _ c.requires b.1)

pub left_in_stmt-left_in_braces-requires-in-Enter : goal.left_in_stmt-left_in_braces-requires-in-Enter
left_in_stmt-left_in_braces-requires-in-Enter t c =
    let d = c.decreases in
    let b = rw c.in-Enter.is at c.stmt.ensures.below in
    let a = above-below _ _ _ b.2 in
    (omega (arith, d, a), IsBlockIn-below _ _ _ c.requires b.2)
