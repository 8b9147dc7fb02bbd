use Rattle.std.proofs.Common.{◌∙◌, ◌<◌, sym, length, get_or, option_map, arith}
use Rattle.std.proofs.lemmas.List.{length-map}
use Rattle.std.proofs.lemmas.List.Elements.{All-get_or}
use Rattle.rg_tree.specs.Rows.Tables.{name_at, numbers_in}
use Rattle.rg_tree.specs.Rows.RowTrees.{classes_of, path_of, expr_at, block_of, stmt_at, else_over}
use Rattle.rg_tree.proofs.Callers.{above, below-above, IsBlockIn-below, above-below, IsBlockIn-below_some, above_some-below}
use Rattle.rg_code.specs.Lowering.{else_code, else_gap}
use Rattle.rg_lower.specs.Inner.Slots.{slot_of_row, scope_of}
use Rattle.rg_lower.proofs.BlockSteps.{block-room, kept-count}
use Rattle.rg_lower.proofs.BlockTurns.{block-turn, block-all, block-at-end, kept-behind, inside-is, over-window}
use Rattle.rg_lower.proofs.Jumps.{over-block, over-loop, over-else}
use Rattle.rg_lower.proofs.statements.+statement.Goals as goal

pub write_these-write_stmt-requires : goal.write_these-write_stmt-requires
write_these-write_stmt-requires t c =
    let p = c.args.book.now.program in
    let l : c.loop-n.n-index < length (numbers_in p c.args.block) = rw c.order-these.ensures at c.loop-n-test.true in
    let d = c.decreases in
    let b = below-above _ _ l in
    let e = All-get_or (λ k. k < length p.stmts) _ c.loop-n.n-index 0 l c.requires.block.each in
    let r = block-room p c.args.slots.now c.args.code.now c.order-these.result.now c.loop-n.slots c.loop-n.code c.loop-n.n-index c.loop-n-test.true
    c.loop-n.invariant in
    let m : get_or c.order-these.result.now c.loop-n.n-index 0 < length p.stmts = rw c.order-these.ensures e in
    let f : get_or c.order-these.result.now c.loop-n.n-index 0 < above (numbers_in p c.args.block) = rw c.order-these.ensures b in
    (omega (arith, d, f), (c.loop-n.invariant.held_in, (m, r)))

pub write_these-loop-n-preserved : goal.write_these-loop-n-preserved
write_these-loop-n-preserved t c =
    block-turn c.args.book.now.program c.args.slots.now c.args.code.now c.order-these.result.now c.loop-n.slots c.write_stmt.new.slots c.loop-n.code
    c.write_stmt.new.code c.loop-n.n-index c.loop-n-test.true c.loop-n.invariant c.in_ok-write_stmt.ensures.slots c.in_ok-write_stmt.ensures.code

pub write_these-returns-clause-code : goal.write_these-returns-clause-code
write_these-returns-clause-code t c =
    let p = c.args.book.now.program in
    block-all p c.args.slots.now c.args.code.now c.order-these.result.now (numbers_in p c.args.block) c.loop-n.slots c.loop-n.code c.loop-n.n-index
    c.loop-n-test.false c.order-these.ensures c.loop-n.invariant

pub write_these-returns-clause-slots : goal.write_these-returns-clause-slots
write_these-returns-clause-slots t c =
    let p = c.args.book.now.program in
    block-at-end p c.args.slots.now c.args.code.now c.order-these.result.now (numbers_in p c.args.block) c.loop-n.slots c.loop-n.code c.loop-n.n-index
    c.loop-n-test.false c.order-these.ensures c.loop-n.invariant

pub write_block-keep-requires : goal.write_block-keep-requires
write_block-keep-requires t c =
    rw c.next-first.ensures.is (kept-count c.args.slots.now c.write_these.new.slots c.in_ok-write_these.ensures.slots.kept)

pub write_enter-keep-requires : goal.write_enter-keep-requires
write_enter-keep-requires t c =
    rw c.next-first.ensures.is (kept-count c.args.slots.now c.write_these.new.slots
    (kept-behind c.args.slots.now c.push.new.self c.write_these.new.slots _ c.in_ok-push.ensures c.in_ok-write_these.ensures.slots.kept))

pub write_enter-returns-clause-code : goal.write_enter-returns-clause-code
write_enter-returns-clause-code t c =
    let p = c.args.book.now.program in
    let e = c.args.entrance in
    over-window (classes_of p) (scope_of p c.args.slots.now) (scope_of p c.push.new.self) (scope_of p c.write_these.new.slots) c.args.code.now
    c.write_entry.new.code c.write_these.new.code c.push-2.new.self c.push-3.new.self c.args.body.line c.next-first.result (path_of p e.path)
    (name_at p e.name) (block_of p c.args.body.span) (option_map (name_at p) e.giving) c.in_ok-ty.ensures.code
    (inside-is p c.args.slots.now c.push.new.self e.path e.name c.in_ok-ty.ty c.in_ok-push.ensures c.in_ok-ty.ensures.ty)
    c.in_ok-write_these.ensures.code c.in_ok-write_these.ensures.slots.scope
    (c.next-first.ensures.is ∙ sym (length-map c.args.slots.now (slot_of_row p))) c.in_ok-push-2.ensures
    (rw c.leaving-leave.ensures.op at c.in_ok-push-3.ensures)

pub write_enter-returns-clause-slots : goal.write_enter-returns-clause-slots
write_enter-returns-clause-slots t c =
    rw (c.keep.ensures, c.next-first.ensures.is) (kept-behind c.args.slots.now c.push.new.self c.write_these.new.slots _ c.in_ok-push.ensures
    c.in_ok-write_these.ensures.slots.kept)

pub write_else-returns-in_ok-write_nested-in-Some-clause-code :
    goal.write_else-returns-in_ok-write_nested-in-Some-clause-code
write_else-returns-in_ok-write_nested-in-Some-clause-code k c =
    let t = c.args.book.now.program in
    rw c.in-Some.is (over-else (classes_of t) (scope_of t c.args.slots.now) c.args.code.now c.push.new.self c.write_nested.new.code c.set.new.self
    c.args.line (block_of t c.in-Some.span) c.len-over.result c.len-end.result c.len-over.ensures c.in_ok-push-in-Some.ensures
    c.in_ok-write_nested-in-Some.ensures.code c.len-end.ensures c.set.ensures)

pub write_if-returns-clause-code : goal.write_if-returns-clause-code
write_if-returns-clause-code k c =
    let t = c.args.book.now.program in
    let other = else_over t (stmt_at t) c.args.no in
    over-block (classes_of t) (scope_of t c.args.slots.now) c.args.code.now c.write_test.new.code c.write_nested.new.code c.write_else.new.code
    c.set.new.self c.args.yes.line (expr_at t c.args.test) (block_of t c.args.yes.span)
    (λ at. else_code (classes_of t) (scope_of t c.args.slots.now) at c.args.yes.line other) (else_gap other) c.in_ok-jump.jump c.in_ok-to.to
    c.in_ok-jump.ensures.code c.in_ok-jump.ensures.at c.in_ok-write_nested.ensures.code
    (rw c.in_ok-write_nested.ensures.slots at c.in_ok-to.ensures.code) c.in_ok-to.ensures.to c.set.ensures

pub write_while-returns-clause-code : goal.write_while-returns-clause-code
write_while-returns-clause-code k c =
    let t = c.args.book.now.program in
    over-loop (classes_of t) (scope_of t c.args.slots.now) c.args.code.now c.write_test.new.code c.write_nested.new.code c.push.new.self
    c.set.new.self c.args.head c.args.body.line (expr_at t c.args.test) (block_of t c.args.body.span) c.in_ok-jump.jump c.len-to.result
    c.in_ok-jump.ensures.code c.in_ok-jump.ensures.at c.in_ok-write_nested.ensures.code c.in_ok-push.ensures c.len-to.ensures c.set.ensures

pub write_stmt-write_if-requires : goal.write_stmt-write_if-requires
write_stmt-write_if-requires t c =
    let d = c.decreases in
    let b = rw c.in-If.is at c.stmt-row.ensures.below in
    let r = rw (c.stmt-row.ensures.tree, c.in-If.is) at c.requires.room in
    let y = above-below _ _ _ b.1 in
    let n = above_some-below _ _ c.in-If.no b.2 in (
      omega (arith, d, y, n),
      (
        c.requires.held,
        (b.0, (IsBlockIn-below _ _ _ c.requires.n b.1, (IsBlockIn-below_some _ _ c.in-If.no c.requires.n b.2, r))),
      ),
    )

pub write_stmt-write_while-requires : goal.write_stmt-write_while-requires
write_stmt-write_while-requires t c =
    let d = c.decreases in
    let b = rw c.in-While.is at c.stmt-row.ensures.below in
    let r = rw (c.stmt-row.ensures.tree, c.in-While.is) at c.requires.room in
    let a = above-below _ _ _ b.1 in
    (omega (arith, d, a), (c.requires.held, (b.0, (IsBlockIn-below _ _ _ c.requires.n b.1, r))))

pub write_stmt-write_enter-requires : goal.write_stmt-write_enter-requires
write_stmt-write_enter-requires t c =
    let d = c.decreases in
    let b = rw c.in-Enter.is at c.stmt-row.ensures.below in
    let r = rw (c.stmt-row.ensures.tree, c.in-Enter.is) at c.requires.room in
    let a = above-below _ _ _ b.2 in
    (omega (arith, d, a), (c.requires.held, (b.0, (b.1, (b.3, (IsBlockIn-below _ _ _ c.requires.n b.2, r))))))
