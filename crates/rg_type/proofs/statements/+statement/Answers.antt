use Rattle.std.proofs.Common.{◌<◌, length, get_or, arith}
use Rattle.std.proofs.lemmas.List.Elements.{All-get_or}
use Rattle.std.proofs.lemmas.Result.{err_from_is_err_and}
use Rattle.rg_tree.specs.Rows.Tables.{numbers_in}
use Rattle.rg_tree.proofs.Callers.{above, below-above}
use Rattle.rg_flow.specs.States.{IsReadable}
use Rattle.rg_tree.proofs.Callers.{IsBlockIn-below, above-below, IsBlockIn-below_some, above_some-below}
use Rattle.rg_type.proofs.ScopeSteps.{IsReadable-closed_at, IsReadable-restated, IsReadable-joined_with}
use Rattle.rg_type.proofs.BlockSteps.{OnOk-inner, block-fails, block-room, block-step}
use Rattle.rg_type.proofs.Branches.{saved-past}
use Rattle.rg_type.proofs.RowRules.{tested-room, entered-room, block-within, else-within, block-closed, block-again, if-fails-test, if-fails-first}
use Rattle.rg_type.proofs.RowRules.{if-fails-other, if-leaves, while-fails-at-test, while-fails-within, loop-within, loop-closed, while-uncovered}
use Rattle.rg_type.proofs.RowRules.{while-leaves, enter-fails-at-head, enter-fails-within, enter-fails-at-end, window-within, enter-leaves}
use Rattle.rg_type.proofs.statements.+statement.Goals as goal

pub block-statement-requires : goal.block-statement-requires
block-statement-requires t c =
    let l : c.loop-s.s-index < length (numbers_in c.args.book.now.program c.args.span) = rw c.order-s-items.ensures at c.loop-s-test.true in
    let d = c.decreases in
    let b = below-above _ _ l in
    let e = All-get_or (λ k. k < length c.args.book.now.program.stmts) _ c.loop-s.s-index 0 l c.requires.span.each in
    let r = block-room c.args.book.now.program c.args.span c.args.env.now c.loop-s.env c.order-s-items.result.now c.loop-s.s-index
    c.loop-s-test.true c.loop-s.invariant in
    let m : get_or c.order-s-items.result.now c.loop-s.s-index 0 < length c.args.book.now.program.stmts = rw c.order-s-items.ensures e in
    let f : get_or c.order-s-items.result.now c.loop-s.s-index 0 < above (numbers_in c.args.book.now.program c.args.span) =
    rw c.order-s-items.ensures b in
    (omega (arith, d, f), ((m, (c.loop-s.invariant.scope, (tt, r)))))

pub block-returns-in_err-statement-clause-judged : goal.block-returns-in_err-statement-clause-judged
block-returns-in_err-statement-clause-judged t c =
    let r = err_from_is_err_and c.from_residual.result c.from_residual.ensures.1 in
    rw (r.1, r.2) (block-fails c.args.book.now.program c.args.span c.args.env.now c.loop-s.env c.order-s-items.result.now c.loop-s.s-index
    c.in_err-statement.field-0.0 c.loop-s-test.true c.loop-s.invariant c.in_err-statement.ensures.judged)

pub block-loop-s-preserved : goal.block-loop-s-preserved
block-loop-s-preserved t c =
    block-step c.args.book.now.program c.args.span c.args.env.now c.loop-s.env c.statement.new.env c.order-s-items.result.now c.loop-s.s-index
    c.loop-s-test.true c.loop-s.invariant c.in_ok-statement.ensures.judged c.in_ok-statement.ensures.scope

pub branch-returns-in_err-tested-clause-judged : goal.branch-returns-in_err-tested-clause-judged
branch-returns-in_err-tested-clause-judged t c =
    let r = err_from_is_err_and c.from_residual.result c.from_residual.ensures.1 in
    rw (r.1, r.2) (if-fails-test c.args.book.now.program c.args.line c.args.e c.args.yes c.args.no c.args.env.now c.in_err-tested.field-0.0
    c.in_err-tested.ensures.judged)

pub branch-block-requires : goal.branch-block-requires
branch-block-requires t c =
    let d = c.decreases in
    let r = tested-room c.args.book.now.program c.args.line c.args.e c.args.env.now c.tested.new.env c.in_ok-tested.ensures.judged in
    (omega (arith, d), ((c.requires.yes, (c.in_ok-tested.ensures.scope, omega (arith, r, c.requires.room)))))

pub branch-returns-in_err-block-clause-judged : goal.branch-returns-in_err-block-clause-judged
branch-returns-in_err-block-clause-judged t c =
    let r = err_from_is_err_and c.from_residual-in_err-block.result c.from_residual-in_err-block.ensures.1 in
    rw (r.1, r.2) (if-fails-first c.args.book.now.program c.args.line c.args.e c.args.yes c.args.no c.args.env.now c.tested.new.env
    c.in_err-block.field-0.0
    c.in_ok-tested.ensures.judged c.in_err-block.ensures.judged)

pub branch-close-requires-clause-within : goal.branch-close-requires-clause-within
branch-close-requires-clause-within t c =
    let l = block-within c.args.book.now.program c.args.yes c.tested.new.env c.block.new.env c.in_ok-block.ensures.judged in omega (
      arith,
      l,
      c.save-front.ensures.len,
    )

pub branch-restore-requires : goal.branch-restore-requires
branch-restore-requires t c =
    let k = block-closed c.args.book.now.program c.args.yes c.save-front.result c.tested.new.env c.block.new.env c.close.new.self
    c.save-front.ensures c.in_ok-block.ensures.judged c.close.ensures in
    saved-past c.args.book.now.program c.save-front.result c.tested.new.env c.close.new.self c.save-front.ensures k.len

pub branch-else_block-requires : goal.branch-else_block-requires
branch-else_block-requires t c =
    let d = c.decreases in
    let a = block-again c.args.book.now.program c.args.yes c.save-front.result c.tested.new.env c.block.new.env c.close.new.self c.restore.new.self
    c.save-front.ensures c.in_ok-block.ensures.judged c.close.ensures c.restore.ensures in
    let w : IsReadable c.args.book.now.program c.close.new.self =
    rw c.close.ensures (IsReadable-closed_at c.args.book.now.program c.save-front.result.depth c.save-front.result.len c.block.new.env
    c.in_ok-block.ensures.scope) in
    let v : IsReadable c.args.book.now.program c.restore.new.self =
    rw c.restore.ensures (IsReadable-restated c.args.book.now.program c.save-front.result.flow c.close.new.self w) in
    let r = tested-room c.args.book.now.program c.args.line c.args.e c.args.env.now c.tested.new.env c.in_ok-tested.ensures.judged in
    (omega (arith, d), ((c.requires.no, (v, omega (arith, r, a.len, c.requires.room)))))

pub branch-returns-in_err-else_block-clause-judged : goal.branch-returns-in_err-else_block-clause-judged
branch-returns-in_err-else_block-clause-judged t c =
    let a = block-again c.args.book.now.program c.args.yes c.save-front.result c.tested.new.env c.block.new.env c.close.new.self c.restore.new.self
    c.save-front.ensures c.in_ok-block.ensures.judged c.close.ensures c.restore.ensures in
    let r = err_from_is_err_and c.from_residual-in_err-else_block.result c.from_residual-in_err-else_block.ensures.1 in
    rw (r.1, r.2) (if-fails-other c.args.book.now.program c.args.line c.args.e c.args.yes c.args.no c.args.env.now c.tested.new.env c.block.new.env
    c.restore.new.self
    c.in_err-else_block.field-0.0 c.in_ok-tested.ensures.judged c.in_ok-block.ensures.judged a c.in_err-else_block.ensures.judged)

pub branch-close-requires-2-clause-within : goal.branch-close-requires-2-clause-within
branch-close-requires-2-clause-within t c =
    let a = block-again c.args.book.now.program c.args.yes c.save-front.result c.tested.new.env c.block.new.env c.close.new.self c.restore.new.self
    c.save-front.ensures c.in_ok-block.ensures.judged c.close.ensures c.restore.ensures in
    let l = else-within c.args.book.now.program c.args.no c.restore.new.self c.else_block.new.env c.in_ok-else_block.ensures.judged in
    omega (arith, l, a.len, c.save-front.ensures.len)

pub branch-returns-clause-judged : goal.branch-returns-clause-judged
branch-returns-clause-judged t c =
    if-leaves c.args.book.now.program c.args.line c.args.e c.args.yes c.args.no c.args.env.now c.tested.new.env c.block.new.env c.close.new.self
    c.restore.new.self
    c.else_block.new.env c.close-2.new.self c.join.new.self c.save-front.result c.save-first.result c.in_ok-tested.ensures.judged (record {
      saved_is = c.save-front.ensures;
      out_is = c.in_ok-block.ensures.judged;
      here_is = c.close.ensures;
      first_is = c.save-first.ensures;
      again_is = c.restore.ensures;
      other_is = c.in_ok-else_block.ensures.judged;
      last_is = c.close-2.ensures;
      new_is = c.join.ensures;
    })

pub branch-returns-clause-scope : goal.branch-returns-clause-scope
branch-returns-clause-scope t c =
    let w : IsReadable c.args.book.now.program c.close-2.new.self =
    rw c.close-2.ensures (IsReadable-closed_at c.args.book.now.program c.save-front.result.depth c.save-front.result.len c.else_block.new.env
    c.in_ok-else_block.ensures.scope) in
    rw c.join.ensures (IsReadable-joined_with c.args.book.now.program c.save-first.result.flow c.close-2.new.self w)

pub while_-returns-in_err-tested-clause-judged : goal.while_-returns-in_err-tested-clause-judged
while_-returns-in_err-tested-clause-judged t c =
    let r = err_from_is_err_and c.from_residual.result c.from_residual.ensures.1 in
    rw (r.1, r.2) (while-fails-at-test c.args.book.now.program c.args.line c.args.e c.args.body c.args.env.now c.in_err-tested.field-0.0
    c.in_err-tested.ensures.judged)

pub while_-block-requires : goal.while_-block-requires
while_-block-requires t c =
    let d = c.decreases in
    let r = tested-room c.args.book.now.program c.args.line c.args.e c.args.env.now c.tested.new.env c.in_ok-tested.ensures.judged in
    (omega (arith, d), ((c.requires.body, (c.in_ok-tested.ensures.scope, omega (arith, r, c.requires.room)))))

pub while_-returns-in_err-block-clause-judged : goal.while_-returns-in_err-block-clause-judged
while_-returns-in_err-block-clause-judged t c =
    let r = err_from_is_err_and c.from_residual-in_err-block.result c.from_residual-in_err-block.ensures.1 in
    rw (r.1, r.2) (while-fails-within c.args.book.now.program c.args.line c.args.e c.args.body c.args.env.now c.tested.new.env
    c.in_err-block.field-0.0
    c.in_ok-tested.ensures.judged c.in_err-block.ensures.judged)

pub while_-close-requires-clause-within : goal.while_-close-requires-clause-within
while_-close-requires-clause-within t c =
    let l = loop-within c.args.book.now.program c.args.line c.args.e c.args.body c.args.env.now c.tested.new.env c.block.new.env
    c.in_ok-tested.ensures.judged c.in_ok-block.ensures.judged in
    omega (arith, l, c.save-head.ensures.len)

pub while_-returns-then-not-covers-clause-judged : goal.while_-returns-then-not-covers-clause-judged
while_-returns-then-not-covers-clause-judged t c =
    while-uncovered c.args.book.now.program c.args.line c.args.e c.args.body c.args.env.now c.tested.new.env c.block.new.env c.close.new.self
    c.save-head.result c.covers.result c.fault.result (record {
      saved_is = c.save-head.ensures;
      front_is = c.in_ok-tested.ensures.judged;
      out_is = c.in_ok-block.ensures.judged;
      here_is = c.close.ensures;
    }) c.covers.ensures.1 c.if-not-covers.true c.fault.ensures

pub while_-restore-requires : goal.while_-restore-requires
while_-restore-requires t c =
    let k = loop-closed c.args.book.now.program c.args.line c.args.e c.args.body c.args.env.now c.tested.new.env c.block.new.env c.close.new.self
    c.save-head.result (record {
      saved_is = c.save-head.ensures;
      front_is = c.in_ok-tested.ensures.judged;
      out_is = c.in_ok-block.ensures.judged;
      here_is = c.close.ensures;
    }) in
    saved-past c.args.book.now.program c.save-head.result c.args.env.now c.close.new.self c.save-head.ensures k.len

pub while_-returns-clause-judged : goal.while_-returns-clause-judged
while_-returns-clause-judged t c =
    while-leaves c.args.book.now.program c.args.line c.args.e c.args.body c.args.env.now c.tested.new.env c.block.new.env c.close.new.self
    c.restore.new.self
    c.save-head.result (record {
      saved_is = c.save-head.ensures;
      front_is = c.in_ok-tested.ensures.judged;
      out_is = c.in_ok-block.ensures.judged;
      here_is = c.close.ensures;
    }) (c.covers.ensures.0 c.if-not-covers.false) c.restore.ensures

pub while_-returns-clause-scope : goal.while_-returns-clause-scope
while_-returns-clause-scope t c =
    let w : IsReadable c.args.book.now.program c.close.new.self =
    rw c.close.ensures (IsReadable-closed_at c.args.book.now.program c.save-head.result.depth c.save-head.result.len c.block.new.env
    c.in_ok-block.ensures.scope) in
    rw c.restore.ensures (IsReadable-restated c.args.book.now.program c.save-head.result.flow c.close.new.self w)

pub statement-branch-env-requires : goal.statement-branch-env-requires
statement-branch-env-requires t c =
    let d = c.decreases in
    let b = rw c.in-If.is at c.stmt-row.ensures.below in
    let r = rw (c.stmt-row.ensures.tree, c.in-If.is) at c.requires.room in
    let y = above-below _ _ _ b.1 in
    let n = above_some-below _ _ c.in-If.no b.2 in (
      omega (arith, d, y, n),
      (
        b.0,
        (IsBlockIn-below _ _ _ c.requires.statement b.1, (IsBlockIn-below_some _ _ c.in-If.no c.requires.statement b.2, (c.requires.scope, r))),
      ),
    )

pub statement-while_-requires : goal.statement-while_-requires
statement-while_-requires t c =
    let d = c.decreases in
    let b = rw c.in-While.is at c.stmt-row.ensures.below in
    let r = rw (c.stmt-row.ensures.tree, c.in-While.is) at c.requires.room in
    let y = above-below _ _ _ b.1 in
    (omega (arith, d, y), ((b.0, (IsBlockIn-below _ _ _ c.requires.statement b.1, (c.requires.scope, r)))))

pub statement-window-requires : goal.statement-window-requires
statement-window-requires t c =
    let d = c.decreases in
    let b = rw c.in-Enter.is at c.stmt-row.ensures.below in
    let r = rw (c.stmt-row.ensures.tree, c.in-Enter.is) at c.requires.room in
    let y = above-below _ _ _ b.2 in
    (omega (arith, d, y), ((b.0, (b.1, (b.3, (IsBlockIn-below _ _ _ c.requires.statement b.2, (c.requires.scope, r)))))))

pub statement-returns-in-Set-clause-judged : goal.statement-returns-in-Set-clause-judged
statement-returns-in-Set-clause-judged t c =
    rw (c.stmt-row.ensures.tree, c.in-Set.is) (c.at_line.ensures.judged _ _ c.assign.ensures.judged)

pub statement-returns-in-Set-clause-scope : goal.statement-returns-in-Set-clause-scope
statement-returns-in-Set-clause-scope t c =
    OnOk-inner _ c.at_line.result c.assign.result c.at_line.ensures.ok c.assign.ensures.scope

pub statement-returns-in-SetAt-clause-judged : goal.statement-returns-in-SetAt-clause-judged
statement-returns-in-SetAt-clause-judged t c =
    rw (c.stmt-row.ensures.tree, c.in-SetAt.is) (c.at_line-in-SetAt.ensures.judged _ _ c.assign_element.ensures.judged)

pub statement-returns-in-SetAt-clause-scope : goal.statement-returns-in-SetAt-clause-scope
statement-returns-in-SetAt-clause-scope t c =
    OnOk-inner _ c.at_line-in-SetAt.result c.assign_element.result c.at_line-in-SetAt.ensures.ok c.assign_element.ensures.scope

pub statement-returns-in-Call-clause-judged : goal.statement-returns-in-Call-clause-judged
statement-returns-in-Call-clause-judged t c =
    rw (c.stmt-row.ensures.tree, c.in-Call.is) (c.at_line-in-Call.ensures.judged _ _ c.call_alone.ensures.judged)

pub statement-returns-in-Call-clause-scope : goal.statement-returns-in-Call-clause-scope
statement-returns-in-Call-clause-scope t c =
    OnOk-inner _ c.at_line-in-Call.result c.call_alone.result c.at_line-in-Call.ensures.ok c.call_alone.ensures.scope

pub statement-returns-in-Swap-clause-judged : goal.statement-returns-in-Swap-clause-judged
statement-returns-in-Swap-clause-judged t c =
    rw (c.stmt-row.ensures.tree, c.in-Swap.is) (c.at_line-in-Swap.ensures.judged _ _ c.swap.ensures)

pub statement-returns-in-If-clause-judged : goal.statement-returns-in-If-clause-judged
statement-returns-in-If-clause-judged t c =
    rw (c.stmt-row.ensures.tree, c.in-If.is) c.branch-env.ensures.judged

pub statement-returns-in-While-clause-judged : goal.statement-returns-in-While-clause-judged
statement-returns-in-While-clause-judged t c =
    rw (c.stmt-row.ensures.tree, c.in-While.is) c.while_.ensures.judged

pub statement-returns-in-Enter-clause-judged : goal.statement-returns-in-Enter-clause-judged
statement-returns-in-Enter-clause-judged t c =
    rw (c.stmt-row.ensures.tree, c.in-Enter.is) c.window.ensures.judged

pub statement-returns-in-Print-clause-judged : goal.statement-returns-in-Print-clause-judged
statement-returns-in-Print-clause-judged t c =
    rw (c.stmt-row.ensures.tree, c.in-Print.is) (c.at_line-in-Print.ensures.judged _ _ c.print.ensures.judged)

pub statement-returns-in-Print-clause-scope : goal.statement-returns-in-Print-clause-scope
statement-returns-in-Print-clause-scope t c =
    OnOk-inner _ c.at_line-in-Print.result c.print.result c.at_line-in-Print.ensures.ok c.print.ensures.scope

pub statement-returns-in-Return-clause-judged : goal.statement-returns-in-Return-clause-judged
statement-returns-in-Return-clause-judged t c =
    rw (c.stmt-row.ensures.tree, c.in-Return.is) (c.at_line-in-Return.ensures.judged _ _ c.return_.ensures.judged)

pub statement-returns-in-Return-clause-scope : goal.statement-returns-in-Return-clause-scope
statement-returns-in-Return-clause-scope t c =
    OnOk-inner _ c.at_line-in-Return.result c.return_.result c.at_line-in-Return.ensures.ok c.return_.ensures.scope

pub window-returns-in_err-enter-clause-judged : goal.window-returns-in_err-enter-clause-judged
window-returns-in_err-enter-clause-judged t c =
    let r = err_from_is_err_and c.from_residual.result c.from_residual.ensures.1 in
    rw (r.1, r.2) (enter-fails-at-head c.args.book.now.program c.args.line c.args.entrance c.args.body c.args.env.now c.in_err-enter.field-0.0
    c.in_err-enter.ensures.judged)

pub window-block-requires : goal.window-block-requires
window-block-requires t c =
    let d = c.decreases in
    let r = entered-room c.args.book.now.program c.args.line c.args.entrance c.args.env.now c.enter.new.env c.in_ok-enter.ensures.judged in
    (omega (arith, d), ((c.requires.body, (c.in_ok-enter.ensures.scope, omega (arith, r, c.requires.room)))))

pub window-returns-in_err-block-clause-judged : goal.window-returns-in_err-block-clause-judged
window-returns-in_err-block-clause-judged t c =
    let r = err_from_is_err_and c.from_residual-in_err-block.result c.from_residual-in_err-block.ensures.1 in
    rw (r.1, r.2) (enter-fails-within c.args.book.now.program c.args.line c.args.entrance c.args.body c.args.env.now c.enter.new.env
    c.in_err-block.field-0.0
    c.in_ok-enter.ensures.judged c.in_err-block.ensures.judged)

pub window-returns-in_err-given-clause-judged : goal.window-returns-in_err-given-clause-judged
window-returns-in_err-given-clause-judged t c =
    let r = err_from_is_err_and c.from_residual-in_err-given.result c.from_residual-in_err-given.ensures.1 in
    rw (r.1, r.2) (enter-fails-at-end c.args.book.now.program c.args.line c.args.entrance c.args.body c.args.env.now c.enter.new.env c.block.new.env
    c.in_err-given.field-0.0
    c.in_ok-enter.ensures.judged c.in_ok-block.ensures.judged c.in_err-given.ensures)

pub window-close-requires-clause-within : goal.window-close-requires-clause-within
window-close-requires-clause-within t c =
    let l = window-within c.args.book.now.program c.args.line c.args.entrance c.args.body c.args.env.now c.enter.new.env c.block.new.env
    c.in_ok-enter.ensures.judged c.in_ok-block.ensures.judged in
    omega (arith, l, c.save-outside.ensures.len)

pub window-returns-clause-judged : goal.window-returns-clause-judged
window-returns-clause-judged t c =
    enter-leaves c.args.book.now.program c.args.line c.args.entrance c.args.body c.args.env.now c.enter.new.env c.block.new.env
    c.close.new.self
    c.leave.new.env
    c.save-outside.result c.save-outside.ensures c.in_ok-enter.ensures.judged c.in_ok-block.ensures.judged c.in_ok-given.ensures c.close.ensures
    c.leave.ensures.left
