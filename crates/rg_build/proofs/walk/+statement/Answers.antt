use Rattle.std.proofs.Common.{◌∙◌, ◌<◌, ap, subst, take, true, length, get_or, arith}
use Rattle.std.proofs.lemmas.List.Elements.{All-get_or}
use Rattle.rg_tree.specs.Rows.Tables.{numbers_in}
use Rattle.rg_tree.specs.Rows.RowTrees.{classes_of, block_of}
use Rattle.rg_tree.proofs.Callers.{above, below-above, IsBlockIn-below, above-below, IsBlockIn-below_some, above_some-below}
use Rattle.rg_code.specs.Lowering.{Scope}
use Rattle.rg_build.specs.Maps.{block_maps}
use Rattle.rg_build.specs.Inner.Laid.{Lays}
use Rattle.rg_build.proofs.LayingSteps.{lays-then}
use Rattle.rg_build.proofs.Walking.{walked-start, walked-turn, walked-all, walked-kept, walked-enough}
use Rattle.rg_build.proofs.Walking.{bridge-is, inside-is, kept-outside, inside-enough}
use Rattle.rg_build.proofs.walk.+statement.Goals as goal

pub put_block-loop-n-init : goal.put_block-loop-n-init
put_block-loop-n-init t c =
    walked-start c.args.book.now.program c.args.marked c.args.slots.now c.args.laying.now c.order-these.result.now c.requires.begun c.requires.held

pub put_block-put_stmt-requires : goal.put_block-put_stmt-requires
put_block-put_stmt-requires t c =
    let p = c.args.book.now.program in
    let l : c.loop-n.n-index < length (numbers_in p c.args.block) = rw c.order-these.ensures at c.loop-n-test.true in
    let d = c.decreases in
    let b = below-above _ _ l in
    let e = All-get_or (λ k. k < length p.stmts) _ c.loop-n.n-index 0 l c.requires.block.each in
    let m : get_or c.order-these.result.now c.loop-n.n-index 0 < length p.stmts = rw c.order-these.ensures e in
    let f : get_or c.order-these.result.now c.loop-n.n-index 0 < above (numbers_in p c.args.block) = rw c.order-these.ensures b in
    (omega (arith, d, f), (c.loop-n.invariant.held_in, (m, c.loop-n.invariant.lays.open_now)))

pub put_block-loop-n-preserved : goal.put_block-loop-n-preserved
put_block-loop-n-preserved t c =
    walked-turn c.args.book.now.program c.args.marked c.args.slots.now c.args.laying.now c.order-these.result.now c.loop-n.slots c.put_stmt.new.slots
    c.loop-n.laying c.put_stmt.new.laying c.loop-n.n-index c.loop-n-test.true c.loop-n.invariant c.in_ok-put_stmt.ensures.slots
    c.in_ok-put_stmt.ensures.maps

pub put_block-keep-requires : goal.put_block-keep-requires
put_block-keep-requires t c =
    walked-enough c.args.slots.now c.loop-n.slots c.count-first.result c.count-first.ensures c.loop-n.invariant.kept

pub put_block-returns-clause-maps : goal.put_block-returns-clause-maps
put_block-returns-clause-maps t c =
    let p = c.args.book.now.program in
    walked-all p c.args.marked c.args.slots.now c.args.laying.now c.order-these.result.now (numbers_in p c.args.block) c.loop-n.slots c.loop-n.laying
    c.put_end.new.laying c.loop-n.n-index c.loop-n-test.false c.order-these.ensures c.loop-n.invariant (c.in_ok-put_end.ensures p)

pub put_block-returns-clause-slots : goal.put_block-returns-clause-slots
put_block-returns-clause-slots t c =
    walked-kept c.args.slots.now c.loop-n.slots c.keep.new.self c.count-first.result c.count-first.ensures c.loop-n.invariant.kept c.keep.ensures

pub put_inner-put_if-requires : goal.put_inner-put_if-requires
put_inner-put_if-requires t c =
    let d = c.decreases in
    let b = rw c.in-If.is at c.stmt.ensures.below in
    let y = above-below _ _ _ b.1 in
    let n = above_some-below _ _ c.in-If.no b.2 in (
      omega (arith, d, y, n),
      (c.requires.held, (IsBlockIn-below _ _ _ c.requires.n b.1, (IsBlockIn-below_some _ _ c.in-If.no c.requires.n b.2, c.requires.begun))),
    )

pub put_inner-put_while-requires : goal.put_inner-put_while-requires
put_inner-put_while-requires t c =
    let d = c.decreases in
    let b = rw c.in-While.is at c.stmt.ensures.below in
    let a = above-below _ _ _ b.1 in
    (omega (arith, d, a), (c.requires.held, (IsBlockIn-below _ _ _ c.requires.n b.1, c.requires.begun)))

pub put_inner-put_window-requires : goal.put_inner-put_window-requires
put_inner-put_window-requires t c =
    let d = c.decreases in
    let b = rw c.in-Enter.is at c.stmt.ensures.below in
    let a = above-below _ _ _ b.2 in
    (omega (arith, d, a), (c.requires.held, (b.0, (b.1, (IsBlockIn-below _ _ _ c.requires.n b.2, c.requires.begun)))))

pub put_stmt-put_inner-requires : goal.put_stmt-put_inner-requires
put_stmt-put_inner-requires t c =
    let d = c.decreases in
    (omega (arith, d), (c.requires.held, (c.requires.n, (c.in_ok-put_types.ensures c.args.book.now.program).open_now)))

pub put_stmt-returns-clause-maps : goal.put_stmt-returns-clause-maps
put_stmt-returns-clause-maps t c =
    lays-then c.args.laying.now c.put_types.new.laying c.put_inner.new.laying _ _ (c.in_ok-put_types.ensures c.args.book.now.program)
    c.in_ok-put_inner.ensures.maps

pub put_if-returns-clause-maps : goal.put_if-returns-clause-maps
put_if-returns-clause-maps k c =
    let t = c.args.book.now.program in
    lays-then c.args.laying.now c.put_block.new.laying c.put_else.new.laying _ _ c.in_ok-put_block.ensures.maps
    (rw c.in_ok-put_block.ensures.slots at c.in_ok-put_else.ensures.maps)

pub put_window-returns-clause-maps : goal.put_window-returns-clause-maps
put_window-returns-clause-maps k c =
    let t = c.args.book.now.program in
    subst (λ (sc : Scope). Lays c.args.laying.now c.put_block.new.laying (block_maps (classes_of t) true sc (block_of t c.args.body)))
    (inside-is t c.args.slots.now c.push.new.self c.args.path c.args.name c.bridge_type.result c.in_ok-push.ensures
    (bridge-is t c.args.slots.now c.args.path c.find.result c.type_along-owner.result c.bridge_type.result c.order.result.now c.find.ensures
    c.type_along-owner.ensures c.bridge_type.ensures c.order.ensures))
    c.in_ok-put_block.ensures.maps

pub put_window-keep-requires : goal.put_window-keep-requires
put_window-keep-requires k c =
    rw c.in_ok-put_block.ensures.slots
    (inside-enough c.args.slots.now c.push.new.self _ c.count-first.result c.in_ok-push.ensures c.count-first.ensures)

pub put_window-returns-clause-slots : goal.put_window-returns-clause-slots
put_window-returns-clause-slots k c =
    c.keep.ensures ∙ ap (take c.count-first.result) c.in_ok-put_block.ensures.slots
    ∙ kept-outside c.args.slots.now c.push.new.self _ c.count-first.result c.in_ok-push.ensures c.count-first.ensures
