use Rattle.std.proofs.Common.{◌≡◌, ℕ, ◌+◌, [], ◌∷◌, ◌++◌, ◌∙◌, length, drop, ap, sym, arith}
use Rattle.std.proofs.lemmas.List.{drop_more}
use Rattle.rg_classes.specs.Order.{may_follow}
use Rattle.rg_classes.proofs.Numbering.{callees-none, callees-not, callees-more, callees-all}
use Rattle.rg_classes.proofs.callees.number_callees.Goals as goal

pub loop-head-init : goal.loop-head-init
loop-head-init c = rw c.new-callees.ensures.items (callees-none c.args.shapes.now c.args.heads.now)

pub returns-then-not-may_follow : goal.returns-then-not-may_follow
returns-then-not-may_follow c =
    let heads = c.args.heads.now in
    let i = c.loop-head.head-index in
    let h = c.head-item.result in
    let here = drop_more heads i _ c.loop-head-test.true ∙ ap (λ s. s ∷ drop (i + 1) heads) (sym c.head-item.is) in
    callees-not c.args.shapes.now heads c.requires c.loop-head.callees.items i c.loop-head.before c.loop-head.next c.loop-head.invariant h here
    (ap (λ (k : ℕ). may_follow c.args.shapes.now c.loop-head.before k h) (sym c.place_of-place.ensures) ∙ sym c.if-not-may_follow.ensures)

pub overflow_cast-number : goal.overflow_cast-number
overflow_cast-number c =
    let s = c.loop-head.invariant in
    omega (arith, c.len-number.ensures, s.counted, s.few, s.class)

pub loop-head-preserved : goal.loop-head-preserved
loop-head-preserved c =
    let heads = c.args.heads.now in
    let i = c.loop-head.head-index in
    let h = c.head-item.result in
    let done = c.loop-head.callees.items in
    let here = drop_more heads i _ c.loop-head-test.true ∙ ap (λ s. s ∷ drop (i + 1) heads) (sym c.head-item.is) in
    let n : c.len-number.result ≡ length done = omega (arith, c.len-number.ensures) in
    rw c.place_of-place.ensures
    (callees-more c.args.shapes.now heads c.requires done i c.loop-head.before c.loop-head.next c.loop-head.invariant h here
    (ap (λ (k : ℕ). may_follow c.args.shapes.now c.loop-head.before k h) (sym c.place_of-place.ensures) ∙ sym c.if-not-may_follow.ensures)
    c.push.new.self.items
    (c.in-Ok.ensures.items ∙ ap (λ (m : ℕ). done ++ record { number = m; place = c.place_of-place.result; result = h.result } ∷ []) n
    ∙ ap (λ (k : ℕ). done ++ record { number = length done; place = k; result = h.result } ∷ []) c.place_of-place.ensures))

pub returns : goal.returns
returns c =
    callees-all c.args.shapes.now c.args.heads.now c.loop-head.callees c.loop-head.head-index c.loop-head.before c.loop-head.next
    c.loop-head.invariant c.loop-head-test.false
