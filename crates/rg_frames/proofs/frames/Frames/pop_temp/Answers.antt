use Rattle.std.proofs.Common.{◌≡◌, ◌<◌, ◌↔◌, IsNone, length, subst, sym, arith}
use Rattle.rg_frames.specs.Stack.{Stack, mark}
use Rattle.rg_frames.specs.Changes.{Begun}
use Rattle.rg_frames.specs.Inner.Layout.{stack_of}
use Rattle.rg_frames.proofs.Unwriting.{mark-below, mark-left, none-clause, lies-temps}
use Rattle.rg_frames.proofs.frames.Frames.pop_temp.Goals as goal

pub invariant_of-self : goal.invariant_of-self
invariant_of-self c =
    let v : Stack = stack_of c.self.inside.slots c.self.inside.top c.self.inside.first c.self.inside.rows c.self.inside.windows
    c.self.inside.temps c.self.inside.marks c.self.inside.next in
    let begun = subst Begun (sym c.self.view_is) c.requires in
    let some : 0 < length c.self.inside.marks.items = omega (arith, begun.1, c.self.invariant.0.as_many) in
    let below = mark-below v _ _ _ (grind arith) (grind arith) c.index.ensures c.if-len-index.false some c.self.invariant.0 in (
      lies-temps v _ some (mark-left v _ _ c.pop.ensures.items below) c.self.invariant.0,
      c.self.invariant.1,
      c.self.invariant.2,
      c.self.invariant.3,
    )

pub returns-clause-none : goal.returns-clause-none
returns-clause-none c =
    let Q : Stack → Type 0 = λ v. IsNone c.pop.result ↔ (length v.temps ≡ mark v) in
    let v : Stack = stack_of c.self.inside.slots c.self.inside.top c.self.inside.first c.self.inside.rows c.self.inside.windows
    c.self.inside.temps c.self.inside.marks c.self.inside.next in
    let begun = subst Begun (sym c.self.view_is) c.requires in
    let some : 0 < length c.self.inside.marks.items = omega (arith, begun.1, c.self.invariant.0.as_many) in
    let below = mark-below v _ _ _ (grind arith) (grind arith) c.index.ensures c.if-len-index.false
    some c.self.invariant.0 in
    subst Q c.self.view_is (none-clause v _ (c.pop.ensures.variant.1 (grind (arith, below))) below)
