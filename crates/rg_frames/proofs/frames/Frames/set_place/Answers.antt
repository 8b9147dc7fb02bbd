use Rattle.std.proofs.Common.{◌≤◌, ◌<◌, length, arith, subst, sym}
use Rattle.std.proofs.lemmas.List.{length-take-le}
use Rattle.rg_frames.specs.Stack.{Stack}
use Rattle.rg_frames.proofs.Taken.{set-taken}
use Rattle.rg_frames.proofs.Unwriting.{is-set, lies-set, unwritten-set}
use Rattle.rg_frames.proofs.frames.Frames.set_place.Goals as goal

pub invariant_of-self : goal.invariant_of-self
invariant_of-self c =
    let P : Stack → Type 0 = λ v. v.first ≤ c.args.place in
    let low = subst P (sym c.self.view_is) c.requires.from in
    let Q : Stack → Type 0 = λ v. c.args.place < length v.slots in
    let there = subst Q (sym c.self.view_is) c.requires.within in
    let long = length-take-le c.self.inside.top c.self.inside.slots.items c.self.invariant.2.order in
    let lt : c.args.place < c.self.inside.top = omega (arith, there, long) in
    let s = set-taken c.self.inside.slots.items c.args.place c.self.inside.top c.args.w lt c.self.invariant.2 in (
      rw s.view (lies-set _ _ _ _ _ _ _ c.self.invariant.0),
      rw s.view (unwritten-set _ _ _ _ _ _ _ _ low (omega (arith, c.if-self-place.true)) (omega arith)
          (omega (arith, lt, long)) c.self.invariant.1),
      s.nil,
      rw s.many c.self.invariant.3,
    )

pub invariant_of-self-else-self-place : goal.invariant_of-self-else-self-place
invariant_of-self-else-self-place c =
    let P : Stack → Type 0 = λ v. v.first ≤ c.args.place in
    let low = subst P (sym c.self.view_is) c.requires.from in
    let Q : Stack → Type 0 = λ v. c.args.place < length v.slots in
    let there = subst Q (sym c.self.view_is) c.requires.within in
    let long = length-take-le c.self.inside.top c.self.inside.slots.items c.self.invariant.2.order in
    let lt : c.args.place < c.self.inside.top = omega (arith, there, long) in
    let s = set-taken c.self.inside.slots.items c.args.place c.self.inside.top c.args.w lt c.self.invariant.2 in (
      rw s.view (lies-set _ _ _ _ _ _ _ c.self.invariant.0),
      rw s.view (unwritten-set _ _ _ _ _ _ _ _ low (omega arith) (omega (arith, c.if-self-place.false)) c.self.invariant.1.top.order
          c.self.invariant.1),
      s.nil,
      rw s.many c.self.invariant.3,
    )

pub returns-then-self-place : goal.returns-then-self-place
returns-then-self-place c =
    let Q : Stack → Type 0 = λ v. c.args.place < length v.slots in
    let there = subst Q (sym c.self.view_is) c.requires.within in
    let long = length-take-le c.self.inside.top c.self.inside.slots.items c.self.invariant.2.order in
    let lt : c.args.place < c.self.inside.top = omega (arith, there, long) in
    let s = set-taken c.self.inside.slots.items c.args.place c.self.inside.top c.args.w lt c.self.invariant.2 in
    let many = s.many in
    rw (← c.self.view_is) (is-set _ _ _ _ _ s.view (omega (arith, many)))

pub returns-else-self-place : goal.returns-else-self-place
returns-else-self-place c =
    let Q : Stack → Type 0 = λ v. c.args.place < length v.slots in
    let there = subst Q (sym c.self.view_is) c.requires.within in
    let long = length-take-le c.self.inside.top c.self.inside.slots.items c.self.invariant.2.order in
    let lt : c.args.place < c.self.inside.top = omega (arith, there, long) in
    let s = set-taken c.self.inside.slots.items c.args.place c.self.inside.top c.args.w lt c.self.invariant.2 in
    let many = s.many in
    rw (← c.self.view_is) (is-set _ _ _ _ _ s.view (omega (arith, many)))

pub index_mut-requires : goal.index_mut-requires
index_mut-requires c =
    let Q : Stack → Type 0 = λ v. c.args.place < length v.slots in
    let there = subst Q (sym c.self.view_is) c.requires.within in
    let long = length-take-le c.self.inside.top c.self.inside.slots.items c.self.invariant.2.order in
    let lt : c.args.place < c.self.inside.top = omega (arith, there, long) in
    let order = c.self.invariant.2.order in
    omega (arith, lt, order)
