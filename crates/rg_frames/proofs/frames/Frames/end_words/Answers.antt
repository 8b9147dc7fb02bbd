use Rattle.std.proofs.Common.{◌≡◌, ◌≤◌, ◌+◌, length, take, subst, arith}
use Rattle.std.proofs.lemmas.List.{length-take-le}
use Rattle.rg_frames.specs.Stack.{Stack}
use Rattle.rg_frames.specs.Changes.{ended}
use Rattle.rg_frames.proofs.Taken.{Cleared, made-nil, nil-on}
use Rattle.rg_frames.proofs.Unwriting.{lies-slots, ended-long, unwritten-end, ended-past, is-ended}
use Rattle.rg_frames.proofs.frames.Frames.end_words.Goals as goal
use Rattle.rg_frames.proofs.frames.Frames.end_words.Goals.{After-clear}

pub clear-requires : goal.clear-requires
clear-requires c = nil-on _ _ _ c.self.invariant.1.top c.self.invariant.2

-- what is left of the slots
behind : (c : After-clear) → Cleared c.self.inside.slots.items c.clear.new.all.items c.self.inside.top (c.self.inside.first + c.args.s)
behind c =
    let live = c.self.invariant.1.top.order in
    let order = c.self.invariant.2.order in
    made-nil _ _ _ _ (omega (arith, c.if-from-self.true, live, length-take-le c.self.inside.top c.self.inside.slots.items order)) order
    c.clear.ensures.items

pub invariant_of-self : goal.invariant_of-self
invariant_of-self c =
    let live = c.self.invariant.1.top.order in
    let within : c.self.inside.first + c.args.s ≤ length (take c.self.inside.top c.self.inside.slots.items) = omega (arith, c.if-from-self.true, live) in
    let b = behind (goal.at.invariant_of-self c).After-clear in (
      rw b.view (lies-slots _ _ _ _ _ _ (ended-long _ _ within) c.self.invariant.0),
      rw b.view (unwritten-end _ _ _ _ _ _ (omega arith) within c.self.invariant.1),
      b.nil,
      rw b.many c.self.invariant.3,
    )

pub returns-then-from-self : goal.returns-then-from-self
returns-then-from-self c =
    let b = behind (goal.at.returns-then-from-self c).After-clear in
    rw (← c.self.view_is) (is-ended _ _ _ _ b.view (rw b.many (omega arith)))

pub returns-else-from-self : goal.returns-else-from-self
returns-else-from-self c =
    let Q : Stack → Type 0 = λ v. v ≡ ended v c.args.s in
    subst Q c.self.view_is (ended-past _ _ _ (omega (arith, c.if-from-self.false)) c.self.invariant.1.top)
