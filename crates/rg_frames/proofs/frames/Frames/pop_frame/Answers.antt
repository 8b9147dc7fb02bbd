use Rattle.std.proofs.Common.{◌≡◌, ◌≤◌, ◌+◌, length, subst, sym, ap, arith}
use Rattle.std.proofs.lemmas.List.{length-take-le}
use Rattle.rg_frames.specs.declared.rows.Frame.{Frame}
use Rattle.rg_frames.specs.declared.rows.Window.{Window}
use Rattle.rg_frames.specs.Stack.{Stack, IsTop}
use Rattle.rg_frames.specs.Changes.{IsTopFrame, popped}
use Rattle.rg_frames.proofs.Taken.{Cleared, made-nil, nil-on, frames-more, lives-more, room-back, held-room, popped-on}
use Rattle.rg_frames.proofs.Unwriting.{lies-cut, take-long, unwritten-popped, pop-top, rest-taken, is-popped}
use Rattle.rg_frames.proofs.frames.Frames.pop_frame.Goals as goal
use Rattle.rg_frames.proofs.frames.Frames.pop_frame.Goals.{After-clear}

pub clear-requires : goal.clear-requires
clear-requires c = nil-on _ _ _ c.self.invariant.1.top c.self.invariant.2

-- behind the top frame the slots go on
on : (c : After-clear) → c.self.inside.top + 256 ≤ length c.self.inside.slots.items
on c = c.self.invariant.3 (held-room _ _ _ _ c.in-Some.ensures.items (grind arith))

-- what is left of the slots
behind : (c : After-clear) → Cleared c.self.inside.slots.items c.clear.new.all.items c.self.inside.top c.self.inside.first
behind c =
    let s = c.self.inside in
    let order = c.self.invariant.2.order in
    let within = c.self.invariant.1.within in
    made-nil _ _ _ _ (omega (arith, within, length-take-le s.top s.slots.items order)) order c.clear.ensures.items

pub invariant_of-self : goal.invariant_of-self
invariant_of-self c =
    let P : Stack → Type 0 = λ v. (w : Window) × IsTop v w × (w.base ≤ v.first) in
    let top = subst P (sym c.self.view_is) c.requires.window in
    let within = c.self.invariant.1.within in
    let long = length-take-le c.self.inside.top c.self.inside.slots.items c.self.invariant.2.order in
    let b = behind (goal.at.invariant_of-self c).After-clear in (
      rw b.gone (lies-cut _ _ _ _ _ _ top.0 top.1 (take-long _ _ _ c.self.invariant.1.within top.2) c.self.invariant.0),
      rw b.gone (unwritten-popped _ _ _ _ _ _ _ _ _ (frames-more _ _ _ c.in-Some.ensures.items) (lives-more _ _ _ c.in-Some.ensures.items)
          c.self.invariant.1),
      b.behind,
      rw b.many (popped-on _ c.self.inside.top _ _ (omega (arith, within, long)) (on (goal.at.invariant_of-self c).After-clear)),
    )

pub returns-clause-back : goal.returns-clause-back
returns-clause-back c = λ f p.
    let P : Stack → Type 0 = λ v. IsTopFrame v f in
    ap (λ (x : Frame). x.back) (pop-top _ _ _ _ (frames-more _ _ _ c.in-Some.ensures.items) (subst P (sym c.self.view_is) p))

pub returns-clause-gone : goal.returns-clause-gone
returns-clause-gone c = λ f p.
    let s = c.self.inside in
    let P : Stack → Type 0 = λ v. IsTopFrame v f in
    let Q : Stack → Type 0 = λ v.
    Rattle.rg_frames.specs.contracts.frames.Frames.the_view record {
      slots = c.clear.new.all;
      top = s.first;
      first = c.in-Some.row.frame.below;
      live = c.in-Some.row.live;
      rows = c.pop.new.self;
      windows = s.windows;
      temps = s.temps;
      marks = s.marks;
      next = s.next;
    } ≡ popped v f in
    let is = pop-top _ _ _ _ (frames-more _ _ _ c.in-Some.ensures.items) (subst P (sym c.self.view_is) p) in
    let b = behind (goal.at.returns-clause-gone c).After-clear in
    let many = b.many in
    let go = on (goal.at.returns-clause-gone c).After-clear in
    let order = c.self.invariant.2.order in
    let within = c.self.invariant.1.within in
    subst Q c.self.view_is (is-popped _ _ _ _ _ _ f b.gone (ap (λ (x : Frame). x.below) is)
    (rest-taken _ _ _ (frames-more _ _ _ c.in-Some.ensures.items))
    (room-back _ _ _ _ _ c.in-Some.ensures.items c.pop.ensures.capacity (grind arith))
    (omega (arith, many, order, within, go, length-take-le s.top s.slots.items order)))
