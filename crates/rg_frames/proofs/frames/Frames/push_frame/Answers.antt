use Rattle.std.proofs.Common.{◌≡◌, [], length, take, subst, sym, arith}
use Rattle.std.proofs.lemmas.List.{length-take-le}
use Rattle.rg_frames.specs.Stack.{Stack}
use Rattle.rg_frames.specs.Changes.{HasRoom}
use Rattle.rg_frames.proofs.Taken.{unwritten, frames-more, lives-more, room-less, pushed-on}
use Rattle.rg_frames.proofs.Unwriting.{is-pushed, lies-longer, unwritten-pushed}
use Rattle.rg_frames.proofs.frames.Frames.push_frame.Goals as goal

pub invariant_of-self : goal.invariant_of-self
invariant_of-self c =
    let s = c.self.inside in
    let P : Stack → Type 0 = λ v. HasRoom v c.args.slots in
    let room = subst P (sym c.self.view_is) c.requires in
    let order = c.self.invariant.2.order in
    let long : length (take s.top s.slots.items) ≡ s.top = length-take-le s.top s.slots.items order in
    let u = unwritten s.slots.items s.top c.args.slots c.self.invariant.2 (omega (arith, room.1, order)) in (
      lies-longer _ _ _ _ _ _ _ u.0 c.self.invariant.0,
      unwritten-pushed _ [] _ c.args.slots _ _ _ _ _ _ _ _ _ u.0 (frames-more _ _ _ c.push_reserved.ensures.items)
          (lives-more _ _ _ c.push_reserved.ensures.items) (sym long) (omega (arith, long)) c.self.invariant.1,
      u.1,
      pushed-on _ _ _ _ _ _ room.0 room.1 c.self.invariant.3,
    )

pub returns : goal.returns
returns c =
    let s = c.self.inside in
    let P : Stack → Type 0 = λ v. HasRoom v c.args.slots in
    let room = subst P (sym c.self.view_is) c.requires in
    let order = c.self.invariant.2.order in
    let long : length (take s.top s.slots.items) ≡ s.top = length-take-le s.top s.slots.items order in
    let u = unwritten s.slots.items s.top c.args.slots c.self.invariant.2 (omega (arith, room.1, order)) in
    rw (← c.self.view_is)
    (is-pushed _ _ _ _ _ _ _ _ u.0 (sym long) (frames-more _ _ _ c.push_reserved.ensures.items)
    (room-less _ _ _ _ _ c.push_reserved.ensures.items c.push_reserved.ensures.capacity) (omega arith))
