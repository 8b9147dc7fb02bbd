use Rattle.std.proofs.Common.{◌≡◌, ◌+◌, ◌++◌, ◌∷◌, [], length, replicate, take, subst, sym, arith, length-append}
use Rattle.std.proofs.lemmas.List.{length-take-le, length-replicate}
use Rattle.rg_base.specs.declared.value.Word.TheVariants.{Nil}
use Rattle.rg_frames.specs.Stack.{Stack}
use Rattle.rg_frames.specs.Changes.{HasRoom}
use Rattle.rg_frames.proofs.Taken.{Over, written, frames-more, lives-more, room-less, over-on}
use Rattle.rg_frames.proofs.Unwriting.{is-pushed-of, lies-longer, unwritten-pushed}
use Rattle.rg_frames.proofs.frames.Frames.push_two.Goals as goal
use Rattle.rg_frames.proofs.frames.Frames.push_two.Goals.{After-copy_two}

-- the slots, with the words over them
behind : (c : After-copy_two) → Over c.self.inside.slots.items c.copy_two.new.all.items (c.args.w ∷ c.args.x ∷ []) c.self.inside.top c.args.more
behind c =
    let P : Stack → Type 0 = λ v. HasRoom v (2 + c.args.more) in
    let room = subst P (sym c.self.view_is) c.requires in
    let order = c.self.invariant.2.order in
    written _ _ (c.args.w ∷ c.args.x ∷ []) _ _ c.self.invariant.2 (omega (arith, room.1, order)) c.copy_two.ensures.items

pub invariant_of-self : goal.invariant_of-self
invariant_of-self c =
    let s = c.self.inside in
    let P : Stack → Type 0 = λ v. HasRoom v (2 + c.args.more) in
    let room = subst P (sym c.self.view_is) c.requires in
    let long : length (take s.top s.slots.items) ≡ s.top = length-take-le s.top s.slots.items c.self.invariant.2.order in
    let o = behind (goal.at.invariant_of-self c).After-copy_two in (
      lies-longer _ _ _ _ _ _ _ o.view c.self.invariant.0,
      unwritten-pushed _ (c.args.w ∷ c.args.x ∷ []) _ _ _ _ _ _ _ _ _ _ _ o.view (frames-more _ _ _ c.push_reserved.ensures.items)
          (lives-more _ _ _ c.push_reserved.ensures.items) (sym long) (omega (arith, long)) c.self.invariant.1,
      o.nil,
      rw o.many (over-on _ _ _ _ _ _ _ room.0 room.1 c.self.invariant.3),
    )

pub returns : goal.returns
returns c =
    let s = c.self.inside in
    let long : length (take s.top s.slots.items) ≡ s.top = length-take-le s.top s.slots.items c.self.invariant.2.order in
    let o = behind (goal.at.returns c).After-copy_two in
    let many = o.many in
    let words = c.args.w ∷ c.args.x ∷ [] in
    rw (← c.self.view_is)
    (is-pushed-of _ _ _ (words ++ replicate c.args.more Nil) _ _ _ _ o.view (sym long) (frames-more _ _ _ c.push_reserved.ensures.items)
    (room-less _ _ _ _ _ c.push_reserved.ensures.items c.push_reserved.ensures.capacity)
    (omega (arith, many, length-append words (replicate c.args.more Nil), length-replicate c.args.more Nil)))
