use Rattle.std.proofs.Common.{◌≡◌, ◌+◌, ◌<◌, length, take, subst, sym, arith}
use Rattle.std.proofs.lemmas.List.{length-take-le}
use Rattle.rg_base.specs.declared.value.Word.TheVariants.{Nil}
use Rattle.rg_frames.specs.Stack.{Stack}
use Rattle.rg_frames.specs.Changes.{InTop}
use Rattle.rg_frames.proofs.Raised.{unwritten-nil}
use Rattle.rg_frames.proofs.Taken.{Set, set-taken, shown-at}
use Rattle.rg_frames.proofs.Unwriting.{is-set, lies-set}
use Rattle.rg_frames.proofs.frames.Frames.take_word.Goals as goal
use Rattle.rg_frames.proofs.frames.Frames.take_word.Goals.{After-index-w}

within : (c : After-index-w) → c.self.inside.first + c.args.k < length (take c.self.inside.top c.self.inside.slots.items)
within c = let P : Stack → Type 0 = λ v. InTop v c.args.k in subst P (sym c.self.view_is) c.requires

set : (c : After-index-w) → Set c.self.inside.slots.items (c.self.inside.first + c.args.k) c.self.inside.top Nil
set c =
    let order = c.self.invariant.2.order in
    let lt = within c in
    set-taken _ _ _ _ (omega (arith, lt, length-take-le c.self.inside.top c.self.inside.slots.items order)) c.self.invariant.2

pub invariant_of-self : goal.invariant_of-self
invariant_of-self c =
    let s = set (goal.at.invariant_of-self c).After-index-w in (
      rw s.view (lies-set _ _ _ _ _ _ _ c.self.invariant.0),
      rw s.view (unwritten-nil _ _ _ _ _ _ (omega arith) c.self.invariant.1),
      s.nil,
      rw s.many c.self.invariant.3,
    )

pub returns-clause-word : goal.returns-clause-word
returns-clause-word c =
    let P : Stack → Type 0 = λ v. Rattle.std.proofs.Common.slice_get v.slots (v.first + c.args.k) ≡ Rattle.std.proofs.Common.Some c.index-w.result.now in
    subst P c.self.view_is (shown-at _ _ _ _ c.self.invariant.2 (within (goal.at.returns-clause-word c).After-index-w) c.index-w.ensures)

pub returns-clause-nil : goal.returns-clause-nil
returns-clause-nil c =
    let s = set (goal.at.returns-clause-nil c).After-index-w in
    let many = s.many in
    rw (← c.self.view_is) (is-set _ _ _ _ _ s.view (omega (arith, many)))
