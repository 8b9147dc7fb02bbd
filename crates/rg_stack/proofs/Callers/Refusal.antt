-- Where a step begins nothing in it is refused behind a change. For callers.
use Rattle.std.proofs.Common.{◌≡◌, false, ℕ, ◌+◌, true, inl, inr, List, [], ◌∷◌, length, drop, subst}
use Rattle.rg_tree.specs.Tree.{stmt, Tree}
use Rattle.rg_rules.specs.Acceptance.{Accepted}
use Rattle.rg_rules.specs.Items.{Item, Do, EndAt, LeaveAt, LeaveGiving, Back}
use Rattle.rg_rules.specs.State.{Frame as Body, Window as Opened}
use Rattle.rg_sound.specs.Frames.{FramesFit, Running}
use Rattle.rg_code.specs.declared.op.Op.{Op}
use Rattle.rg_code.specs.Places.{scope_of, Level, Lies}
use Rattle.rg_stack.specs.Machine.{Frame}
use Rattle.rg_stack.specs.Shows.{ShowsFrames, levels_of}
use Rattle.rg_stack.specs.Left.{SomeLeft}
use Rattle.rg_stack.specs.Refusals.{orderly, CalmBehind}
use Rattle.rg_stack.specs.Laws.{StepsOrderly}
use Rattle.rg_stack.proofs.Callers.Left.{do-other, leave-other, giving-other, running-left}
use Rattle.rg_stack.proofs.Refusals.Kind.{statement-orderly, end-orderly, leave-orderly, leave-giving-orderly, back-orderly}
use Rattle.rg_stack.proofs.Refusals.Behind.{calm-back, running-leaves}

module _ (t : Tree) (accepted : Accepted t) (code : List Op) (at : ℕ) where
  -- a frame as the code sees it
  abbrev level : Frame → Body → Level
  level mf f = record { scope = scope_of f.locals; slots = length mf.slots; target = f.target; back = mf.back }

  -- the first item's code
  item_orderly : (mf : Frame) (mfs : List Frame) (f : Body) (fs : List Body) (i : Item) (rest : List Item) → ((i ≡ EndAt 0 → ⊥) → SomeLeft rest)
      → Lies t.classes code (levels_of (mf ∷ mfs) (f ∷ fs)) (i ∷ rest) at → orderly code (at + 1) false (drop (at + 1) code) ≡ true
  item_orderly mf mfs f fs (Do (stmt line k)) [] left lies = absurd (left (do-other (stmt line k)))
  item_orderly mf mfs f fs (Do (stmt line k)) (j ∷ rest) left lies = statement-orderly t.classes code (level mf f) (levels_of mfs fs) line k j rest
      at lies
  item_orderly mf mfs f fs (EndAt k) rest left lies = end-orderly t.classes code (level mf f) (levels_of mfs fs) k rest at lies
  item_orderly mf mfs f fs (LeaveAt k) [] left lies = absurd (left (leave-other k))
  item_orderly mf mfs f fs (LeaveAt k) (j ∷ rest) left lies = leave-orderly t.classes code (level mf f) (levels_of mfs fs) k j rest at lies
  item_orderly mf mfs f fs (LeaveGiving line k w) [] left lies = absurd (left (giving-other line k w))
  item_orderly mf mfs f fs (LeaveGiving line k w) (j ∷ rest) left lies =
      leave-giving-orderly t.classes code (level mf f) (levels_of mfs fs) line k w j rest at lies
  item_orderly mf mfs f fs Back rest left lies = back-orderly t.classes code (level mf f) (levels_of mfs fs) rest at lies

  -- what is behind the topmost frame
  calm_behind : (mf : Frame) (mfs : List Frame) (f : Body) (fs : List Body) (ws : List Opened) (items : List Item) → ShowsFrames (mf ∷ mfs) (f ∷ fs)
      → Running t f fs ws items
      → Lies t.classes code (levels_of (mf ∷ mfs) (f ∷ fs)) items at → CalmBehind code (mf ∷ mfs)
  calm_behind mf [] f fs ws items shows h lies = tt
  calm_behind mf (mg ∷ mfs) f [] ws items shows h lies = absurd shows.1
  calm_behind mf (mg ∷ mfs) f (g ∷ fs) ws items shows h lies = calm-back t.classes code items (level mf f) (levels_of (mg ∷ mfs) (g ∷ fs)) at
      (running-leaves t accepted f g fs ws items h) lies

  pub all-orderly : (mfs : List Frame) (fs : List Body) (ws : List Opened) (items : List Item) → SomeLeft items → FramesFit t fs ws items
      → ShowsFrames mfs fs → Lies t.classes code (levels_of mfs fs) items at
      → (orderly code (at + 1) false (drop (at + 1) code) ≡ true) × CalmBehind code mfs
  all-orderly mfs fs ws [] left frames shows lies = absurd left
  all-orderly mfs [] ws (i ∷ rest) left frames shows lies = absurd frames
  all-orderly [] (f ∷ fs) ws (i ∷ rest) left frames shows lies = absurd shows
  all-orderly (mf ∷ mfs) (f ∷ fs) ws (i ∷ rest) left (inl h) shows lies =
      (item_orderly mf mfs f fs i rest (running-left t f fs ws i rest h) lies, calm_behind mf mfs f fs ws (i ∷ rest) shows h lies)
  all-orderly (mf ∷ mfs) (f ∷ fs) ws (i ∷ rest) left (inr h) shows lies = absurd (subst SomeLeft h.no_item left)

pub steps-orderly : StepsOrderly
steps-orderly t code m p accepted lowers fit shows left =
    let h = all-orderly t accepted code.ops m.at m.frames p.frames p.windows p.items left fit.frames shows.slots shows.places in record
    { here = h.0; behind = h.1 }
