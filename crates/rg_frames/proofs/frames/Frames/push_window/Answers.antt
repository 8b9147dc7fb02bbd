use Rattle.std.proofs.Common.{◌≡◌, ◌≤◌, ◌-◌, List, Some, length, slice_get, subst, sym}
use Rattle.rg_frames.specs.Stack.{Stack}
use Rattle.rg_frames.specs.Changes.{BaseUpTo}
use Rattle.rg_frames.specs.declared.rows.Window.{Window}
use Rattle.rg_frames.proofs.frames.Frames.push_window.Goals as goal

pub open_window-requires-clause-above : goal.open_window-requires-clause-above
open_window-requires-clause-above c =
    let P : Stack → Type 0 = λ v. BaseUpTo v c.args.base in
    let Q : List Window → Type 0 = λ ws. (w : Window) × (slice_get ws (length ws - 1) ≡ Some w) × (w.base ≤ c.args.base) in
    subst Q (sym c.reserve_both.ensures.first) (subst P (sym c.self.view_is) c.requires.above)

pub invariant_of-self : goal.invariant_of-self
invariant_of-self c = rw (c.reserve_both.ensures.first, c.reserve_both.ensures.second) c.self.invariant
