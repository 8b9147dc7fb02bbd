use Rattle.std.proofs.Common.{◌≡◌, ap, sym, ◌∙◌, subst}
use Rattle.rg_base.specs.declared.value.Word.TheVariants.{Slot}
use Rattle.rg_regions.specs.Table.{RegionTable}
use Rattle.rg_regions.specs.Collection.{AllHeld}
use Rattle.rg_regions.specs.Grove.{Grove}
use Rattle.rg_frames.specs.Stack.{Stack, IsTop}
use Rattle.rg_frames.specs.Changes.{closed}
use Rattle.rg_heap.specs.Parts.{Parts}
use Rattle.rg_heap.specs.Ends.{CanLeave, top_temps}
use Rattle.rg_heap.specs.Opened.{Opened}
use Rattle.rg_heap.specs.Gives.{CanGive, Puts, beneath}
use Rattle.rg_heap.specs.Inner.Places.{CanPut}
use Rattle.rg_heap.proofs.Gives.{Left, can_put, grove_given, key_beneath, key_top, temps_beneath}
use Rattle.rg_heap.proofs.heap.Heap.leave_giving.Goals as goal
use Rattle.rg_heap.proofs.heap.Heap.leave_giving.Goals.{After-pop_window-window}

-- the heap in front of the call, and where the window was left
abbrev old : After-pop_window-window → Parts
old c = record { cells = c.self.inside.cells; regions = c.self.inside.regions }

abbrev mid : After-pop_window-window → Parts
mid c = record { cells = c.end_temps.new.cells; regions = c.end_temps.new.regions }

left : (c : After-pop_window-window) → Left (old c) (mid c) c.args.frames.now
left c = record {
  grove = c.self.invariant;
  serials = c.made.ensures.serials;
  can = subst (λ (p : Parts). CanLeave p c.args.frames.now) (sym c.self.view_is) c.requires.temps;
  opened = subst (λ (p : Parts). Opened p c.args.frames.now) (sym c.self.view_is) c.requires.opened;
  two = c.requires.two;
  released = c.end_temps.ensures.released;
}

given : (c : After-pop_window-window) → CanGive (old c) c.args.frames.now c.args.at
given c = subst (λ (p : Parts). CanGive p c.args.frames.now c.args.at) (sym c.self.view_is) c.requires.given

-- the frames without the window, which was the top one
frames : (c : After-pop_window-window) → c.pop_window-window.new.self ≡ beneath c.args.frames.now
frames c = c.pop_window-window.ensures.gone ∙ ap closed c.clear_temps.ensures.gone

top : (c : After-pop_window-window) → IsTop c.args.frames.now c.pop_window-window.result
top c = subst (λ (v : Stack). IsTop v c.pop_window-window.result) c.clear_temps.ensures.gone c.pop_window-window.ensures.top

pub put_owner-requires-clause-key : goal.put_owner-requires-clause-key
put_owner-requires-clause-key c w e =
    let p = (goal.at.put_owner-requires-clause-key c).After-pop_window-window in
    key_beneath (old p) (mid p) c.args.frames.now (left p) w (subst (λ (v : Stack). IsTop v w) (frames p) e)

pub put_owner-requires-clause-temps : goal.put_owner-requires-clause-temps
put_owner-requires-clause-temps c =
    let p = (goal.at.put_owner-requires-clause-temps c).After-pop_window-window in
    let P : Stack → Type 0 = λ v. AllHeld c.end_temps.new.cells.heap (top_temps v) in
    subst P (sym (frames p)) (temps_beneath (old p) (mid p) c.args.frames.now (left p))

pub put_owner-requires-clause-place : goal.put_owner-requires-clause-place
put_owner-requires-clause-place c =
    let p = (goal.at.put_owner-requires-clause-place c).After-pop_window-window in
    let w = c.pop_window-window.result in
    let P : Stack → Type 0 = λ v. CanPut (mid p) v w.owner in
    subst P (sym (frames p)) (can_put (old p) (mid p) c.args.frames.now (left p) w w.owner ((given p).owner w (top p)))

pub set_bridge-requires : goal.set_bridge-requires
set_bridge-requires c =
    let p = (goal.at.set_bridge-requires c).After-pop_window-window in
    key_top (old p) (mid p) c.args.frames.now (left p) c.pop_window-window.result (top p)

pub invariant_of-self : goal.invariant_of-self
invariant_of-self c =
    let p = (goal.at.invariant_of-self c).After-pop_window-window in
    let w = c.pop_window-window.result in
    let cells = c.put_owner.new.cells in
    let P : Stack → Type 0 = λ v. Puts w.owner (Slot c.in-Slot.slot) c.end_temps.new.cells.heap cells.heap v c.put_owner.new.frames in
    subst (λ (t : RegionTable). Grove cells t) (sym c.set_bridge.ensures)
    (grove_given (old p) (mid p) c.args.frames.now (left p) c.args.at c.in-Slot.slot (given p) c.in-Slot.is w (top p) c.end_temps.ensures.grove
    cells c.put_owner.new.frames c.put_owner.ensures.marks (subst P (frames p) c.put_owner.ensures.puts))
