-- Where a window can be opened, as the machine sees it.
use Rattle.std.proofs.Common.{◌≡◌, ◌≤◌, ◌<◌, ℕ, ◌+◌, ◌-◌, length, reverse, nat_le, if◌then◌else◌, false, sym, ap, ◌∙◌, arith}
use Rattle.std.proofs.lemmas.Bool.{lt-ltb as lt-true, le-ltb as lt-false}
use Rattle.rg_frames.specs.declared.rows.Window.{Window as WindowRow}
use Rattle.rg_frames.specs.Stack.{Stack, IsTop}
use Rattle.rg_heap.specs.Parts.{Parts}
use Rattle.rg_stack.specs.Machine.{top_slots, place_of}
use Rattle.rg_stack.specs.Effects.{begins_by}
use Rattle.rg_view.specs.Lain.{Lain}
use Rattle.rg_view.specs.View.{frames_of, windows_of, machine_of}
use Rattle.rg_view.proofs.Callers.Frame.{top-size, place-there}
use Rattle.rg_view.proofs.Callers.Window.{begins-top}
use Rattle.rg_machine.specs.Frames.{can_open}

module _ (p : Parts) (v : Stack) (at : ℕ) where
  pub past-top : (z : ℕ) → Lain v → length v.slots - v.first ≤ z → can_open (machine_of p v at) z ≡ false
  past-top z h past =
      let size = top-size p.cells.heap v.slots v.first (reverse v.frames) h in
      ap (λ b. if b then begins_by (windows_of p.regions v) (place_of (frames_of p.cells.heap v) z) else false)
      (lt-false z (length (top_slots (frames_of p.cells.heap v))) (omega (arith, past, size)))

  pub in-top : (z place : ℕ) (w : WindowRow) → Lain v → z < length v.slots - v.first → place ≡ v.first + z → IsTop v w
      → (place ≡ place_of (frames_of p.cells.heap v) z) × (can_open (machine_of p v at) z ≡ nat_le w.base place)
  in-top z place w h within e top =
      let size = top-size p.cells.heap v.slots v.first (reverse v.frames) h in
      let is : place ≡ place_of (frames_of p.cells.heap v) z =
      e ∙ sym (place-there p.cells.heap v.slots v.first z (reverse v.frames) h within) in (
        is,
        ap (λ b. if b then begins_by (windows_of p.regions v) (place_of (frames_of p.cells.heap v) z) else false)
            (lt-true z (length (top_slots (frames_of p.cells.heap v))) (omega (arith, within, size)))
            ∙ ap (begins_by (windows_of p.regions v)) (sym is) ∙ begins-top p.regions v w place top,
      )
