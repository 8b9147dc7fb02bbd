-- The topmost frame: its slots, and where it goes back.
use Rattle.std.proofs.Common.{◌≡◌, ◌≤◌, ℕ, ◌+◌, ◌-◌, List, [], ◌∷◌, Option, Some, None, length, take, drop, reverse, option_map}
use Rattle.std.proofs.Common.{unwrap_or, slice_get, refl, sym, ap, ◌∙◌, arith, subst}
use Rattle.std.proofs.lemmas.List.{length-take-le, length-reverse}
use Rattle.std.proofs.lemmas.Option.{slice_get-map}
use Rattle.rg_base.specs.declared.value.Val.TheVariants as val
use Rattle.rg_base.specs.declared.value.Word.{Word}
use Rattle.rg_base.specs.declared.value.Word.TheVariants as word
use Rattle.rg_cells.specs.Table.{Heap}
use Rattle.rg_frames.specs.declared.rows.Frame.{Frame as FrameRow}
use Rattle.rg_frames.specs.Stack.{Stack}
use Rattle.rg_frames.specs.Changes.{IsTopFrame}
use Rattle.rg_stack.specs.Machine.{slot_at}
use Rattle.rg_heap.specs.Parts.{Parts as HeapParts}
use Rattle.rg_heap.specs.Answers.{val_of}
use Rattle.rg_view.specs.View.{frames_of, machine_of}
use Rattle.rg_view.specs.Lain.{Lain}
use Rattle.rg_view.proofs.Callers.Shown.{get-drop}
use Rattle.rg_view.proofs.Callers.Frame.{last-reverse, frames_from, top-slots}
use Rattle.rg_machine.specs.Keeps.{GoesBack}

-- a slot of the topmost frame is read, or nil past the last one
pub slot-any : (p : HeapParts) (v : Stack) (at s : ℕ) → Lain v
    → val_of p.cells.heap (unwrap_or (slice_get v.slots (v.first + s)) word.Nil) ≡ slot_at (machine_of p v at) s
slot-any p v at s h =
    let heap = p.cells.heap in
    sym (ap (λ vs. unwrap_or (slice_get vs s) val.Nil) (top-slots heap v.slots v.first (reverse v.frames) h)
    ∙ ap (λ o. unwrap_or o val.Nil)
    (slice_get-map (val_of heap) (drop v.first v.slots) s ∙ ap (option_map (val_of heap)) (get-drop v.first s v.slots))
    ∙ found heap (slice_get v.slots (v.first + s)))
  where
    found : (heap : Heap) (o : Option Word) → unwrap_or (option_map (val_of heap) o) val.Nil ≡ val_of heap (unwrap_or o word.Nil)
    found heap (Some w) = refl
    found heap None = refl

goes-by : (heap : Heap) (slots : List Word) (first : ℕ) (f : FrameRow) (fs : List FrameRow) → 1 ≤ length fs
    → GoesBack (frames_from heap slots first (f ∷ fs)) f.back
goes-by heap slots first f [] some = absurd (omega (arith, some))
goes-by heap slots first f (g ∷ gs) some = refl

-- a frame that isn't the last one goes back
pub goes-back : (heap : Heap) (v : Stack) (f : FrameRow) → 2 ≤ length v.frames → IsTopFrame v f → GoesBack (frames_of heap v) f.back
goes-back heap v f two top =
    let front = take (length v.frames - 1) v.frames in
    let some : 1 ≤ length (reverse front) = omega (arith, two, length-reverse front, length-take-le (length v.frames - 1) v.frames (omega arith)) in
    let P : List FrameRow → Type 0 = λ fs. GoesBack (frames_from heap v.slots v.first fs) f.back in
    subst P (sym (last-reverse v.frames f top)) (goes-by heap v.slots v.first f (reverse front) some)
