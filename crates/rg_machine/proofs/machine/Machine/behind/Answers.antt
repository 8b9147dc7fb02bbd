use Rattle.std.proofs.Common.{◌≡◌, ◌≤◌, ℕ, Option, Some, None, IfSome, length, subst, arith}
use Rattle.rg_cells.specs.Table.{Heap}
use Rattle.rg_frames.specs.declared.rows.Frame.{Frame as FrameRow}
use Rattle.rg_frames.specs.Stack.{Stack}
use Rattle.rg_frames.specs.Changes.{IsTopFrame}
use Rattle.rg_view.specs.View.{frames_of}
use Rattle.rg_machine.specs.Keeps.{GoesBack}
use Rattle.rg_machine.specs.Parts.{Parts, machine_in}
use Rattle.rg_machine.proofs.Call.Top.{goes-back}
use Rattle.rg_machine.proofs.machine.Machine.behind.Goals as goal

by : (heap : Heap) (v : Stack) (r : Option ℕ) → 2 ≤ length v.frames → IfSome r (λ back. (f : FrameRow) × IsTopFrame v f × (f.back ≡ back))
    → IfSome r (GoesBack (frames_of heap v))
by heap v None two e = tt
by heap v (Some back) two e = subst (GoesBack (frames_of heap v)) e.2 (goes-back heap v e.0 two e.1)

pub returns : goal.returns
returns c =
    let m = c.self.inside in
    let P : Parts → Type 0 = λ n. IfSome c.back.result (GoesBack (machine_in n).frames) in
    subst P c.self.view_is
    (by m.heap.cells.heap m.frames c.back.result (omega (arith, c.count.ensures, c.if-count-lt2.false)) c.back.ensures.some)
