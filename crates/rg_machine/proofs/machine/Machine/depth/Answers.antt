use Rattle.std.proofs.Common.{◌≡◌, ◌-◌, ◌∙◌, subst, ap}
use Rattle.rg_stack.specs.Tops.{frame_number}
use Rattle.rg_view.proofs.Callers.Frame.{frame-number}
use Rattle.rg_machine.specs.Parts.{Parts, machine_in}
use Rattle.rg_machine.proofs.machine.Machine.depth.Goals as goal

pub returns : goal.returns
returns c =
    let P : Parts → Type 0 = λ n. c.saturating_sub.result ≡ frame_number (machine_in n).frames in
    subst P c.self.view_is
    (c.saturating_sub.ensures ∙ ap (λ n. n - 1) c.count.ensures ∙ frame-number c.self.inside.heap.cells.heap c.self.inside.frames)
