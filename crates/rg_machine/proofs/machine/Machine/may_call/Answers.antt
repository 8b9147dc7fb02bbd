use Rattle.std.proofs.Common.{◌≡◌, ap, length, nat_lt, sym, subst}
use Rattle.rg_base.specs.declared.limits.TheConstants.{FRAMES}
use Rattle.rg_view.proofs.Callers.Frame.{frame-count}
use Rattle.rg_machine.specs.Parts.{Parts, machine_in}
use Rattle.rg_machine.proofs.machine.Machine.may_call.Goals as goal

pub returns : goal.returns
returns c =
    let P : Parts → Type 0 = λ n. nat_lt c.count.result FRAMES ≡ nat_lt (length (machine_in n).frames) FRAMES in
    subst P c.self.view_is (subst (λ n. nat_lt c.count.result FRAMES ≡ nat_lt n FRAMES)
    (sym (frame-count c.self.inside.heap.cells.heap c.self.inside.frames)) (ap (λ n. nat_lt n FRAMES) c.count.ensures))
