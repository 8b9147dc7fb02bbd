use Rattle.std.proofs.Common.{subst}
use Rattle.rg_machine.specs.Active.{IsActive}
use Rattle.rg_machine.specs.Parts.{Parts}
use Rattle.rg_machine.proofs.Callers.Active.{on-there}
use Rattle.rg_machine.proofs.machine.Machine.active.Goals as goal

pub returns : goal.returns
returns c =
    let x = c.self.inside in
    let p : Parts = record { heap = x.heap; frames = x.frames; words = x.stack.items; at = x.at; printed = x.printed } in
    subst (λ (p : Parts). IsActive p c.active.result) c.self.view_is (on-there p _ c.self.invariant.0 c.active.ensures)
