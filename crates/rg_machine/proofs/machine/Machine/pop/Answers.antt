use Rattle.std.proofs.Common.{◌≡◌, IfSome, subst}
use Rattle.rg_machine.specs.Core.{with_top}
use Rattle.rg_machine.specs.Parts.{Parts, val_in}
use Rattle.rg_machine.specs.Cores.{core_of}
use Rattle.rg_machine.proofs.Callers.Word.{core-popped, popped-leads}
use Rattle.rg_machine.proofs.machine.Machine.pop.Goals as goal

pub returns-clause-core : goal.returns-clause-core
returns-clause-core c =
    let m = c.self.inside in
    let p : Parts = record { heap = m.heap; frames = m.frames; words = m.stack.items; at = m.at; printed = m.printed } in
    let q : Parts = record p { words = c.pop.new.self.items } in
    let P : Parts → Type 0 = λ n. IfSome c.pop.result (λ w. core_of n ≡ with_top (core_of q) (val_in q w)) in
    subst P c.self.view_is (core-popped p c.pop.new.self.items c.pop.result c.pop.ensures.items)

pub returns-clause-leads : goal.returns-clause-leads
returns-clause-leads c =
    let m = c.self.inside in
    let p : Parts = record { heap = m.heap; frames = m.frames; words = m.stack.items; at = m.at; printed = m.printed } in
    popped-leads p c.pop.new.self.items c.pop.result c.pop.ensures.items c.self.invariant.1
