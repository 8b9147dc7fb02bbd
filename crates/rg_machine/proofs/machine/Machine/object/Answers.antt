use Rattle.std.proofs.Common.{IfOk, subst}
use Rattle.rg_heap.specs.Reads.{Shows}
use Rattle.rg_machine.specs.Parts.{Parts}
use Rattle.rg_machine.proofs.Find.{finds}
use Rattle.rg_machine.proofs.machine.Machine.object.Goals as goal

pub returns-clause-finds : goal.returns-clause-finds
returns-clause-finds c =
    let p = c.args.self.now in
    let P : Parts → Type 0 = λ n. IfOk c.shown.result (Shows n.heap.cells.heap c.args.serial) in
    finds p.heap p.frames c.is_sound.ensures.serials c.is_sound.ensures.stands c.is_sound.ensures.windows c.args.serial c.shown.result
    (subst P c.self.view_is c.shown.ensures)
