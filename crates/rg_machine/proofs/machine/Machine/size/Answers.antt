use Rattle.std.proofs.Common.{◌≡◌, sym, subst}
use Rattle.rg_cells.specs.Table.{body_at, width}
use Rattle.rg_machine.specs.Parts.{Parts}
use Rattle.rg_machine.specs.Stands.{Leads}
use Rattle.rg_machine.proofs.Callers.Word.{Known}
use Rattle.rg_machine.proofs.Indexed.{object-size}
use Rattle.rg_machine.proofs.machine.Machine.size.Goals as goal

pub size-requires : goal.size-requires
size-requires c =
    (subst (λ (p : Parts). Leads p.heap p.frames c.args.r) (sym c.self.view_is) c.requires).held c.in-Slot.slot c.in-Slot.is

pub returns-in-Slot-clause-ok : goal.returns-in-Slot-clause-ok
returns-in-Slot-clause-ok c =
    let known = subst Known c.self.view_is (record {
      forest = c.is_forest.ensures.forest;
      serials = c.is_forest.ensures.serials;
      stands = c.self.invariant.0;
      lead = c.self.invariant.1;
    }) in
    object-size c.args.self.now c.args.r c.in-Slot.slot c.size.result c.in-Slot.is known c.requires
    (subst (λ (p : Parts). c.size.result ≡ width (body_at p.heap.cells.heap c.in-Slot.slot)) c.self.view_is c.size.ensures)
