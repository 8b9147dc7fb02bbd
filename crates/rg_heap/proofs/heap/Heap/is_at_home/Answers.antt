use Rattle.std.proofs.Common.{◌∙◌, Some, sym, ap, subst}
use Rattle.rg_heap.specs.Parts.{Parts}
use Rattle.rg_heap.specs.Reads.{LeadsIntoClosed}
use Rattle.rg_heap.proofs.Readers.{active_not_closed}
use Rattle.rg_heap.proofs.heap.Heap.is_at_home.Goals as goal

pub returns-in-Some : goal.returns-in-Some
returns-in-Some c active closed =
    let p : Parts = record { cells = c.self.inside.cells; regions = c.self.inside.regions } in
    let v = c.args.frames.now in
    active_not_closed p v c.args.at c.in-Slot.slot c.in-Region.number c.in-Some.top c.self.invariant c.in-Slot.is
    (c.label.ensures ∙ ap Some c.in-Region.is) c.in-Some.ensures.some (c.has_number.ensures.yes active)
    (subst (λ (x : Parts). LeadsIntoClosed x v c.args.at) (sym c.self.view_is) closed)
