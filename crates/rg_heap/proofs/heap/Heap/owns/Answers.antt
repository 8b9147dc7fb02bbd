use Rattle.std.proofs.Common.{◌∙◌, Some, sym, ap, subst}
use Rattle.rg_heap.specs.Parts.{Parts}
use Rattle.rg_heap.specs.Reads.{LeadsIntoClosed}
use Rattle.rg_heap.proofs.Readers.{active_not_closed}
use Rattle.rg_heap.proofs.heap.Heap.owns.Goals as goal

pub returns-then-has_number-clause-only : goal.returns-then-has_number-clause-only
returns-then-has_number-clause-only c closed =
    let p : Parts = record { cells = c.self.inside.cells; regions = c.self.inside.regions } in
    let v = c.args.frames.now in
    absurd (active_not_closed p v c.args.at c.in-Slot.slot c.in-Region.number c.in-Some.top c.self.invariant c.in-Slot.is
    (c.label.ensures ∙ ap Some c.in-Region.is) c.in-Some.ensures.some (c.has_number.ensures.yes c.if-has_number.true)
    (subst (λ (x : Parts). LeadsIntoClosed x v c.args.at) (sym c.self.view_is) closed))
