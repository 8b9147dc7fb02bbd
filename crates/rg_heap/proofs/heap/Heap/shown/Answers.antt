use Rattle.std.proofs.Common.{◌≡◌, ℕ, Some, sym, subst}
use Rattle.rg_base.specs.declared.object.Label.TheVariants.{Temp}
use Rattle.rg_cells.specs.Table.{label_at}
use Rattle.rg_heap.specs.Parts.{Parts}
use Rattle.rg_heap.specs.Answers.{AllLead}
use Rattle.rg_heap.proofs.Readers.{all_lead, serial_held}
use Rattle.rg_heap.proofs.heap.Heap.shown.Goals as goal

pub vals-requires-clause-lead : goal.vals-requires-clause-lead
vals-requires-clause-lead c =
    let s = c.self.inside in
    let P : Parts → Type 0 = λ (p : Parts). (x n : ℕ) → label_at p.cells.heap x ≡ Some (Temp n) → AllLead p.cells.heap x in
    all_lead s.cells s.regions c.self.invariant (subst P (sym c.self.view_is) c.requires) c.in-Some.slot
    (serial_held s.cells.heap c.in-Some.slot c.args.serial c.in-Some.ensures.some)
