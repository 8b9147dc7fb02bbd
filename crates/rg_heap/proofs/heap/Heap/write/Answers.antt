use Rattle.std.proofs.Common.{◌⊎◌, sym, subst}
use Rattle.rg_heap.specs.Parts.{Parts}
use Rattle.rg_heap.specs.Writes.{Stays, InActive}
use Rattle.rg_heap.specs.Ends.{IsTemp}
use Rattle.rg_heap.proofs.Marked.{may_write}
use Rattle.rg_heap.proofs.heap.Heap.write.Goals as goal

pub write_field-requires-clause-place : goal.write_field-requires-clause-place
write_field-requires-clause-place c =
    let s = c.self.inside in
    let P : Parts → Type 0 = λ (p : Parts). InActive p.cells.heap p.regions c.args.frames.now c.args.slot
    (λ n. Stays p.cells.heap n c.args.w) ⊎ IsTemp p.cells.heap c.args.slot in
    may_write s.cells.heap s.regions c.args.frames.now c.top-key.result c.args.slot c.args.w c.top-key.ensures
    (subst P (sym c.self.view_is) c.requires.place)
