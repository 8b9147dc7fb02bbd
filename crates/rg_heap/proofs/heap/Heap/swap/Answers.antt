use Rattle.std.proofs.Common.{◌⊎◌, ◌<◌, sym, subst}
use Rattle.rg_cells.specs.Table.{body_at, width}
use Rattle.rg_heap.specs.Parts.{Parts}
use Rattle.rg_heap.specs.Writes.{Comes, InActive, LeadsOut}
use Rattle.rg_heap.specs.Ends.{IsTemp}
use Rattle.rg_heap.proofs.Marked.{grove_swapped}
use Rattle.rg_heap.proofs.heap.Heap.swap.Goals as goal

pub invariant_of-self : goal.invariant_of-self
invariant_of-self c =
    let s = c.self.inside in
    let W : Parts → Type 0 = λ (p : Parts). c.args.k < width (body_at p.cells.heap c.args.slot) in
    let P : Parts → Type 0 = λ (p : Parts). InActive p.cells.heap p.regions c.args.frames.now c.args.slot
    (λ n. Comes p.cells.heap p.regions n c.args.w × LeadsOut p.cells.heap c.args.slot c.args.k n) ⊎ IsTemp p.cells.heap c.args.slot in
    grove_swapped s.cells c.set_field.new.self s.regions c.args.frames.now c.args.slot c.args.k c.args.w c.self.invariant c.set_field.ensures
    (subst W (sym c.self.view_is) c.requires.width) (subst P (sym c.self.view_is) c.requires.place)
