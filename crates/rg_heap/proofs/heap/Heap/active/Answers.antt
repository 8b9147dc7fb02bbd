use Rattle.std.proofs.Common.{subst, length}
use Rattle.rg_frames.specs.declared.rows.Window.{Window}
use Rattle.rg_heap.specs.Parts.{Parts}
use Rattle.rg_heap.specs.Reads.{Tells}
use Rattle.rg_heap.proofs.Readers.{one_top, tells}
use Rattle.rg_heap.proofs.heap.Heap.active.Goals as goal

pub returns : goal.returns
returns c = λ w p.
    let s = c.self.inside in
    let P : Parts → Type 0 = λ (x : Parts). Tells x.regions w.region
    (record { region = c.number.result; manager = c.manager.result; held = length c.members.result.now }) in
    let K : Window → Type 0 = λ (x : Window). Tells s.regions x.region
    (record { region = c.number.result; manager = c.manager.result; held = length c.members.result.now }) in
    subst P c.self.view_is (subst K (one_top c.args.frames.now c.top-key.result w c.top-key.ensures p)
    (tells s.regions c.top-key.result.region c.number.result c.manager.result c.members.result.now c.number.ensures c.manager.ensures
    c.members.ensures))
