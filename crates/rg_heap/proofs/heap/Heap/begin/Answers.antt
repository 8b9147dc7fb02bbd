use Rattle.rg_heap.proofs.Alike.{begins}
use Rattle.rg_heap.proofs.heap.Heap.begin.Goals as goal

pub invariant_of-self : goal.invariant_of-self
invariant_of-self c =
    let s = c.self.inside in
    begins s.cells s.regions c.add.new.self c.args.manager c.add.result c.self.invariant c.add.ensures.added c.add.ensures.fresh c.add.ensures.err
