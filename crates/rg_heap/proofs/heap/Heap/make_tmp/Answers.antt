use Rattle.std.proofs.Common.{refl}
use Rattle.rg_heap.specs.Changes.{SameCells}
use Rattle.rg_heap.proofs.Comes.{grove_temp, grove_same, same_taken_back, vacant_unmarked}
use Rattle.rg_heap.proofs.heap.Heap.make_tmp.Goals as goal

pub invariant_of-self-in-Ok-push_temp : goal.invariant_of-self-in-Ok-push_temp
invariant_of-self-in-Ok-push_temp c =
    let s = c.self.inside in
    let x = c.in-Ok.ensures in
    grove_temp s.cells s.regions c.make.new.self c.top-number.result.number c.in-Ok.slot c.args.class c.args.fields.now c.self.invariant
    c.requires.plain (record { takes = x.takes; made = x.made; next = x.next; high = x.high })

same : (c : goal.After-cancel) → SameCells c.self.inside.cells c.cancel.new.self
same c =
    let s = c.self.inside in
    let x = c.in-Ok.ensures in
    same_taken_back s.cells c.make.new.self c.cancel.new.self c.in-Ok.slot _ x.takes.vacant
    (vacant_unmarked s.cells s.regions c.in-Ok.slot c.self.invariant x.takes.vacant) x.made x.next c.cancel.ensures

pub invariant_of-self-in_default-push_temp : goal.invariant_of-self-in_default-push_temp
invariant_of-self-in_default-push_temp c =
    let s = c.self.inside in
    grove_same s.cells s.regions c.cancel.new.self s.regions c.self.invariant (same c) (record { records = λ k. refl; next = refl })
