use Rattle.std.proofs.Common.{refl}
use Rattle.rg_frames.proofs.Nils.{nil-between}
use Rattle.rg_frames.proofs.Unwriting.{cleared}
use Rattle.rg_frames.proofs.frames.clear.Goals as goal

pub returns-then-from-to-clause-items : goal.returns-then-from-to-clause-items
returns-then-from-to-clause-items c =
    let all = c.args.all.now in
    nil-between all.items c.deref_mut.result.now c.make_nil.new.part c.args.from c.args.to all.len c.deref_mut.ensures.value c.if-from-to.true
    (all.ok.0) c.requires c.make_nil.ensures

pub returns-else-from-to-clause-items : goal.returns-else-from-to-clause-items
returns-else-from-to-clause-items c =
    let xs = c.args.all.now.items in
    cleared xs xs c.args.from c.args.to c.if-from-to.false refl refl c.requires
