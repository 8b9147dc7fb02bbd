use Rattle.rg_build.proofs.Copying.{entries-turn}
use Rattle.rg_build.proofs.copies.copy_entries.Goals as goal

pub loop-method-preserved : goal.loop-method-preserved
loop-method-preserved c =
    entries-turn c.args.code.now c.args.copy.now c.loop-method.copy c.add_method.new.self c.loop-method.method c.entry.result c.entry.ensures
    c.loop-method.invariant c.in_ok-add_method.ensures.ok
