use Rattle.rg_build.proofs.Copying.{openings-turn}
use Rattle.rg_build.proofs.copies.copy_openings.Goals as goal

pub loop-class-preserved : goal.loop-class-preserved
loop-class-preserved c =
    openings-turn c.args.code.now c.args.copy.now c.loop-class.copy c.add_class.new.self c.loop-class.class c.opening.result.now c.opening.ensures
    c.loop-class.invariant c.in_ok-add_class.ensures.ok
