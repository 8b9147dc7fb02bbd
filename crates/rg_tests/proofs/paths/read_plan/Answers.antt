use Rattle.rg_tests.proofs.paths.read_plan.Goals as goal

pub returns : goal.returns
returns c = c.in-Ok.ensures.read c.args.text.now c.in_ok-plan.ensures
