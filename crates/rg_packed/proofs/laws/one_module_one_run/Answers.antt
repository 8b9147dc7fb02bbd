use Rattle.rg_packed.proofs.Runs.{one-run}
use Rattle.rg_packed.proofs.laws.one_module_one_run.Goals as goal

pub returns : goal.returns
returns c = one-run c.run_shows.ensures
