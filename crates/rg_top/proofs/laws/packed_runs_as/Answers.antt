use Rattle.rg_top.proofs.Packed.{packed-runs}
use Rattle.rg_top.proofs.laws.packed_runs_as.Goals as goal

pub returns : goal.returns
returns c = packed-runs c.packed_spells_module.ensures c.packed_is_raised.ensures c.one_module_one_run.ensures c.at_most_one_module.ensures
