use Rattle.rg_packed.proofs.Whole.{spells-module}
use Rattle.rg_packed.proofs.laws.packed_spells_module.Goals as goal

pub returns : goal.returns
returns c = spells-module c.spelt_is_within_limits.ensures
