use Rattle.rg_held.proofs.Callers.Need.{needs-same}
use Rattle.rg_held.proofs.laws.needs_same.Goals as goal

pub returns : goal.returns
returns c = needs-same
