use Rattle.rg_held.proofs.Acts.Each.{act-same}
use Rattle.rg_held.proofs.laws.instructions_same.Goals as goal

pub returns : goal.returns
returns c = act-same
