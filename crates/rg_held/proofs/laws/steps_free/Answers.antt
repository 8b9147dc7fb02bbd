use Rattle.rg_held.proofs.Callers.Freed.{steps-free}
use Rattle.rg_held.proofs.laws.steps_free.Goals as goal

pub returns : goal.returns
returns c = steps-free
