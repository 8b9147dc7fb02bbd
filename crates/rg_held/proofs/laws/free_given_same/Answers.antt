use Rattle.rg_held.proofs.Callers.Step.{free-given-same}
use Rattle.rg_held.proofs.laws.free_given_same.Goals as goal

pub returns : goal.returns
returns c = free-given-same
