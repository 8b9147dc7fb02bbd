use Rattle.rg_sound.proofs.LocalRoots.{fit-hidden}
use Rattle.rg_sound.proofs.laws.fit_hidden.Goals as goal

pub returns : goal.returns
returns c = fit-hidden
