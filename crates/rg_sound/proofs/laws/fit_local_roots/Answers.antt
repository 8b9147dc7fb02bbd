use Rattle.rg_sound.proofs.LocalRoots.{fit-local_roots}
use Rattle.rg_sound.proofs.laws.fit_local_roots.Goals as goal

pub returns : goal.returns
returns c = fit-local_roots
