use Rattle.rg_sound.proofs.Taken.{assign-keeps}
use Rattle.rg_sound.proofs.steps.assign_keeps_fit.Goals as goal

pub returns : goal.returns
returns c = assign-keeps
