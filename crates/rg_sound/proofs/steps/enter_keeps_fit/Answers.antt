use Rattle.rg_sound.proofs.Owners.Enter.{enter-keeps}
use Rattle.rg_sound.proofs.steps.enter_keeps_fit.Goals as goal

pub returns : goal.returns
returns c = enter-keeps
