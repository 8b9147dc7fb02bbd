use Rattle.rg_sound.proofs.Values.Return.{back-keeps}
use Rattle.rg_sound.proofs.steps.back_keeps_fit.Goals as goal

pub returns : goal.returns
returns c = back-keeps
