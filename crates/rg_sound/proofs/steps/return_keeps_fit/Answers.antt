use Rattle.rg_sound.proofs.Values.Return.{return-keeps}
use Rattle.rg_sound.proofs.steps.return_keeps_fit.Goals as goal

pub returns : goal.returns
returns c = return-keeps
