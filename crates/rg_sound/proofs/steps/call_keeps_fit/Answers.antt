use Rattle.rg_sound.proofs.Values.Invoke.{call-keeps}
use Rattle.rg_sound.proofs.steps.call_keeps_fit.Goals as goal

pub returns : goal.returns
returns c = call-keeps
