use Rattle.rg_sound.proofs.Taken.{declare-keeps}
use Rattle.rg_sound.proofs.steps.declare_keeps_fit.Goals as goal

pub returns : goal.returns
returns c = declare-keeps
