use Rattle.rg_sound.proofs.Owners.Leave.{leave-keeps}
use Rattle.rg_sound.proofs.steps.leave_keeps_fit.Goals as goal

pub returns : goal.returns
returns c = leave-keeps
