use Rattle.rg_sound.proofs.Owners.LeaveGiving.{leave_giving-keeps}
use Rattle.rg_sound.proofs.steps.leave_giving_keeps_fit.Goals as goal

pub returns : goal.returns
returns c = leave_giving-keeps
