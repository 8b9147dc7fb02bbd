use Rattle.rg_sound.proofs.Frames.Test.{branch-keeps}
use Rattle.rg_sound.proofs.steps.branch_keeps_fit.Goals as goal

pub returns : goal.returns
returns c = branch-keeps
