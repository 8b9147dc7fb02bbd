use Rattle.rg_sound.proofs.Frames.Test.{while-keeps}
use Rattle.rg_sound.proofs.steps.while_keeps_fit.Goals as goal

pub returns : goal.returns
returns c = while-keeps
