use Rattle.rg_sound.proofs.Frames.End.{end-keeps}
use Rattle.rg_sound.proofs.steps.end_keeps_fit.Goals as goal

pub returns : goal.returns
returns c = end-keeps
