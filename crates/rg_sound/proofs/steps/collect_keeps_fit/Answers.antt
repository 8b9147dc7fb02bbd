use Rattle.rg_sound.proofs.Frames.Quiet.{collect-keeps}
use Rattle.rg_sound.proofs.steps.collect_keeps_fit.Goals as goal

pub returns : goal.returns
returns c = collect-keeps
