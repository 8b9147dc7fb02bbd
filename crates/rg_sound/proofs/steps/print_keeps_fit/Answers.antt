use Rattle.rg_sound.proofs.Frames.Quiet.{print-keeps}
use Rattle.rg_sound.proofs.steps.print_keeps_fit.Goals as goal

pub returns : goal.returns
returns c = print-keeps
