use Rattle.rg_sound.proofs.Owners.Swap.{swap-keeps}
use Rattle.rg_sound.proofs.steps.swap_keeps_fit.Goals as goal

pub returns : goal.returns
returns c = swap-keeps
