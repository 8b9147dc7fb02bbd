use Rattle.rg_sound.proofs.Taken.{assign_element-keeps}
use Rattle.rg_sound.proofs.steps.assign_element_keeps_fit.Goals as goal

pub returns : goal.returns
returns c = assign_element-keeps
