use Rattle.std.proofs.Common.{true, ap, ◌∙◌}
use Rattle.rg_step.specs.Stepping.{Stepping}
use Rattle.rg_step.proofs.stepper.Stepper.slide.Goals as goal

pub returns : goal.returns
returns c = ap (λ (s : Stepping). record s { slides = true }) (c.self.view_is ∙ c.requires)
