use Rattle.rg_fitted.proofs.Bodies.{modules-fit}
use Rattle.rg_fitted.proofs.laws.modules_fit.Goals as goal

pub returns : goal.returns
returns c = modules-fit c.blocks_have_their_code.ensures
