use Rattle.rg_renamed.proofs.Whole.{module-again}
use Rattle.rg_renamed.proofs.laws.same_module.Goals as goal

pub returns : goal.returns
returns c = λ t a p n. module-again t a p n c.blocks_have_their_code.ensures
