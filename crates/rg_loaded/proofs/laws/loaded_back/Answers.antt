use Rattle.rg_loaded.proofs.Shown.{loaded-back}
use Rattle.rg_loaded.proofs.laws.loaded_back.Goals as goal

pub returns : goal.returns
returns c = loaded-back
