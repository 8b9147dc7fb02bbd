use Rattle.rg_loaded.proofs.Shown.{image-comes-back}
use Rattle.rg_loaded.proofs.laws.image_comes_back.Goals as goal

pub returns : goal.returns
returns c = image-comes-back
