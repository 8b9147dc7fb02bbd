use Rattle.rg_image.proofs.Whole.{one_content}
use Rattle.rg_image.proofs.laws.at_most_one_content.Goals as goal

pub returns : goal.returns
returns c = one_content
