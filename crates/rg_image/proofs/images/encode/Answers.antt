use Rattle.rg_image.proofs.Ranges.{encoded}
use Rattle.rg_image.proofs.images.encode.Goals as goal

pub returns-clause-image : goal.returns-clause-image
returns-clause-image c = encoded _ _ c.in_ok-bytes.ensures.text c.in_ok-bytes.ensures.ranges
