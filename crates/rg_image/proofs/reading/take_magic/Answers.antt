use Rattle.rg_image.proofs.Whole.{magic-found}
use Rattle.rg_image.proofs.reading.take_magic.Goals as goal

pub returns : goal.returns
returns c = magic-found c.args.bytes.now c.strip_prefix.result c.strip_prefix.ensures.cases
