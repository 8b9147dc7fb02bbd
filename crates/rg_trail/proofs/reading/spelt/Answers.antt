use Rattle.rg_trail.proofs.Read.{few-names}
use Rattle.rg_trail.proofs.reading.spelt.Goals as goal

pub returns : goal.returns
returns c = record { names = few-names _ _ c.parse.result c.spelt_has_few_names.ensures c.parse.ensures.ok }
