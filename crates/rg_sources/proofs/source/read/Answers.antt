use Rattle.rg_sources.proofs.Meaning.{few-names}
use Rattle.rg_sources.proofs.source.read.Goals as goal

pub returns-clause-names : goal.returns-clause-names
returns-clause-names c = few-names _ _ c.parse.result c.spelt_has_few_names.ensures c.parse.ensures.ok
