use Rattle.rg_parse.proofs.ClassRows.{no_params-found}
use Rattle.rg_parse.proofs.rules.classes.no_params.Goals as goal

pub returns-clause-ok : goal.returns-clause-ok
returns-clause-ok c = no_params-found c.requires c.in_ok-span.ensures.kept c.in_ok-span.ensures.means
