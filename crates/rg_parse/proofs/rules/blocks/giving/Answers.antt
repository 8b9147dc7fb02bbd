use Rattle.rg_parse.proofs.StmtRows.{no_giving-found}
use Rattle.rg_parse.proofs.rules.blocks.giving.Goals as goal

pub returns-else-is_next-clause-ok : goal.returns-else-is_next-clause-ok
returns-else-is_next-clause-ok c = no_giving-found _ c.if-is_next.ensures
