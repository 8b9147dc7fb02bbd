use Rattle.rg_reader.proofs.Halting.{halts-none}
use Rattle.rg_parse.proofs.ClassRows.{no-class_rest}
use Rattle.rg_parse.proofs.rules.classes.class_rest.Goals as goal

pub returns-else-is_next-2-clause-fault : goal.returns-else-is_next-2-clause-fault
returns-else-is_next-2-clause-fault c = halts-none _ (no-class_rest _ c.if-is_next.ensures c.if-is_next-2.ensures)
