use Rattle.rg_reader.proofs.Halting.{halts-none}
use Rattle.rg_parse.proofs.ClassRows.{no-member}
use Rattle.rg_parse.proofs.rules.classes.member.Goals as goal

pub returns-else-is_next-2-clause-fault : goal.returns-else-is_next-2-clause-fault
returns-else-is_next-2-clause-fault c = halts-none _ (no-member _ c.requires c.if-is_next.ensures c.if-is_next-2.ensures)
