use Rattle.rg_reader.proofs.Halting.{halts-none}
use Rattle.rg_reader.proofs.TypeRows.{no-result, no_result-found}
use Rattle.rg_reader.proofs.reader.Reader.result.Goals as goal

pub returns-then-is_next-2-clause-ok : goal.returns-then-is_next-2-clause-ok
returns-then-is_next-2-clause-ok c = no_result-found _ c.if-is_next-2.ensures

pub returns-else-is_next-2-clause-fault : goal.returns-else-is_next-2-clause-fault
returns-else-is_next-2-clause-fault c = halts-none _ (no-result _ c.if-is_next.ensures c.if-is_next-2.ensures)
