use Rattle.rg_reader.proofs.PathRows.{no_call-halts}
use Rattle.rg_reader.proofs.reader.Reader.call_args.Goals as goal

pub returns-else-is_next-clause-fault : goal.returns-else-is_next-clause-fault
returns-else-is_next-clause-fault c = no_call-halts _ c.requires c.if-is_next.ensures
