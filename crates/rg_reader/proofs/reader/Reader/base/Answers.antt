use Rattle.rg_reader.specs.Inner.Starts.{base_start}
use Rattle.rg_reader.proofs.Halting.{halts-none}
use Rattle.rg_reader.proofs.Tokens.{started}
use Rattle.rg_reader.proofs.PathRows.{no-base}
use Rattle.rg_reader.proofs.reader.Reader.base.Goals as goal

pub returns-in-Nothing-clause-fault : goal.returns-in-Nothing-clause-fault
returns-in-Nothing-clause-fault c = halts-none _ (no-base _ (started base_start c.next.ensures c.in-Nothing.ensures))
