use Rattle.rg_reader.specs.Inner.Starts.{type_start}
use Rattle.rg_reader.proofs.Halting.{halts-none}
use Rattle.rg_reader.proofs.Tokens.{started}
use Rattle.rg_reader.proofs.TypeRows.{no-type}
use Rattle.rg_reader.proofs.reader.Reader.ty.Goals as goal

pub returns-in-Nothing-clause-fault : goal.returns-in-Nothing-clause-fault
returns-in-Nothing-clause-fault c = halts-none _ (no-type _ (started type_start c.next.ensures c.in-Nothing.ensures))
