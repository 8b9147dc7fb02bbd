use Rattle.rg_parse.specs.Inner.Starts.{new_start}
use Rattle.rg_reader.proofs.Halting.{halts-none}
use Rattle.rg_reader.proofs.Tokens.{started}
use Rattle.rg_parse.proofs.RightRows.{no-new}
use Rattle.rg_parse.proofs.rules.rights.behind_new.Goals as goal

pub returns-in-Nothing-clause-fault : goal.returns-in-Nothing-clause-fault
returns-in-Nothing-clause-fault c = halts-none _ (no-new _ (started new_start c.next.ensures c.in-Nothing.ensures))
