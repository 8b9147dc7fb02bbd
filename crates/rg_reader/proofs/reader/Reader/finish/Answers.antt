use Rattle.rg_reader.proofs.Tokens.{halts-finish}
use Rattle.rg_reader.proofs.reader.Reader.finish.Goals as goal

pub returns-in-len1-up-clause-fault : goal.returns-in-len1-up-clause-fault
returns-in-len1-up-clause-fault c = rw (← c.self.view_is) (halts-finish _ c.in-len1-up.len_at_least)
