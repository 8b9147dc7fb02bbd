use Rattle.rg_reader.proofs.Tokens.{first-next}
use Rattle.rg_reader.proofs.reader.Reader.is_next.Goals as goal

pub returns-in-Some : goal.returns-in-Some
returns-in-Some c = first-next c.in-Some.ensures
