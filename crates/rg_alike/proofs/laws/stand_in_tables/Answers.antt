use Rattle.rg_alike.proofs.Standing.{stand-in_tables}
use Rattle.rg_alike.proofs.laws.stand_in_tables.Goals as goal

pub returns : goal.returns
returns c = stand-in_tables
