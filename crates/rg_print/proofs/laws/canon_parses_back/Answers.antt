use Rattle.rg_print.proofs.Canon.ParsesBack.{parses-back}
use Rattle.rg_print.proofs.laws.canon_parses_back.Goals as goal

pub returns : goal.returns
returns c = parses-back
