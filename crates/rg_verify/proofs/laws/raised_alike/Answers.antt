-- Two programs that raise a module are both told by it.
use Rattle.rg_raised.specs.Told.{program_told}
use Rattle.rg_verify.proofs.Alike.{raised-alike}
use Rattle.rg_verify.proofs.laws.raised_alike.Goals as goal

pub returns : goal.returns
returns c = raised-alike program_told c.raised_are_told.ensures
