-- The program that is told is bare, and the same but for lines.
use Rattle.rg_verify.proofs.Bare.{raised-bare}
use Rattle.rg_verify.proofs.laws.raised_are_bare.Goals as goal

pub returns : goal.returns
returns c = raised-bare c.told_raises_if_any.ensures c.raised_alike.ensures c.told_are_bare.ensures
