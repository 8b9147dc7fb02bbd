-- The program that is told is the same but for lines, so it has all that the one that raises the module has.
use Rattle.rg_verify.proofs.Alike.{told-raises}
use Rattle.rg_verify.proofs.laws.told_raises_if_any.Goals as goal

pub returns : goal.returns
returns c =
    told-raises c.raised_are_told.ensures c.told_are_numbered.ensures c.same_acceptance.ensures c.limits_are_lineless.ensures c.same_module.ensures
