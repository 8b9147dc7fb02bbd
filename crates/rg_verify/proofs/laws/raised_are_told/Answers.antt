-- What is told are the bodies with numbers, since these stand in the code.
use Rattle.rg_verify.proofs.Raised.{raised-told}
use Rattle.rg_verify.proofs.laws.raised_are_told.Goals as goal

pub returns : goal.returns
returns c =
    raised-told c.blocks_have_their_code.ensures c.accepted_are_numbered.ensures c.modules_fit.ensures c.standing_bodies_are_told.ensures
    c.limits_bound.ensures
