use Rattle.std.proofs.Common.{refl}
use Rattle.rg_plan.proofs.PieceSteps.{pieces-cut}
use Rattle.rg_plan.proofs.pieces.Pieces.next.Goals as goal

pub returns : goal.returns
returns c =
    rw (← c.self.view_is, c.in-Some.is) (pieces-cut c.self.inside.mark c.run_to-len.result c.in-Some.rest.now _ _ c.run_to-len.ensures.run refl
    c.behind-self-inside.ensures)
