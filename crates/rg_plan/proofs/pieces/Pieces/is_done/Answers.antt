use Rattle.std.proofs.Common.{sym}
use Rattle.rg_plan.proofs.PieceSteps.{pieces-some}
use Rattle.rg_plan.proofs.pieces.Pieces.is_done.Goals as goal

pub returns-in-Some : goal.returns-in-Some
returns-in-Some c = rw (← c.self.view_is, c.in-Some.is) (sym (pieces-some c.self.inside.mark c.in-Some.field-0.now))
