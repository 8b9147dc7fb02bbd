use Rattle.std.proofs.Common.{◌≡◌, subst, sym, arith}
use Rattle.rg_frames.specs.Stack.{Stack}
use Rattle.rg_frames.specs.Changes.{ended}
use Rattle.rg_frames.proofs.Unwriting.{ended-past}
use Rattle.rg_frames.proofs.frames.Frames.live.Goals as goal

pub returns-clause-nil : goal.returns-clause-nil
returns-clause-nil c =
    let n = c.saturating_sub.result in
    let is = c.saturating_sub.ensures in
    let Q : Stack → Type 0 = λ v. ended v n ≡ v in
    subst Q c.self.view_is (sym (ended-past _ _ _ (omega (arith, is)) c.self.invariant.1.top))
