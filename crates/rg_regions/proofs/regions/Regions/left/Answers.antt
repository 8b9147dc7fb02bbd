use Rattle.std.proofs.Common.{ℕ, length, ap, sym}
use Rattle.rg_regions.proofs.Callers.Told.{same_members}
use Rattle.rg_regions.proofs.regions.Regions.left.Goals as goal

pub returns-clause-kept : goal.returns-clause-kept
returns-clause-kept c = λ r f. sym (ap (length {A = ℕ}) (same_members _ r c.members.result.now f c.members.ensures))
