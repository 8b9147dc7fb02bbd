-- The cown that is to be kept is one of the plan's.
use Rattle.std.proofs.Common.{◌≡◌, ◌<◌, ℕ, true, length, Option, None, Some, IfSome, arith}
use Rattle.std.proofs.lemmas.Bool.Decides.{nat_tests}
use Rattle.rg_plan.specs.Plans.{PlanOf}
use Rattle.rg_sources.specs.Sources.{has_kept}

pub is-kept : (keep : Option ℕ) (p : PlanOf) → has_kept keep p ≡ true → IfSome keep (λ k. k < length p.cowns)
is-kept None p h = tt
is-kept (Some k) p h = grind (arith, nat_tests)
