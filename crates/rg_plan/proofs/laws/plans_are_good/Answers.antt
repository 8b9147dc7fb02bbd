use Rattle.rg_plan.proofs.GoodPlans.{plan-good}
use Rattle.rg_plan.proofs.laws.plans_are_good.Goals as goal

pub returns : goal.returns
returns c = plan-good
