use Rattle.rg_sched_atomic.proofs.Named.{distinct_of}
use Rattle.rg_sched_atomic.proofs.laws.plans_are_settings.Goals as goal

pub returns : goal.returns
returns c = λ t bytes p images h k d l. let b = (c.plans_are_good.ensures t bytes p h).behaviours k d l in distinct_of _ b.distinct
