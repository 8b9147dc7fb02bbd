use Rattle.rg_sched_atomic.proofs.GoesOn.{goes_on}
use Rattle.rg_sched_atomic.proofs.laws.one_goes_on.Goals as goal

pub returns : goal.returns
returns c = goes_on
