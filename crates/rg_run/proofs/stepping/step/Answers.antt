-- What a step adds, of what it did.
use Rattle.rg_run.proofs.Step.{added, slides, yeses}
use Rattle.rg_run.proofs.stepping.step.Goals as goal

pub returns-clause-events : goal.returns-clause-events
returns-clause-events g c = added c.step.ensures.follows c.step.ensures.step

pub returns-clause-slides : goal.returns-clause-slides
returns-clause-slides g c = slides c.step.ensures.follows c.step.ensures.step

pub returns-clause-yeses : goal.returns-clause-yeses
returns-clause-yeses g c = yeses c.step.ensures.follows c.step.ensures.step
