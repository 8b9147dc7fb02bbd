-- What a run promises, from what it was asked for and where its lines went.
use Rattle.std.proofs.Common.{◌≡◌, subst, rules}
use Rattle.rg_run.specs.Machine.{Kept}
use Rattle.rg_run.proofs.Moved.{whole-moved, reports-moved, caused-moved}
use Rattle.rg_run.proofs.machine.Machine.run.Goals as goal

pub returns-clause-run : goal.returns-clause-run
returns-clause-run g c =
    let task = c.new-task.ensures in whole-moved task.program task.code task.n (search rules) c.run.ensures.run

pub returns-clause-begun : goal.returns-clause-begun
returns-clause-begun g c = c.run.ensures.leaves.begun

pub returns-clause-slides : goal.returns-clause-slides
returns-clause-slides g c =
    let P : Kept → Type 0 = λ m. c.run.new.self.stepper.slides ≡ m.stepper.slides in subst P c.self.view_is c.run.ensures.leaves.slides

pub returns-clause-notes : goal.returns-clause-notes
returns-clause-notes g c = reports-moved _ c.args.report _ _ _ _ _ c.new-task.ensures.report (search rules) c.run.ensures.leaves.notes

pub returns-clause-tuned : goal.returns-clause-tuned
returns-clause-tuned g c = c.run.ensures.leaves.tuned

pub returns-clause-yeses : goal.returns-clause-yeses
returns-clause-yeses g c = c.run.ensures.leaves.yeses

pub returns-clause-caused : goal.returns-clause-caused
returns-clause-caused g c = caused-moved (search rules) (search rules) c.run.ensures.caused
