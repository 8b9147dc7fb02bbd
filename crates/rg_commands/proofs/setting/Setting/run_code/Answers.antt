use Rattle.std.proofs.Common.{refl}
use Rattle.rg_commands.proofs.Ran.{caused-by, on-input}
use Rattle.rg_commands.proofs.Reported.{ran-reported}
use Rattle.rg_commands.proofs.Asked.{ran-both, yeses-of-run}
use Rattle.rg_commands.proofs.setting.Setting.run_code.Goals as goal

pub returns-clause-ran : goal.returns-clause-ran
returns-clause-ran g c = λ origin source runs.
    rw c.status_of.ensures.is
    (ran-both origin c.args.options.steps source _ c.args.lowered.now.accepted.now.program _ _ _ _ _ _ _ _ _ (λ h. h.1) c.requires.lowers runs
    (on-input _ _ _ _ _ c.new.ensures c.run-ran.ensures.follows c.run-ran.ensures.run))

pub returns-clause-notes : goal.returns-clause-notes
returns-clause-notes g c = rw c.status_of.ensures.is (ran-reported c.args.options.report _ _ _ _ c.run-ran.ensures.notes)

pub returns-clause-paced : goal.returns-clause-paced
returns-clause-paced g c = (c.run-ran.ensures.tuned, yeses-of-run _ _ _ _ _ refl refl c.run-ran.ensures.yeses)

pub returns-clause-caused : goal.returns-clause-caused
returns-clause-caused g c = rw c.status_of.ensures.is (caused-by _ _ _ _ _ _ _ c.run-ran.ensures.caused)
