use Rattle.std.proofs.Common.{◌∙◌, ℕ, inl, refl, ap}
use Rattle.rg_pace.specs.Asked.{Asked}
use Rattle.rg_commands.proofs.Reported.{quiet-memory}
use Rattle.rg_commands.proofs.Asked.{asked-tuned, quiet-same, some-input, yeses-tuned, yeses-fresh}
use Rattle.rg_commands.proofs.setting.Setting.run_accepted.Goals as goal

-- the fields of a tally
abbrev yeses : Asked → ℕ
yeses a = a.yeses

abbrev tuned : Asked → ℕ
tuned a = a.tuned

pub returns-clause-ran : goal.returns-clause-ran
returns-clause-ran g c = λ origin source runs.
    let h = c.run_code.ensures.ran origin source runs in
    (h.0, h.1, (h.2.0, asked-tuned origin source h.0 _ _ _ _ _ _ _ c.tune.ensures c.tune-2.ensures h.2.1))

pub returns-in_default-clause-ran : goal.returns-in_default-clause-ran
returns-in_default-clause-ran g c = λ origin source runs. some-input _ _ (λ bytes. (
  inl (c.requires, refl, refl),
  inl (record { fresh = c.requires; count = quiet-same _ _ c.tune.ensures; trace = quiet-same _ _ c.tune-2.ensures }),
))

pub returns-in_default-clause-notes : goal.returns-in_default-clause-notes
returns-in_default-clause-notes g c = quiet-memory c.args.options.report c.args.self.now.machine.now _ c.requires

pub returns-clause-yeses : goal.returns-clause-yeses
returns-clause-yeses g c = yeses-tuned c.run_code.new.self.machine.now _ _ _ _ _ _ (ap yeses c.tune.ensures) (ap yeses c.tune-2.ensures) c.run_code.ensures.paced.1

pub returns-clause-tuned : goal.returns-clause-tuned
returns-clause-tuned g c =
    let run = c.run_code.ensures.paced.0 in (run.0 ∙ ap tuned c.tune.ensures, run.1 ∙ ap tuned c.tune-2.ensures)

pub returns-in_default-clause-yeses : goal.returns-in_default-clause-yeses
returns-in_default-clause-yeses g c = yeses-fresh _ _ _ _ _ c.requires (ap yeses c.tune.ensures) (ap yeses c.tune-2.ensures)

pub returns-in_default-clause-tuned : goal.returns-in_default-clause-tuned
returns-in_default-clause-tuned g c = (ap tuned c.tune.ensures, ap tuned c.tune-2.ensures)
