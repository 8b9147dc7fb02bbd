use Rattle.std.proofs.Common.{refl, inl}
use Rattle.rg_words.specs.Commands.{exec, in_module}
use Rattle.rg_commands.proofs.Reported.{quiet-refuses}
use Rattle.rg_commands.proofs.Ran.{exec-settles}
use Rattle.rg_commands.proofs.Refused.{refuses-settles, refuses-caused, settles-inside}
use Rattle.rg_commands.proofs.Asked.{quiet-does, some-input, unasked, yeses-fresh}
use Rattle.rg_commands.proofs.setting.Setting.answer_module.Goals as goal

pub returns-in-Err-clause-settles : goal.returns-in-Err-clause-settles
returns-in-Err-clause-settles g c =
    let o = c.args.options in
    let asked = exec c.args.file.now o.steps o.every o.report in
    some-input _ _ (λ bytes.
    quiet-does _ asked bytes c.in-Err.status _ _ _ _ _ _ (unasked _ _ _ c.requires.fresh)
    (refuses-settles _ asked c.in-Err.status _ _ _ _ c.in-Err.ensures.brings c.requires.fresh refl))

pub returns-in-Err-clause-caused : goal.returns-in-Err-clause-caused
returns-in-Err-clause-caused g c = refuses-caused (g.F.Files.told c.args.files.now) (in_module c.args.file.now) c.in-Err.status _ _ _ c.in-Err.ensures.brings

pub returns-in-Err-clause-notes : goal.returns-in-Err-clause-notes
returns-in-Err-clause-notes g c =
    quiet-refuses c.args.options.report (g.F.Files.told c.args.files.now) (in_module c.args.file.now) c.in-Err.status c.args.self.now.machine.now _
    c.requires.fresh c.in-Err.ensures.brings

pub returns-in-Ok-clause-settles : goal.returns-in-Ok-clause-settles
returns-in-Ok-clause-settles g c =
    let o = c.args.options in
    let raised = c.in-Ok.ensures.brings in
    let h = c.run_accepted.ensures.ran (in_module c.args.file.now) raised.source raised.runs in (
      h.0,
      h.1,
      inl (
        raised.source,
        raised.has,
        record { settles = exec-settles c.args.file.now o.steps o.every o.report raised.source _ _ _ _ _ _ h.2.0; asked = h.2.1 },
      ),
    )

pub returns-in-Ok-clause-source_fault : goal.returns-in-Ok-clause-source_fault
returns-in-Ok-clause-source_fault g c =
    let o = c.args.options in
    let raised = c.in-Ok.ensures.brings in
    let h = c.run_accepted.ensures.ran (in_module c.args.file.now) raised.source raised.runs in
    λ e. absurd (settles-inside (exec c.args.file.now o.steps o.every o.report) raised.source _ _ _ _ _ _
    (exec-settles c.args.file.now o.steps o.every o.report raised.source _ _ _ _ _ _ h.2.0) e)

pub returns-in-Err-clause-yeses : goal.returns-in-Err-clause-yeses
returns-in-Err-clause-yeses g c = yeses-fresh _ _ _ _ _ c.requires.fresh refl refl

pub returns-in-Ok-clause-yeses : goal.returns-in-Ok-clause-yeses
returns-in-Ok-clause-yeses g c = c.run_accepted.ensures.yeses
