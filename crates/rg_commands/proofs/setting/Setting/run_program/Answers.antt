use Rattle.rg_tree.specs.Rows.RowTrees.{program_of}
use Rattle.rg_words.specs.Commands.{in_file}
use Rattle.rg_commands.proofs.Ran.{run-settles, runs-checked}
use Rattle.rg_commands.proofs.Reported.{quiet-refused, quiet-memory}
use Rattle.std.proofs.Common.{ap, inl, inr, refl}
use Rattle.std.specs.Result.{result_err}
use Rattle.rg_commands.proofs.Asked.{some-input, unasked, yeses-fresh}
use Rattle.rg_commands.proofs.setting.Setting.run_program.Goals as goal

pub returns-in-Ok-clause-settles : goal.returns-in-Ok-clause-settles
returns-in-Ok-clause-settles g c = λ file source means.
    let o = c.args.options in
    let h =
    c.run_accepted.ensures.ran (in_file file) source
    (runs-checked (in_file file) source c.args.program _ c.in-Ok.ensures.program means c.in-Ok.ensures.judged) in (
      h.0,
      h.1,
      record { settles = run-settles o.slides file o.steps o.every o.report source _ _ _ _ _ _ h.2.0; asked = h.2.1 },
    )

pub returns-in-Err-Fault-clause-settles : goal.returns-in-Err-Fault-clause-settles
returns-in-Err-Fault-clause-settles g c =
    rw c.in-Err-Fault.field-0-is
    (let judged = rw c.in-Err-Fault.field-0-is at c.in-Err-Fault.ensures.judged in
    λ file source means. some-input _ _ (λ bytes. record {
      settles = (inr (program_of c.args.program, means, ap result_err judged), (c.choose.ensures.fresh, refl, refl));
      asked = inl (unasked _ _ _ c.choose.ensures.fresh);
    }))

pub returns-in-Err-Memory-clause-settles : goal.returns-in-Err-Memory-clause-settles
returns-in-Err-Memory-clause-settles g c = λ file source means. some-input _ _ (λ bytes. record {
  settles = inl (c.choose.ensures.fresh, refl, refl);
  asked = inl (unasked _ _ _ c.choose.ensures.fresh);
})

pub returns-in-Err-Fault-clause-notes : goal.returns-in-Err-Fault-clause-notes
returns-in-Err-Fault-clause-notes g c = quiet-refused c.args.options.report _ _ _

pub returns-in-Err-Memory-clause-notes : goal.returns-in-Err-Memory-clause-notes
returns-in-Err-Memory-clause-notes g c = quiet-memory c.args.options.report c.choose.new.machine _ c.choose.ensures.fresh

pub returns-in-Ok-clause-yeses : goal.returns-in-Ok-clause-yeses
returns-in-Ok-clause-yeses g c = c.run_accepted.ensures.yeses

pub returns-in-Err-Fault-clause-yeses : goal.returns-in-Err-Fault-clause-yeses
returns-in-Err-Fault-clause-yeses g c = yeses-fresh _ _ _ _ _ c.choose.ensures.fresh refl refl

pub returns-in-Err-Memory-clause-yeses : goal.returns-in-Err-Memory-clause-yeses
returns-in-Err-Memory-clause-yeses g c = yeses-fresh _ _ _ _ _ c.choose.ensures.fresh refl refl
