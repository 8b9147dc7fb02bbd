use Rattle.std.proofs.Common.{refl, inr}
use Rattle.rg_tree.specs.Rows.RowTrees.{program_of}
use Rattle.rg_words.specs.Commands.{when, with_plan}
use Rattle.rg_commands.proofs.Asked.{quiet-does, schedule-on, some-input, unasked}
use Rattle.rg_commands.proofs.Planned.{is-kept}
use Rattle.rg_commands.proofs.Refused.{caused-beside, refuses-settles, refuses-caused, schedule-inside}
use Rattle.rg_commands.proofs.setting.Setting.answer_plan.Goals as goal

pub run_planned-requires-clause-keep : goal.run_planned-requires-clause-keep
run_planned-requires-clause-keep g c = is-kept c.args.keep c.in-Ok.planned.plan c.in-Ok.ensures.brings.means.0.1

pub returns-in-Err-clause-settles : goal.returns-in-Err-clause-settles
returns-in-Err-clause-settles g c =
    let asked = when c.args.file.now c.args.plan.now c.args.keep in
    some-input _ _ (λ bytes.
    quiet-does _ asked bytes c.in-Err.status _ _ _ _ _ _ (unasked _ _ _ c.requires.fresh)
    (refuses-settles _ asked c.in-Err.status _ _ _ _ c.in-Err.ensures.brings c.requires.fresh refl))

pub returns-in-Err-clause-caused : goal.returns-in-Err-clause-caused
returns-in-Err-clause-caused g c =
    refuses-caused (g.F.Files.told c.args.files.now) (with_plan c.args.file.now c.args.plan.now c.args.keep) c.in-Err.status _ _ _
    c.in-Err.ensures.brings

pub returns-in-Ok-clause-settles : goal.returns-in-Ok-clause-settles
returns-in-Ok-clause-settles g c =
    let there = c.in-Ok.ensures.brings in
    let h = schedule-on _ _ _ _ _ c.run_planned.ensures.settles in (
      h.0,
      h.1,
      inr (inr (record {
        source = there.source;
        has = there.has;
        tree = program_of c.in-Ok.planned.accepted.program;
        plan = c.in-Ok.planned.plan;
        images = c.in-Ok.planned.images.items;
        means = there.means;
        settles = h.2;
        fresh = c.requires.fresh;
      })),
    )

pub returns-in-Ok-clause-source_fault : goal.returns-in-Ok-clause-source_fault
returns-in-Ok-clause-source_fault g c = λ e.
    absurd (schedule-inside (program_of c.in-Ok.planned.accepted.program) c.in-Ok.planned.plan c.in-Ok.planned.images.items c.args.keep _ _ _ _
    c.run_planned.ensures.settles e)

pub returns-in-Err-clause-tuned : goal.returns-in-Err-clause-tuned
returns-in-Err-clause-tuned g c = (refl, refl)

pub returns-in-Ok-clause-tuned : goal.returns-in-Ok-clause-tuned
returns-in-Ok-clause-tuned g c = c.run_planned.ensures.tuned

pub returns-in-Ok-clause-caused : goal.returns-in-Ok-clause-caused
returns-in-Ok-clause-caused g c = caused-beside _ _ _ _ _ _ c.run_planned.ensures.caused
