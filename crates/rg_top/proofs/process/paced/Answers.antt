-- The call is that of `reggio`, or no memory was found for its pacers.
use Rattle.std.proofs.Common.{◌≡◌, None}
use Rattle.rg_io.specs.Content.{Rose}
use Rattle.rg_words.specs.Commands.{command, texts, may_report}
use Rattle.rg_top.specs.Headline.{MayTell, steps_asked}
use Rattle.rg_top.proofs.Answer.{answers-expected, answers-machine, may-any, memory-machine}
use Rattle.rg_top.proofs.NoteLines.{took-may, memory-notes}
use Rattle.rg_top.proofs.process.paced.Goals as goal

pub returns-clause-expected : goal.returns-clause-expected
returns-clause-expected g c =
    answers-expected None None (texts c.args.words.now) c.reggio.result None None c.reggio.new.machine (c.reggio.new.input ≡ c.new-6.result) _
    c.reggio.ensures.answered

pub returns-clause-notes : goal.returns-clause-notes
returns-clause-notes g c =
    let words = texts c.args.words.now in
    let F : Type 0 = Rose c.new-5.result.faults c.reggio.new.files.faults in
    let I : Type 0 = Rose c.new-6.result c.reggio.new.input in (
      c.reggio.new.machine,
      answers-machine words c.reggio.result None None c.reggio.new.machine (c.reggio.new.input ≡ c.new-6.result) _ c.reggio.ensures.answered,
      took-may (MayTell None None words F I) (MayTell None None words (Unit {0}) (Unit {0})) (may-any None None words F I)
          (may_report (command words)) (steps_asked (command words)) c.reggio.new.machine c.reggio.result _ _ c.reggio.ensures.notes,
    )

pub returns-in_default-clause-notes : goal.returns-in_default-clause-notes
returns-in_default-clause-notes g c =
    let words = texts c.args.words.now in (
      c.new-machine.result,
      memory-machine words _ c.new-machine.result c.tell_no_words.ensures.told,
      memory-notes (MayTell None None words (Unit {0}) (Unit {0})) (may_report (command words)) (steps_asked (command words)) c.new-machine.result
          c.tell_no_words.result _ _ c.new-machine.ensures.fresh tt c.tell_no_words.ensures.told (c.tell_no_words.ensures.took c.new-machine.result),
    )

pub returns-in_default-new-clause-notes : goal.returns-in_default-new-clause-notes
returns-in_default-new-clause-notes g c =
    let words = texts c.args.words.now in
    let told = c.tell_no_words-in_default-new in (
      c.new-machine.result,
      memory-machine words _ c.new-machine.result told.ensures.told,
      memory-notes (MayTell None None words (Unit {0}) (Unit {0})) (may_report (command words)) (steps_asked (command words)) c.new-machine.result
          told.result _ _ c.new-machine.ensures.fresh tt told.ensures.told (told.ensures.took c.new-machine.result),
    )
