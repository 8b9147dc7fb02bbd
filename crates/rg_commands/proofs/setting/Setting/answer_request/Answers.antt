use Rattle.std.proofs.Common.{refl, inl}
use Rattle.rg_words.specs.Requests.{command_of}
use Rattle.rg_words.specs.Commands.{reports}
use Rattle.rg_commands.proofs.Reported.{quiet-refuses}
use Rattle.rg_commands.proofs.Refused.{refuses-settles, refuses-caused, settles-inside}
use Rattle.rg_commands.proofs.Asked.{quiet-does, some-input, unasked, yeses-fresh}
use Rattle.rg_commands.proofs.setting.Setting.answer_request.Goals as goal

pub returns-in-Err-clause-settles : goal.returns-in-Err-clause-settles
returns-in-Err-clause-settles g c = some-input _ _ (λ bytes.
    quiet-does _ (command_of c.args.request) bytes c.in-Err.status _ _ _ _ _ _ (unasked _ _ _ c.requires.unused.fresh)
    (refuses-settles _ (command_of c.args.request) c.in-Err.status _ _ _ _ c.in-Err.ensures.brings c.requires.unused.fresh refl))

pub returns-in-Err-clause-caused : goal.returns-in-Err-clause-caused
returns-in-Err-clause-caused g c = refuses-caused _ _ c.in-Err.status _ _ _ c.in-Err.ensures.brings

pub returns-in-Err-clause-notes : goal.returns-in-Err-clause-notes
returns-in-Err-clause-notes g c =
    quiet-refuses (reports (command_of c.args.request)) _ _ c.in-Err.status c.args.self.now.machine.now _ c.requires.unused.fresh c.in-Err.ensures.brings

pub returns-in-Ok-clause-settles : goal.returns-in-Ok-clause-settles
returns-in-Ok-clause-settles g c =
    let found = c.in-Ok.ensures.brings in
    let h = c.answer_program.ensures.settles found.source found.means in (h.0, h.1, inl (found.source, found.has, h.2))

pub returns-in-Ok-clause-source_fault : goal.returns-in-Ok-clause-source_fault
returns-in-Ok-clause-source_fault g c =
    let found = c.in-Ok.ensures.brings in
    let h = c.answer_program.ensures.settles found.source found.means in
    λ e. absurd (settles-inside (command_of c.args.request) found.source _ _ _ _ _ _ h.2.settles e)

pub returns-in-Err-clause-yeses : goal.returns-in-Err-clause-yeses
returns-in-Err-clause-yeses g c = yeses-fresh _ _ _ _ _ c.requires.unused.fresh refl refl

pub returns-in-Ok-clause-yeses : goal.returns-in-Ok-clause-yeses
returns-in-Ok-clause-yeses g c = c.answer_program.ensures.yeses

pub returns-in-Err-clause-untuned : goal.returns-in-Err-clause-untuned
returns-in-Err-clause-untuned g c = λ off. (refl, refl)

pub returns-in-Ok-clause-untuned : goal.returns-in-Ok-clause-untuned
returns-in-Ok-clause-untuned g c = c.answer_program.ensures.untuned
