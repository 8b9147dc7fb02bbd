use Rattle.std.proofs.Common.{Some, inl, refl}
use Rattle.rg_commands.proofs.Settled.{does-still, no_lie, quiet-still}
use Rattle.rg_commands.proofs.Refused.{caused-unread}
use Rattle.rg_commands.proofs.Asked.{some-input, unasked, yeses-fresh}
use Rattle.rg_commands.proofs.setting.Setting.answer_program.Goals as goal

pub returns-in-Run-clause-settles : goal.returns-in-Run-clause-settles
returns-in-Run-clause-settles g c = λ source means.
    rw c.in-Run.is (c.run_program.ensures.settles c.in-Run.file.now source (rw c.in-Run.is at means))

pub returns-in-Plain-clause-settles : goal.returns-in-Plain-clause-settles
returns-in-Plain-clause-settles g c = λ source means.
    let h =
    c.plain_program.ensures.settles c.in-Plain.file.now source c.args.self.now.machine.now (rw c.in-Plain.is at means) c.requires.unused.fresh in
    (h.0, h.1, record { settles = rw c.in-Plain.is h.2; asked = inl (unasked _ _ _ c.requires.unused.fresh) })

pub returns-in-Format-clause-settles : goal.returns-in-Format-clause-settles
returns-in-Format-clause-settles g c = λ source means. some-input _ _ (λ bytes. rw c.in-Format.is
    (quiet-still refl refl
    (c.format_program.ensures.settles c.in-Format.file.now source (Some bytes) c.args.self.now.machine.now (rw c.in-Format.is at means)
    c.requires.unused.fresh)
    (unasked _ _ _ c.requires.unused.fresh)))

pub returns-in-Check-clause-settles : goal.returns-in-Check-clause-settles
returns-in-Check-clause-settles g c = λ source means. some-input _ _ (λ bytes. rw c.in-Check.is
    (quiet-still refl refl
    (c.check_program.ensures.settles c.in-Check.file.now source (Some bytes) c.args.self.now.machine.now (rw c.in-Check.is at means)
    c.requires.unused.fresh)
    (unasked _ _ _ c.requires.unused.fresh)))

pub returns-in-Code-clause-settles : goal.returns-in-Code-clause-settles
returns-in-Code-clause-settles g c = λ source means. some-input _ _ (λ bytes. rw c.in-Code.is
    (quiet-still refl refl
    (c.list_program.ensures.settles c.in-Code.file.now source (Some bytes) c.args.self.now.machine.now (rw c.in-Code.is at means)
    c.requires.unused.fresh)
    (unasked _ _ _ c.requires.unused.fresh)))

pub returns-in-Pack-clause-settles : goal.returns-in-Pack-clause-settles
returns-in-Pack-clause-settles g c = λ source means. some-input _ _ (λ bytes. rw c.in-Pack.is
    (quiet-still refl refl
    (c.pack_program.ensures.settles c.in-Pack.file.now source (Some bytes) c.args.self.now.machine.now (rw c.in-Pack.is at means)
    c.requires.unused.fresh)
    (unasked _ _ _ c.requires.unused.fresh)))

pub returns-in-Bulk-clause-settles : goal.returns-in-Bulk-clause-settles
returns-in-Bulk-clause-settles g c = λ source means. some-input _ _ (λ bytes. rw c.in-Bulk.is
    (does-still refl refl (c.bulk_program.ensures.settles source bytes (rw c.in-Bulk.is at means))))

pub returns-in-Bulk-clause-caused : goal.returns-in-Bulk-clause-caused
returns-in-Bulk-clause-caused g c = caused-unread _ _ _ _ _ _ c.bulk_program.ensures.caused

pub returns-in-Run-clause-yeses : goal.returns-in-Run-clause-yeses
returns-in-Run-clause-yeses g c = c.run_program.ensures.yeses

pub returns-in-Bulk-clause-yeses : goal.returns-in-Bulk-clause-yeses
returns-in-Bulk-clause-yeses g c = c.bulk_program.ensures.yeses

pub returns-in-Plain-clause-yeses : goal.returns-in-Plain-clause-yeses
returns-in-Plain-clause-yeses g c = yeses-fresh _ _ _ _ _ c.requires.unused.fresh refl refl

pub returns-in-Format-clause-yeses : goal.returns-in-Format-clause-yeses
returns-in-Format-clause-yeses g c = yeses-fresh _ _ _ _ _ c.requires.unused.fresh refl refl

pub returns-in-Check-clause-yeses : goal.returns-in-Check-clause-yeses
returns-in-Check-clause-yeses g c = yeses-fresh _ _ _ _ _ c.requires.unused.fresh refl refl

pub returns-in-Code-clause-yeses : goal.returns-in-Code-clause-yeses
returns-in-Code-clause-yeses g c = yeses-fresh _ _ _ _ _ c.requires.unused.fresh refl refl

pub returns-in-Pack-clause-yeses : goal.returns-in-Pack-clause-yeses
returns-in-Pack-clause-yeses g c = yeses-fresh _ _ _ _ _ c.requires.unused.fresh refl refl

pub returns-in-Run-clause-untuned : goal.returns-in-Run-clause-untuned
returns-in-Run-clause-untuned g c = rw c.in-Run.is (λ off. absurd (no_lie off))

pub returns-in-Plain-clause-untuned : goal.returns-in-Plain-clause-untuned
returns-in-Plain-clause-untuned g c = λ off. (refl, refl)

pub returns-in-Format-clause-untuned : goal.returns-in-Format-clause-untuned
returns-in-Format-clause-untuned g c = λ off. (refl, refl)

pub returns-in-Check-clause-untuned : goal.returns-in-Check-clause-untuned
returns-in-Check-clause-untuned g c = λ off. (refl, refl)

pub returns-in-Code-clause-untuned : goal.returns-in-Code-clause-untuned
returns-in-Code-clause-untuned g c = λ off. (refl, refl)

pub returns-in-Pack-clause-untuned : goal.returns-in-Pack-clause-untuned
returns-in-Pack-clause-untuned g c = λ off. (refl, refl)

pub returns-in-Bulk-clause-untuned : goal.returns-in-Bulk-clause-untuned
returns-in-Bulk-clause-untuned g c = rw c.in-Bulk.is (λ off. absurd (no_lie off))
