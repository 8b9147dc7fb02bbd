use Rattle.std.proofs.Common.{refl}
use Rattle.rg_step.proofs.collecting.follow.Goals as goal

pub serve-requires-clause-room : goal.serve-requires-clause-room
serve-requires-clause-room g c = c.requires.room c.in-Some.why c.in-Some.is

pub returns-in_default-clause-serves : goal.returns-in_default-clause-serves
returns-in_default-clause-serves g c parts =
    rw c.in_default.is (record { parts = refl; events_are = refl }, record { since = refl; pacers = refl })

pub returns-clause-serves : goal.returns-clause-serves
returns-clause-serves g c parts = rw c.in-Some.is (c.serve.ensures.serves parts c.args.kept.now.steps)
