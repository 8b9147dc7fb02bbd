use Rattle.std.proofs.Common.{[]}
use Rattle.rg_build.proofs.LayingSteps.{lays-still}
use Rattle.rg_build.proofs.bodies.put_member.Goals as goal

pub returns-in-Field : goal.returns-in-Field
returns-in-Field c = rw c.in-Field.is (lays-still c.args.laying.now [] c.requires.begun)
