use Rattle.std.proofs.Common.{arith}
use Rattle.rg_frames.proofs.Written.{write-one}
use Rattle.rg_frames.proofs.frames.copy_one.Goals as goal

pub returns-clause-items : goal.returns-clause-items
returns-clause-items c = write-one c.args.all.now.items c.args.at c.args.w (omega (arith, c.requires))
