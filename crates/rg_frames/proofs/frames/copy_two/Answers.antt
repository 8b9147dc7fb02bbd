use Rattle.std.proofs.Common.{arith}
use Rattle.rg_frames.proofs.Written.{write-two}
use Rattle.rg_frames.proofs.frames.copy_two.Goals as goal

pub returns-clause-items : goal.returns-clause-items
returns-clause-items c = write-two c.args.all.now.items c.args.at c.args.w c.args.x (omega (arith, c.requires))
