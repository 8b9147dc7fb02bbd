use Rattle.std.proofs.Common.{◌-◌, [], length}
use Rattle.rg_build.specs.Inner.Laid.{Lays}
use Rattle.rg_build.proofs.laying.Laying.skip.Given as goal

abbrev pub invariant-loop-self : goal.invariant-loop-self
invariant-loop-self l = Lays l.fn.self l.self []

abbrev pub decreases-loop-self : goal.decreases-loop-self
decreases-loop-self l = length l.self.module.code.ops - l.self.at
