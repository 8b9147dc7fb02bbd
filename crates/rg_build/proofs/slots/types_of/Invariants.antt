use Rattle.std.proofs.Common.{◌≡◌, ◌++◌, drop}
use Rattle.rg_build.specs.Inner.Slots.{types_held}
use Rattle.rg_build.proofs.slots.types_of.Given as goal

abbrev pub invariant-loop-one : goal.invariant-loop-one
invariant-loop-one l = l.types ++ types_held (drop l.one-index l.held) ≡ types_held l.held
