use Rattle.std.proofs.Common.{◌≡◌, map, take}
use Rattle.rg_module.specs.Follows.{start}
use Rattle.rg_module.proofs.follows.starts.Given as goal

abbrev pub invariant-loop-ty : goal.invariant-loop-ty
invariant-loop-ty l = l.words.items ≡ map start (take l.ty-index l.types)
