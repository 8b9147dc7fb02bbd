use Rattle.std.proofs.Common.{◌≡◌, ◌++◌, map, take}
use Rattle.rg_module.specs.Follows.{opening}
use Rattle.rg_module.proofs.follows.add_openings.Given as goal

abbrev pub invariant-loop-shape : goal.invariant-loop-shape
invariant-loop-shape l = l.code ≡ record l.fn.code { openings = l.fn.code.openings ++ map opening (take l.shape-index l.shapes) }
