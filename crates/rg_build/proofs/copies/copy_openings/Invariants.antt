use Rattle.std.proofs.Common.{◌≡◌, ◌++◌, take}
use Rattle.rg_build.proofs.copies.copy_openings.Given as goal

abbrev pub invariant-loop-class : goal.invariant-loop-class
invariant-loop-class l = l.copy ≡ record l.fn.copy { openings = l.fn.copy.openings ++ take l.class l.code.openings }
