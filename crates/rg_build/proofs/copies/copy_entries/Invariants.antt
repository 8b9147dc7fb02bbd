use Rattle.std.proofs.Common.{◌≡◌, ◌++◌, take}
use Rattle.rg_build.proofs.copies.copy_entries.Given as goal

abbrev pub invariant-loop-method : goal.invariant-loop-method
invariant-loop-method l = l.copy ≡ record l.fn.copy { entries = l.fn.copy.entries ++ take l.method l.code.entries }
