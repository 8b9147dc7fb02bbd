use Rattle.std.proofs.Common.{◌≡◌, ◌++◌, take, All}
use Rattle.rg_spell.specs.Spelling.{FitsOp}
use Rattle.rg_build.proofs.copies.copy_ops.Given as goal

abbrev pub invariant-loop-at : goal.invariant-loop-at
invariant-loop-at l = (l.copy ≡ record l.fn.copy { ops = l.fn.copy.ops ++ take l.at l.code.ops }) × All FitsOp (take l.at l.code.ops)
