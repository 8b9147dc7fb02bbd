use Rattle.std.proofs.Common.{◌≡◌, ◌++◌, map, drop}
use Rattle.rg_code.specs.Listing.{lines}
use Rattle.rg_code.specs.Inner.Headings.{shown}
use Rattle.rg_code.proofs.whole.write_lines.Given as goal

-- the lines so far with those of the instructions that are left are all lines
abbrev pub invariant-loop-at : goal.invariant-loop-at
invariant-loop-at l =
    l.out ++ lines (map shown (drop l.next l.all)) l.at (drop l.at l.code.ops) ≡ l.fn.out ++ lines (map shown l.fn.all) 0 l.code.ops
