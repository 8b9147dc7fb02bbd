use Rattle.std.proofs.Common.{◌≡◌, drop}
use Rattle.rg_image.specs.Inner.Entries.{are_right}
use Rattle.rg_image.proofs.entries.are_right.Given as goal

abbrev pub invariant-loop-region : goal.invariant-loop-region
invariant-loop-region l = are_right l.region (drop l.region l.counts) ≡ are_right 0 l.counts
