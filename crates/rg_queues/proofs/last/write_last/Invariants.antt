use Rattle.std.proofs.Common.{◌≡◌, drop, length}
use Rattle.rg_queues.specs.Inner.Written.{written}
use Rattle.rg_queues.proofs.last.write_last.Given as goal

abbrev pub invariant-loop-n : goal.invariant-loop-n
invariant-loop-n l = record {
  written_are : written (drop l.n-index l.cowns) l.number l.last.items ≡ written l.cowns l.number l.fn.last.items;
  many : length l.last.items ≡ length l.fn.last.items;
}
