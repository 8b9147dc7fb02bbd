use Rattle.std.proofs.Common.{◌-◌, ◌≤◌, length, take}
use Rattle.rg_io.specs.Content.{Appends}
use Rattle.rg_io.proofs.sink.put_all.Given as goal

abbrev pub invariant-loop-at : goal.invariant-loop-at
invariant-loop-at g l = record {
  within : l.at ≤ length l.bytes;
  took : Appends (g.O.Sink.taken l.fn.out) (g.O.Sink.taken l.out) (take l.at l.bytes);
  never_falls : g.O.Sink.faults l.fn.out ≤ g.O.Sink.faults l.out;
}

abbrev pub decreases-loop-at : goal.decreases-loop-at
decreases-loop-at g l = length l.bytes - l.at
