-- Between two steps of a run: how far it has come, and what was written.
use Rattle.std.proofs.Common.{◌≡◌, ◌≢◌, ◌-◌, ◌≤◌, []}
use Rattle.rg_input.specs.Numbers.{Follows, OnInput}
use Rattle.rg_plain.specs.Machine.{Fits}
use Rattle.rg_plain.proofs.Runs.Machine.{RanOn, UnreadOn}
use Rattle.rg_plain.proofs.machine.PlainMachine.run_counting.Given as goal

abbrev pub invariant-loop-steps : goal.invariant-loop-steps
invariant-loop-steps g l = record {
  left : l.self.kept.items ≢ [];
  fits : Fits l.program l.self;
  follows : Follows l.input (g.S.Source.left l.source);
  within : l.steps ≤ l.n;
  source_never_falls : g.S.Source.faults l.fn.source ≤ g.S.Source.faults l.source;
  source_quiet : g.S.Source.faults l.source ≡ g.S.Source.faults l.fn.source;
  sink_never_falls : g.O.Sink.faults l.fn.out ≤ g.O.Sink.faults l.out;
  so_far : OnInput l.fn.input l.input (g.S.Source.left l.fn.source) (g.S.Source.left l.source)
      (RanOn l.program l.fn.self l.steps l.self (g.O.Sink.taken l.fn.out) (g.O.Sink.taken l.out));
  unread : OnInput l.fn.input l.input (g.S.Source.left l.fn.source) (g.S.Source.left l.source)
      (UnreadOn l.program l.fn.self l.steps l.self (g.O.Sink.taken l.fn.out) (g.O.Sink.taken l.out)
      ((l.input ≡ l.fn.input) × (l.source ≡ l.fn.source)));
}

abbrev pub decreases-loop-steps : goal.decreases-loop-steps
decreases-loop-steps g l = l.n - l.steps
