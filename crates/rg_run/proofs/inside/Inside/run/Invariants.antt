-- Between two steps of a run: how far it has come, and what was written.
use Rattle.std.proofs.Common.{◌≡◌, ◌-◌, ◌≤◌, true}
use Rattle.rg_base.specs.declared.outcome.Ended.TheVariants as ended
use Rattle.rg_input.specs.Numbers.{Follows, OnInput}
use Rattle.rg_step.specs.Asking.{YesesTold}
use Rattle.rg_step.specs.Pacers.{SameTuned, both}
use Rattle.rg_run.specs.Inner.{IsLent}
use Rattle.rg_run.specs.Reports.{Reports}
use Rattle.rg_run.proofs.Turn.{Turns}
use Rattle.rg_run.proofs.inside.Inside.run.Given as goal

abbrev pub invariant-loop-self : goal.invariant-loop-self
invariant-loop-self g l = record {
  begun : l.self.begun ≡ true;
  slides : l.self.stepper.slides ≡ l.fn.self.stepper.slides;
  follows : Follows l.input (g.I.Source.left l.source);
  within : l.self.steps ≤ l.n;
  source_never_falls : g.I.Source.faults l.fn.source ≤ g.I.Source.faults l.source;
  source_quiet : g.I.Source.faults l.source ≡ g.I.Source.faults l.fn.source;
  sink_never_falls : g.O.Sink.faults l.fn.sinks.out.now ≤ g.O.Sink.faults l.sinks.out.now;
  lent : IsLent l.fn.sinks l.sinks;
  notes_never_fall : g.R.Sink.faults l.fn.sinks.notes.now ≤ g.R.Sink.faults l.sinks.notes.now;
  tuned : SameTuned
      (both ((goal.Pacer-dyn g l.fn.count.now).tally l.fn.count.now.1) ((goal.Pacer-dyn g l.fn.trace.now).tally l.fn.trace.now.1))
      (both ((goal.Pacer-dyn g l.count.now).tally l.count.now.1) ((goal.Pacer-dyn g l.trace.now).tally l.trace.now.1));
  reports : Reports l.task.report ended.Spent l.self.stepper.events (g.R.Sink.taken l.fn.sinks.notes.now) (g.R.Sink.taken l.sinks.notes.now);
  yeses : YesesTold l.self.stepper.events
      (both ((goal.Pacer-dyn g l.fn.count.now).tally l.fn.count.now.1) ((goal.Pacer-dyn g l.fn.trace.now).tally l.fn.trace.now.1))
      (both ((goal.Pacer-dyn g l.count.now).tally l.count.now.1) ((goal.Pacer-dyn g l.trace.now).tally l.trace.now.1));
  turns : OnInput l.fn.input l.input (g.I.Source.left l.fn.source) (g.I.Source.left l.source)
      (Turns l.task.accepted.now.program l.task.code.now l.self.steps l.self.stepper (g.O.Sink.taken l.fn.sinks.out.now) (g.O.Sink.taken l.sinks.out.now)
      ((l.input ≡ l.fn.input) × (l.source ≡ l.fn.source))
      (both ((goal.Pacer-dyn g l.fn.count.now).tally l.fn.count.now.1) ((goal.Pacer-dyn g l.fn.trace.now).tally l.fn.trace.now.1))
      (both ((goal.Pacer-dyn g l.count.now).tally l.count.now.1) ((goal.Pacer-dyn g l.trace.now).tally l.trace.now.1)));
}

abbrev pub decreases-loop-self : goal.decreases-loop-self
decreases-loop-self g l = l.n - l.self.steps
