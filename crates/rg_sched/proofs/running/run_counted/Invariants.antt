use Rattle.std.proofs.Common.{◌≡◌, ◌≤◌, ◌-◌}
use Rattle.rg_input.specs.Numbers.{Follows}
use Rattle.rg_world.specs.Worlds.{SameTuned, both}
use Rattle.rg_tree.specs.Rows.RowTrees.{program_of}
use Rattle.rg_sched.specs.declared.limits.TheConstants.{SCHEDULE}
use Rattle.rg_sched.proofs.Numbered.{SoFar}
use Rattle.rg_sched.proofs.running.run_counted.Given as goal

abbrev pub invariant-loop-taken : goal.invariant-loop-taken
invariant-loop-taken g l = record {
  so_far : SoFar (program_of l.accepted.program) l.code l.plan l.fn.images.items l.fn.schedule l.schedule (g.S.Source.left l.fn.source)
      (g.S.Source.left l.source) l.taken l.world
      (both ((goal.Pacer-dyn g l.fn.count.now).tally l.fn.count.now.1) ((goal.Pacer-dyn g l.fn.trace.now).tally l.fn.trace.now.1))
      (both ((goal.Pacer-dyn g l.count.now).tally l.count.now.1) ((goal.Pacer-dyn g l.trace.now).tally l.trace.now.1));
  follows : Follows l.schedule (g.S.Source.left l.source);
  quiet : g.S.Source.faults l.source ≡ g.S.Source.faults l.fn.source;
  never_falls : g.S.Source.faults l.fn.source ≤ g.S.Source.faults l.source;
  tuned : SameTuned
      (both ((goal.Pacer-dyn g l.fn.count.now).tally l.fn.count.now.1) ((goal.Pacer-dyn g l.fn.trace.now).tally l.fn.trace.now.1))
      (both ((goal.Pacer-dyn g l.count.now).tally l.count.now.1) ((goal.Pacer-dyn g l.trace.now).tally l.trace.now.1));
}

abbrev pub decreases-loop-taken : goal.decreases-loop-taken
decreases-loop-taken g l = SCHEDULE - l.taken
