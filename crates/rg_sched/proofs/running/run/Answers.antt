use Rattle.std.proofs.Common.{◌≡◌, ◌∙◌, Ok, Err, sym, ap}
use Rattle.rg_sched.specs.declared.stop.SchedStop.TheVariants as stop
use Rattle.rg_tree.specs.Rows.RowTrees.{program_of}
use Rattle.rg_sched.proofs.Numbered.{uncounted, stopped}
use Rattle.rg_sched.proofs.running.run.Goals as goal

pub returns-in-Ok-clause-run : goal.returns-in-Ok-clause-run
returns-in-Ok-clause-run g c = uncounted _ _ _ _ c.run_counted-ran.result _ c.in-Ok.is c.run_counted-ran.ensures.run

pub returns-in-Err-clause-run : goal.returns-in-Err-clause-run
returns-in-Err-clause-run g c =
    stopped (program_of c.args.accepted.now.program) c.args.code.now c.args.plan.now c.args.images.items _ _ _ _
    c.run_counted-ran.result _ _ _ c.in-Err.is c.run_counted-ran.ensures.run

pub returns-in-Ok-clause-quiet : goal.returns-in-Ok-clause-quiet
returns-in-Ok-clause-quiet g c other =
    c.run_counted-ran.ensures.quiet (λ e. let lie : Ok c.in-Ok.behind ≡ Err stop.InputFault = sym c.in-Ok.is ∙ e in cc)

pub returns-in-Err-clause-quiet : goal.returns-in-Err-clause-quiet
returns-in-Err-clause-quiet g c other =
    c.run_counted-ran.ensures.quiet (λ e. let same : c.in-Err.stop ≡ stop.InputFault = cc (sym c.in-Err.is ∙ e) in other (ap Err same))
