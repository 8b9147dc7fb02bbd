-- A line is told, or ends the run.
use Rattle.std.proofs.Common.{refl}
use Rattle.std.proofs.lemmas.Option.{slice_get_read}
use Rattle.rg_run.proofs.Report.{told-one, told-cut}
use Rattle.rg_run.proofs.telling.tell.Goals as goal

pub returns-in-Ok-clause-reports : goal.returns-in-Ok-clause-reports
returns-in-Ok-clause-reports g c first h =
    told-one c.args.events.now c.args.told c.in-Some.event.now (slice_get_read c.args.events.now _ c.args.told c.in-Some.event.now refl
    c.in-Some.ensures.lookup.3.0 c.in-Some.ensures.lookup.1) c.requires.few first _ _ c.args.task.now.report
    c.if-not-task.false h c.in-Ok.ensures.told

pub returns-in-Err-clause-reports : goal.returns-in-Err-clause-reports
returns-in-Err-clause-reports g c first h =
    told-cut c.args.events.now c.args.told c.in-Some.event.now (slice_get_read c.args.events.now _ c.args.told c.in-Some.event.now refl
    c.in-Some.ensures.lookup.3.0 c.in-Some.ensures.lookup.1) c.requires.few first _ _ c.args.task.now.report
    c.if-not-task.false c.in-Err.ended h c.in-Err.ensures.cut
