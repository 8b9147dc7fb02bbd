-- Where nothing is given, and where the output failed before the collection was told.
use Rattle.std.proofs.Common.{refl}
use Rattle.rg_run.proofs.Report.{reports-part}
use Rattle.rg_run.proofs.giving.give.Goals as goal

pub returns-in-Err-clause-reports : goal.returns-in-Err-clause-reports
returns-in-Err-clause-reports g c first h =
    reports-part c.args.task.now.report c.args.events.now c.args.told first _ (rw c.in-Printed.is at c.requires.few) h

pub returns-then-is_quiet-clause-gives : goal.returns-then-is_quiet-clause-gives
returns-then-is_quiet-clause-gives g c =
    let quiet = c.is_quiet.ensures c.if-is_quiet.true in
    rw quiet.0 (refl, tt)

pub returns-then-is_quiet-clause-reports : goal.returns-then-is_quiet-clause-reports
returns-then-is_quiet-clause-reports g c first h =
    let quiet = c.is_quiet.ensures c.if-is_quiet.true in
    rw quiet.1 (rw quiet.1 at h)
