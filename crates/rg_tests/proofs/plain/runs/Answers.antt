use Rattle.rg_run.proofs.Run.{begun-some}
use Rattle.rg_tests.proofs.plain.runs.Goals as goal

pub run-ended-requires-clause-left : goal.run-ended-requires-clause-left
run-ended-requires-clause-left c = begun-some c.program-program.result.now c.begin.new.self c.in_ok-begin.ensures.begins
