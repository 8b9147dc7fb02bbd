use Rattle.std.proofs.Common.{drop}
use Rattle.rg_lower.proofs.BodySteps.{ParamsUpTo}
use Rattle.rg_lower.proofs.bodies.push_params.Given as goal

abbrev pub invariant-loop-param : goal.invariant-loop-param
invariant-loop-param l = ParamsUpTo l.book.program l.fn.slots l.params l.slots (drop l.param-index l.params)
