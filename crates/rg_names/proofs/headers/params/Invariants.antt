use Rattle.rg_names.proofs.ParamSteps.{ParamsUpTo}
use Rattle.rg_names.proofs.headers.params.Given as goal

abbrev pub invariant-loop-k : goal.invariant-loop-k
invariant-loop-k l = ParamsUpTo l.program l.line l.these l.k-index l.earlier
