use Rattle.rg_check.proofs.ParamSteps.{ParamsUpTo}
use Rattle.rg_check.proofs.method.with_params.Given as goal

abbrev pub invariant-loop-k : goal.invariant-loop-k
invariant-loop-k l = ParamsUpTo l.program l.fn.env l.these l.k-index l.env
