use Rattle.rg_check.proofs.MethodSteps.{MembersUpTo}
use Rattle.rg_check.proofs.classes.judge_members.Given as goal

abbrev pub invariant-loop-k : goal.invariant-loop-k
invariant-loop-k l = MembersUpTo l.program l.class l.these l.k-index
