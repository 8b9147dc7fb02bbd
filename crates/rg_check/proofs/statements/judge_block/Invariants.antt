use Rattle.std.proofs.Common.{length}
use Rattle.rg_check.proofs.BlockSteps.{BlockUpTo}
use Rattle.rg_check.proofs.statements.judge_block.Given as goal

abbrev pub invariant-loop-rest : goal.invariant-loop-rest
invariant-loop-rest l = BlockUpTo l.program l.result_type l.fn.env l.these l.env l.rest

abbrev pub decreases-loop-rest : goal.decreases-loop-rest
decreases-loop-rest l = length l.rest
