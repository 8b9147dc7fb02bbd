use Rattle.std.proofs.Common.{length}
use Rattle.rg_type.proofs.RightSteps.{ArgsUpTo}
use Rattle.rg_type.proofs.rights.arguments.Given as goal

abbrev pub invariant-loop-param : goal.invariant-loop-param
invariant-loop-param l = ArgsUpTo l.book.program l.fn.env l.params l.args (length l.yielded) l.env
