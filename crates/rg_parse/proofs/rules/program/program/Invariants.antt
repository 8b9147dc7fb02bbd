use Rattle.std.proofs.Common.{length}
use Rattle.rg_parse.proofs.ProgramRows.{AlongProgram}
use Rattle.rg_parse.proofs.rules.program.program.Given as goal

abbrev pub invariant-loop-reader : goal.invariant-loop-reader
invariant-loop-reader l = AlongProgram l.fn.reader l.reader

abbrev pub decreases-loop-reader : goal.decreases-loop-reader
decreases-loop-reader l = length l.reader.rest
