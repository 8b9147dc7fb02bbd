use Rattle.std.proofs.Common.{◌≤◌, length}
use Rattle.rg_parse.proofs.ClassRows.{AlongParams}
use Rattle.rg_parse.proofs.rules.classes.some_params.Given as goal

abbrev pub invariant-loop-reader : goal.invariant-loop-reader
invariant-loop-reader l = record { read : AlongParams l.fn.reader l.numbers.items l.reader; shorter : length l.reader.rest ≤ length l.fn.reader.rest }

abbrev pub decreases-loop-reader : goal.decreases-loop-reader
decreases-loop-reader l = length l.reader.rest
