use Rattle.std.proofs.Common.{◌≤◌, length}
use Rattle.rg_reader.proofs.PathRows.{AlongFields}
use Rattle.rg_reader.proofs.reader.Reader.fields.Given as goal

abbrev pub invariant-loop-self : goal.invariant-loop-self
invariant-loop-self l = record { read : AlongFields l.fn.self l.names.items l.self; shorter : length l.self.rest ≤ length l.fn.self.rest }

abbrev pub decreases-loop-self : goal.decreases-loop-self
decreases-loop-self l = length l.self.rest
