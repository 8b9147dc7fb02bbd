use Rattle.std.proofs.Common.{◌≤◌, length, option_map}
use Rattle.rg_tree.specs.Rows.Tables.{name_at}
use Rattle.rg_reader.proofs.PathRows.{AlongCall}
use Rattle.rg_reader.proofs.reader.Reader.call_rest.Given as goal

abbrev pub invariant-loop-names : goal.invariant-loop-names
invariant-loop-names l =
    record {
      read : AlongCall (option_map (name_at l.fn.self.tables) l.fn.base) (name_at l.fn.self.tables l.fn.first) l.fn.self
          l.names.items l.method l.self;
      shorter : length l.self.rest ≤ length l.fn.self.rest;
    }

abbrev pub decreases-loop-names : goal.decreases-loop-names
decreases-loop-names l = length l.self.rest
