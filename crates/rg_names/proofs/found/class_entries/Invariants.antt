use Rattle.rg_tree.specs.Rows.Tables.{numbers_in}
use Rattle.rg_names.proofs.EntrySteps.{EntriesUpTo}
use Rattle.rg_names.proofs.found.class_entries.Given as goal

abbrev pub invariant-loop-k : goal.invariant-loop-k
invariant-loop-k l =
    EntriesUpTo l.program l.class (numbers_in l.program l.class.members) l.methods l.k-index l.found.entries l.found.fields l.found.methods
