use Rattle.std.proofs.Common.{drop}
use Rattle.rg_lower.specs.Inner.Slots.{variable_of}
use Rattle.rg_lower.proofs.Slot.{SearchedTo}
use Rattle.rg_lower.proofs.slots.found_in.Given as goal

abbrev pub invariant-loop-one : goal.invariant-loop-one
invariant-loop-one l = SearchedTo l.book.program (variable_of l.book.program l.name) l.held (drop l.one-index l.held) l.one-index l.slot
