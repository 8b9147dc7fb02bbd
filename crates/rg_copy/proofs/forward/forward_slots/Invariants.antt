use Rattle.rg_copy.specs.Inner.Moves.{ForwardsSlots, moved_word, target}
use Rattle.rg_copy.proofs.forward.forward_slots.Given as goal

abbrev pub invariant-loop-k : goal.invariant-loop-k
invariant-loop-k l = ForwardsSlots (moved_word (target l.cells l.region)) l.k l.initial.frames l.frames
