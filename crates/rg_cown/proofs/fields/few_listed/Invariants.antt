use Rattle.std.proofs.Common.{◌≡◌}
use Rattle.rg_cown.specs.Inner.Room.{values_of}
use Rattle.rg_cown.proofs.fields.few_listed.Given as goal

abbrev pub invariant-loop-k : goal.invariant-loop-k
invariant-loop-k l = l.values.items ≡ values_of l.k l.kinds l.numbers
