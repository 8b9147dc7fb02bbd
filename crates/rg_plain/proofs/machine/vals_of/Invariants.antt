use Rattle.std.proofs.Common.{◌≡◌, take}
use Rattle.rg_plain.proofs.machine.vals_of.Given as goal

abbrev pub invariant-loop-v : goal.invariant-loop-v
invariant-loop-v l = l.values ≡ take l.v-index l.fields
