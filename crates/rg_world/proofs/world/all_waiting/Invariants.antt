use Rattle.std.proofs.Common.{◌≡◌, ◌≤◌, ◌-◌, length, replicate}
use Rattle.rg_world.specs.Inner.Steps.{waiting}
use Rattle.rg_world.proofs.world.all_waiting.Given as goal

abbrev pub invariant-loop-alloc : goal.invariant-loop-alloc
invariant-loop-alloc l = record {
  are : l.all.items ≡ replicate (length l.all.items) waiting;
  within : length l.all.items ≤ l.many;
}

abbrev pub decreases-loop-alloc : goal.decreases-loop-alloc
decreases-loop-alloc l = l.many - length l.all.items
