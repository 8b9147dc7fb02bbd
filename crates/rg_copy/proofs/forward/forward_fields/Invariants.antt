use Rattle.std.proofs.Common.{◌≡◌, ◌+◌}
use Rattle.rg_copy.specs.Inner.Moves.{ForwardsFirst}
use Rattle.rg_copy.proofs.forward.forward_fields.Given as goal

abbrev pub invariant-loop-k : goal.invariant-loop-k
invariant-loop-k g l =
    ForwardsFirst l.region l.slot l.k l.initial.cells l.cells × (l.steps ≡ l.initial.steps + l.k)
