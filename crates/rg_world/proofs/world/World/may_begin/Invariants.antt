use Rattle.std.proofs.Common.{◌≡◌, drop, slice_get}
use Rattle.std.specs.List.{list_all}
use Rattle.rg_world.specs.Inner.Steps.{ended_in}
use Rattle.rg_world.proofs.world.World.may_begin.Given as goal

abbrev pub invariant-loop-k : goal.invariant-loop-k
invariant-loop-k l =
    list_all (λ k. ended_in (slice_get l.self.progress k)) (drop l.k-index l.front) ≡ list_all (λ k. ended_in (slice_get l.self.progress k)) l.front
