use Rattle.std.proofs.Common.{◌≡◌, Some}
use Rattle.rg_regions.specs.Table.{Record, record_at}
use Rattle.rg_move.specs.Inner.Moves.{PushedFirst}
use Rattle.rg_move.proofs.merging.move_members.Given as goal

abbrev pub invariant-loop-place : goal.invariant-loop-place
invariant-loop-place l = (a b : Record) → record_at l.initial.regions l.from ≡ Some a
    → record_at l.initial.regions l.into ≡ Some b
    → PushedFirst l.initial.regions l.from l.into a b l.place l.regions
