use Rattle.std.proofs.Common.{◌≡◌, drop}
use Rattle.std.specs.List.{list_all}
use Rattle.rg_cown.specs.Cargo.{stays_frozen}
use Rattle.rg_image.proofs.frozen.all_stay_frozen.Given as goal

abbrev pub invariant-loop-k : goal.invariant-loop-k
invariant-loop-k l = list_all (stays_frozen l.cells) (drop l.k l.fields) ≡ list_all (stays_frozen l.cells) l.fields
