use Rattle.std.proofs.Common.{◌≡◌, ◌++◌, length, take, drop}
use Rattle.std.specs.List.{flat_map, AllByRecursion}
use Rattle.rg_spell.specs.Spelling.{eight}
use Rattle.rg_image.specs.ImageText.{manager_bytes, FitsManager}
use Rattle.rg_image.proofs.writing.write_managers.Given as goal

abbrev pub invariant-loop-manager : goal.invariant-loop-manager
invariant-loop-manager l = record {
  text : l.out ≡ l.fn.out ++ (eight (length l.managers) ++ flat_map manager_bytes (take l.manager-index l.managers));
  ranges : AllByRecursion FitsManager (drop l.manager-index l.managers) → AllByRecursion FitsManager l.managers;
}
