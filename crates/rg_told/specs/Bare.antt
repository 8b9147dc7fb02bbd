-- The program that a module tells has its own brackets alone in its text, if no number of it is one that no source can write (docs/architecture.md,
-- "Modules"): each name is a letter and digits, and an array class has no members.
use Rattle.std.specs.Prelude.{◌≡◌, Some}
use Rattle.rg_tree.specs.Tree.{Tree}
use Rattle.rg_limits.specs.Bare.{IsBareTree}
use Rattle.rg_limits.specs.Numbers.{HasSmallNumbers}
use Rattle.rg_module.specs.Parts.{Parts}
use Rattle.rg_raised.specs.Told.{program_told}

abbrev pub ToldAreBare : Type 0
ToldAreBare = (m : Parts) (t : Tree) → program_told m ≡ Some t → HasSmallNumbers t → IsBareTree t
