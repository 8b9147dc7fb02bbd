-- What always holds of the program that a module tells (docs/architecture.md, "Modules"): it has numbers for names, no more parts than it may,
-- and no deeper blocks, whatever the module is.
use Rattle.std.specs.Prelude.{◌≡◌, Some}
use Rattle.rg_base.specs.declared.limits.TheConstants.{BRACKETS}
use Rattle.rg_tree.specs.Tree.{Tree}
use Rattle.rg_limits.specs.Depth.{IsShallow}
use Rattle.rg_limits.specs.Parts.{HasFewParts}
use Rattle.rg_module.specs.Parts.{Parts}
use Rattle.rg_raised.specs.Raises.{IsNumbered}
use Rattle.rg_raised.specs.Told.{program_told}

-- it has numbers for names
abbrev pub ToldAreNumbered : Type 0
ToldAreNumbered = (m : Parts) (t : Tree) → program_told m ≡ Some t → IsNumbered t

-- a program has no more parts than it may, and its blocks are no deeper than brackets may be
pub record IsBounded (t : Tree) : Type 0 where
  pub parts : HasFewParts t
  pub depth : IsShallow BRACKETS t

abbrev pub ToldAreBounded : Type 0
ToldAreBounded = (m : Parts) (t : Tree) → program_told m ≡ Some t → IsBounded t
