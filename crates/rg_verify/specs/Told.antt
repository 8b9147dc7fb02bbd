-- What the programs that raise a module have to do with the one that it tells (docs/architecture.md, "Modules").
use Rattle.std.specs.Prelude.{◌≡◌, Option, Some}
use Rattle.rg_tree.specs.Tree.{Tree}
use Rattle.rg_module.specs.Parts.{Parts}
use Rattle.rg_lines.specs.Unlined.{SameButLines}
use Rattle.rg_raised.specs.Raises.{Raises}
use Rattle.rg_raised.specs.Told.{program_told}

-- a module tells a program that is this one, but for lines that no mark has
pub record TellsAlike (told : Option Tree) (t : Tree) : Type 0 where
  pub program : Tree
  pub is_told : told ≡ Some program
  pub alike : SameButLines program t

-- each program that raises a module is told by it so
abbrev pub TellsRaised : (Parts → Option Tree) → Type 0
TellsRaised told = (m : Parts) (t : Tree) → Raises m t → TellsAlike (told m) t

-- programs that raise one module are the same but for lines that no mark has
abbrev pub RaisedAlike : Type 0
RaisedAlike = (m : Parts) (t u : Tree) → Raises m t → Raises m u → SameButLines t u

-- the program that a module tells is there, and raises it
pub record ToldRaises (m : Parts) : Type 0 where
  pub program : Tree
  pub is_told : program_told m ≡ Some program
  pub raises : Raises m program

-- where some program raises a module, the one that it tells does
abbrev pub ToldRaisesIfAny : Type 0
ToldRaisesIfAny = (m : Parts) (t : Tree) → Raises m t → ToldRaises m
