-- The programs that raise a module have no brackets but those of their form (docs/architecture.md, "Modules"), so as many are open together in
-- their canonical text as the limit on their trees says (`OpensAreBrackets` of rg_limits).
use Rattle.rg_tree.specs.Tree.{Tree}
use Rattle.rg_limits.specs.Bare.{IsBareTree}
use Rattle.rg_module.specs.Parts.{Parts}
use Rattle.rg_raised.specs.Raises.{Raises}

abbrev pub RaisedAreBare : Type 0
RaisedAreBare = (m : Parts) (t : Tree) → Raises m t → IsBareTree t
