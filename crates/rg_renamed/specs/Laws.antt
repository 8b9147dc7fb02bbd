-- The laws of programs with numbers for names (docs/architecture.md, "Modules").
use Rattle.std.specs.Prelude.{◌≡◌}
use Rattle.rg_tree.specs.Tree.{Tree}
use Rattle.rg_rules.specs.Names.{FewNames}
use Rattle.rg_rules.specs.Acceptance.{Accepted}
use Rattle.rg_limits.specs.Parts.{HasFewParts}
use Rattle.rg_limits.specs.Limits.{IsWithinLimits}
use Rattle.rg_build.specs.ModuleOf.{module_of}
use Rattle.rg_raised.specs.Raises.{IsNumbered, Raises}
use Rattle.rg_renamed.specs.Renamed.{renamed}

-- an accepted program has numbers for names then
abbrev pub RenamedAreNumbered : Type 0
RenamedAreNumbered = (t : Tree) → Accepted t → IsNumbered (renamed t)

-- It is accepted, and its module is the same. It has no more parts and names than it may: so many numbers could be written that two had one name.
abbrev pub RenamedAreAccepted : Type 0
RenamedAreAccepted = (t : Tree) → Accepted t → HasFewParts t → FewNames t → Accepted (renamed t)

abbrev pub SameModule : Type 0
SameModule = (t : Tree) → Accepted t → HasFewParts t → FewNames t → module_of (renamed t) ≡ module_of t

-- It passes no limit where the program passes none.
abbrev pub RenamedAreWithinLimits : Type 0
RenamedAreWithinLimits = (t : Tree) → IsWithinLimits t → IsWithinLimits (renamed t)

-- so it raises the module of the program
abbrev pub ModulesAreRaised : Type 0
ModulesAreRaised = (t : Tree) → Accepted t → IsWithinLimits t → Raises (module_of t) (renamed t)
