-- The laws that what a source spells passes no limit of a source (docs/language.md, "Limits"), and why its brackets don't.
use Rattle.std.specs.Prelude.{◌≡◌, ℕ, ◌≤◌, List, Ok}
use Rattle.rg_base.specs.declared.limits.TheConstants.{BRACKETS}
use Rattle.rg_base.specs.declared.token.Token.{Token}
use Rattle.rg_base.specs.Tokens.{cut}
use Rattle.rg_tree.specs.Tree.{Tree}
use Rattle.rg_tree.specs.Grammar.{Spells}
use Rattle.rg_limits.specs.Limits.{IsWithinLimits}
use Rattle.rg_limits.specs.Bare.{IsBareTree}
use Rattle.rg_limits.specs.Opens.{tree_opens}

-- what a source spells is within the limits
abbrev pub SpeltIsWithinLimits : Type 0
SpeltIsWithinLimits = (source : List ℕ) (t : Tree) (tokens : List Token) → cut source ≡ Ok tokens → Spells source t tokens → IsWithinLimits t

-- No name that it has has a bracket, and its parts need no more brackets than may be open: canonical text has the fewest parentheses.
abbrev pub SpeltOpensFew : Type 0
SpeltOpensFew = (source : List ℕ) (t : Tree) (tokens : List Token) → cut source ≡ Ok tokens → Spells source t tokens
    → IsBareTree t × (tree_opens t ≤ BRACKETS)
