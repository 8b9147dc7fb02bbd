-- The law by which what was parsed may be checked (docs/language.md, "Limits").
use Rattle.std.specs.Prelude.{ℕ, List}
use Rattle.rg_base.specs.declared.token.Token.{Token}
use Rattle.rg_tree.specs.Tree.{Tree}
use Rattle.rg_tree.specs.Grammar.{Spells}
use Rattle.rg_rules.specs.Names.{FewNames}

-- no body of a tree that some source spells has more names than a body may have
abbrev pub SpeltHasFewNames : Type 0
SpeltHasFewNames = (source : List ℕ) (r : Tree) (ts : List Token) → Spells source r ts → FewNames r
