-- The programs that pass no limit of a source, by their tree (docs/language.md, "Limits"). Two limits aren't said: that on the bytes of a source,
-- since a module isn't one, and that on the bytes of a name, since a program that is raised has numbers for names.
use Rattle.std.specs.Prelude.{◌≤◌}
use Rattle.rg_base.specs.declared.limits.TheConstants.{BRACKETS}
use Rattle.rg_tree.specs.Tree.{Tree}
use Rattle.rg_rules.specs.Names.{FewNames}
use Rattle.rg_limits.specs.Parts.{HasFewParts}
use Rattle.rg_limits.specs.Signs.{HasFewSigns}
use Rattle.rg_limits.specs.Numbers.{HasSmallNumbers}
use Rattle.rg_limits.specs.Opens.{tree_opens}

-- A program has no more classes, fields, methods, parameters, names and signs than it may, no number that no source can write, and no more brackets
-- in one another. The brackets of a source are counted in its text, and these in the tree: it is the same, since the canonical text of a program
-- opens as many together as its tree says, where names have none (the law `OpensAreBrackets`), and that text is the source with the fewest
-- parentheses. Whoever walks a tree is in as many brackets as stand round the place, so the limit is one on how deep walks go, too.
pub record IsWithinLimits (t : Tree) : Type 0 where
  pub parts : HasFewParts t
  pub names : FewNames t
  pub signs : HasFewSigns t
  pub numbers : HasSmallNumbers t
  pub brackets : tree_opens t ≤ BRACKETS
