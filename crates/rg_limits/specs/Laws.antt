-- The laws of programs that pass no limit (docs/language.md, "Limits").
use Rattle.std.specs.Prelude.{◌≡◌, ℕ, ◌≤◌}
use Rattle.rg_base.specs.declared.limits.TheConstants.{BRACKETS}
use Rattle.rg_tree.specs.Tree.{Tree}
use Rattle.rg_tree.specs.Canonical.{canon}
use Rattle.rg_lines.specs.Unlined.{SameButLines}
use Rattle.rg_limits.specs.Parts.{HasFewParts}
use Rattle.rg_limits.specs.Depth.{IsShallow}
use Rattle.rg_limits.specs.Brackets.{most_open}
use Rattle.rg_limits.specs.Opens.{tree_opens}
use Rattle.rg_limits.specs.Bare.{IsBareTree}
use Rattle.rg_limits.specs.Limits.{IsWithinLimits}

-- such a program has few parts, and its blocks are no deeper than brackets may be
abbrev pub LimitsBound : Type 0
LimitsBound = (t : Tree) → IsWithinLimits t → HasFewParts t × IsShallow BRACKETS t

-- The brackets that are open together in the canonical text of a program are those that its tree says, where names have none.
abbrev pub OpensAreBrackets : Type 0
OpensAreBrackets = (t : Tree) → IsBareTree t → most_open (canon t) ≡ tree_opens t

-- blocks are no deeper than these
abbrev pub OpensBoundBlocks : Type 0
OpensBoundBlocks = (t : Tree) (most : ℕ) → tree_opens t ≤ most → IsShallow most t

-- one that is the same but for lines that no mark has is such a program, too
abbrev pub LimitsAreLineless : Type 0
LimitsAreLineless = (t u : Tree) → SameButLines t u → IsWithinLimits t → IsWithinLimits u
