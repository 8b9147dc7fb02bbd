-- Words for examples of runs: texts that are accepted, and what is looked at in a run.
use Rattle.std.proofs.Common.{ℕ, List, [], length, None}
use Prim.Native.String.{String}
use Rattle.rg_base.specs.declared.value.Val.{Val}
use Rattle.rg_tree.specs.Tree.{Tree}
use Rattle.rg_rules.specs.Runs.{Ending, Ran, plain}
use Rattle.rg_rules.specs.Owners.{live}
use Rattle.rg_rules.specs.Reach.{plain_reach}
use Rattle.rg_rules.proofs.Sources.{Example}

-- a text that is accepted, and its tree: the text is the canonical one of the tree, on one line
abbrev pub Source : (text : List String) → Tree → Type 0
Source text t = Example text None t

-- what is looked at in a run: the printed values, how it stands, the number of steps, and the number of objects made
abbrev pub Shown : Type 0
Shown = List Val × Ending × ℕ × ℕ

-- the same of a run
abbrev pub shown : Ran → Shown
shown r = (r.state.output, r.ending, r.steps, length r.state.store)

-- the addresses that the roots of the active region reach after so many steps without input
abbrev pub kept : Tree → (n : ℕ) → List ℕ
kept t n = plain_reach (plain t [] n).state

-- the live regions after so many steps without input
abbrev pub alive : Tree → (n : ℕ) → List ℕ
alive t n = live t.classes (plain t [] n).state
