-- Laws of programs that are the same but for the lines that no mark has (docs/architecture.md, "Modules"): the one has the other's text, first
-- fault up to its line, runs, and asks, and few names where the other has.
use Rattle.std.specs.Prelude.{◌≡◌, ℕ, List, Option, option_map}
use Rattle.rg_base.specs.declared.fault.Code.{Code}
use Rattle.rg_base.specs.declared.fault.Fault.{Fault}
use Rattle.rg_base.specs.declared.words.Manager.{Manager}
use Rattle.rg_tree.specs.Tree.{Tree}
use Rattle.rg_tree.specs.Canonical.{canon}
use Rattle.rg_tree.specs.Lineless.{lineless}
use Rattle.rg_rules.specs.Names.{FewNames}
use Rattle.rg_rules.specs.Acceptance.{first_fault, Accepted}
use Rattle.rg_rules.specs.Runs.{plain}
use Rattle.rg_rules.specs.Outside.Asks.{asks}
use Rattle.rg_lines.specs.Unlined.{SameButLines}

-- they are the same up to all lines
abbrev pub SameUpToLines : Type 0
SameUpToLines = (t u : Tree) → SameButLines t u → lineless t ≡ lineless u

-- they have the same canonical text
abbrev pub SameText : Type 0
SameText = (t u : Tree) → SameButLines t u → canon t ≡ canon u

-- where no body of the one has more names than a body may have, none of the other has
abbrev pub SameNames : Type 0
SameNames = (t u : Tree) → SameButLines t u → FewNames t → FewNames u

-- the code of the first fault of a program, which has no line
abbrev pub fault_code : Tree → Option Code
fault_code t = option_map (λ (f : Fault). f.code) (first_fault t)

-- they have the same first fault, up to its line
abbrev pub SameFault : Type 0
SameFault = (t u : Tree) → SameButLines t u → fault_code t ≡ fault_code u

-- where the one is accepted, so is the other
abbrev pub SameAcceptance : Type 0
SameAcceptance = (t u : Tree) → SameButLines t u → Accepted t → Accepted u

-- on each input they have the same run, with the lines at which it traps
abbrev pub SameRuns : Type 0
SameRuns = (t u : Tree) → SameButLines t u → (input : List ℕ) (n : ℕ) → plain t input n ≡ plain u input n

-- and ask the pacers at the same steps
abbrev pub SameAsks : Type 0
SameAsks = (t u : Tree) → SameButLines t u → (input : List ℕ) (n : ℕ) (m : Manager) → asks t input n m ≡ asks u input n m
