-- What a source spells passes no limit.
use Rattle.std.proofs.Common.{◌≡◌, ℕ, ◌≤◌, List, Ok, arith}
use Rattle.rg_base.specs.declared.limits.TheConstants.{BRACKETS}
use Rattle.rg_base.specs.declared.token.Token.{Token}
use Rattle.rg_base.specs.Tokens.{cut}
use Rattle.rg_tree.specs.Tree.{Tree}
use Rattle.rg_tree.specs.Counts.{at_start}
use Rattle.rg_tree.specs.Grammar.{Spells}
use Rattle.rg_check.specs.Laws.{SpeltHasFewNames}
use Rattle.rg_limits.specs.Limits.{IsWithinLimits}
use Rattle.rg_limits.specs.Bare.{IsBareTree}
use Rattle.rg_limits.specs.Opens.{tree_opens}
use Rattle.rg_within.proofs.SpeltFew.{spelt-few}
use Rattle.rg_within.proofs.Tokens.{cut-fine}
use Rattle.rg_within.proofs.Pieces.{ProgramFits}
use Rattle.rg_within.proofs.Reading.{fitting}

fits : (source : List ℕ) (t : Tree) (tokens : List Token) → cut source ≡ Ok tokens → Spells source t tokens → ProgramFits at_start t
fits source t tokens h s = (fitting s.1 (cut-fine source tokens h)).0

pub spelt-bare : (source : List ℕ) (t : Tree) (tokens : List Token) → cut source ≡ Ok tokens → Spells source t tokens → IsBareTree t
spelt-bare source t tokens h s = (fits source t tokens h s).bare

pub spelt-opens : (source : List ℕ) (t : Tree) (tokens : List Token) → cut source ≡ Ok tokens → Spells source t tokens → tree_opens t ≤ BRACKETS
spelt-opens source t tokens h s = let room = (fits source t tokens h s).room in omega (arith, room)

pub within-limits : SpeltHasFewNames → (source : List ℕ) (t : Tree) (tokens : List Token) → cut source ≡ Ok tokens → Spells source t tokens
    → IsWithinLimits t
within-limits names source t tokens h s =
    let all = fits source t tokens h s in
    record {
      parts = spelt-few source t tokens s;
      names = names source t tokens s;
      signs = all.signs;
      numbers = all.small;
      brackets = spelt-opens source t tokens h s;
    }
