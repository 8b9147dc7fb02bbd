-- The laws of what `pack` writes of a program (docs/architecture.md, "Modules"): bytes that spell its module, which some program raises; and what
-- raises it has the program's runs, as far as a run tells.
use Rattle.std.specs.Prelude.{◌≡◌, ℕ, ◌≤◌, ◌<◌, ◌^◌, List, length, Ok}
use Rattle.rg_base.specs.declared.limits.TheConstants.{SOURCE_BYTES}
use Rattle.rg_base.specs.declared.token.Token.{Token}
use Rattle.rg_base.specs.Tokens.{cut}
use Rattle.rg_tree.specs.Tree.{Tree}
use Rattle.rg_tree.specs.Grammar as source
use Rattle.rg_rules.specs.Acceptance.{Accepted}
use Rattle.rg_rules.specs.Runs.{plain}
use Rattle.rg_module.specs.Spelling.{Spells, spelling}
use Rattle.rg_build.specs.ModuleOf.{module_of}
use Rattle.rg_raised.specs.Raises.{Raises}
use Rattle.rg_packed.specs.Told.{TellsTheSame}

-- an accepted program that a source spells
pub record IsOfSource (bytes : List ℕ) (t : Tree) : Type 0 where
  pub size : length bytes ≤ SOURCE_BYTES
  pub tokens : List Token
  pub cuts : cut bytes ≡ Ok tokens
  pub spells : source.Spells bytes t tokens
  pub accepted : Accepted t

-- The bytes of its module spell it, where they are so few that they may be counted in 32 bits.
abbrev pub PackedSpellsModule : Type 0
PackedSpellsModule = (bytes : List ℕ) (t : Tree) → IsOfSource bytes t → length (spelling (module_of t)) < 2 ^ 32 →
    Spells (spelling (module_of t)) (module_of t)

-- some program raises it
abbrev pub PackedIsRaised : Type 0
PackedIsRaised = (bytes : List ℕ) (t : Tree) → IsOfSource bytes t → (u : Tree) × Raises (module_of t) u

-- accepted programs of one module have the same runs on each input, as far as a run tells
abbrev pub OneModuleOneRun : Type 0
OneModuleOneRun = (t u : Tree) → Accepted t → Accepted u → module_of u ≡ module_of t → (input : List ℕ) (n : ℕ) →
    TellsTheSame (plain u input n) (plain t input n)
