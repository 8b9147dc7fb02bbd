-- What `pack` writes of a program does to `exec` what the program does to `run` (docs/promises.md, "The headline").
use Rattle.std.specs.Prelude.{◌≡◌, ℕ, ◌≤◌, Bool, List, length}
use Rattle.rg_base.specs.declared.outcome.EndNumbers.{EndNumbers}
use Rattle.rg_tree.specs.Tree.{Tree}
use Rattle.rg_words.specs.declared.limits.TheConstants.{MODULE_BYTES}
use Rattle.rg_words.specs.Commands.{run, exec}
use Rattle.rg_sources.specs.Sources.{Meaning, spelt, HasProgram, MeansModule}
use Rattle.rg_commands.specs.Expected.{packed_text, expected}

-- To `exec`, these bytes mean programs alone, and one at least. Of each it answers what `run` answers of this program.
pub record RunsAs (bytes : List ℕ) (t : Tree) : Type 0 where
  pub some : (u : Tree) × MeansModule bytes (spelt u)
  pub alone : (m : Meaning) → MeansModule bytes m → (u : Tree) × (m ≡ spelt u)
  pub answers : (m : Meaning) → MeansModule bytes m → (packed file : List ℕ) (n every : ℕ) (slides report : Bool) (p : EndNumbers) (input : List ℕ) →
      expected (exec packed n every report) p input m ≡ expected (run slides file n every report) p input (spelt t)

-- So it is of what `pack` writes of each accepted program that a source spells, where that is no longer than a module may be.
abbrev pub PackedRunsAs : Type 0
PackedRunsAs = (source : List ℕ) (t : Tree) → HasProgram source t → length (packed_text t) ≤ MODULE_BYTES → RunsAs (packed_text t) t
