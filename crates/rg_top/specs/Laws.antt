-- The law of the programs that a module's bytes mean (docs/promises.md, "The headline").
use Rattle.std.specs.Prelude.{ℕ, List}
use Rattle.rg_base.specs.declared.fault.Fault.{Fault}
use Rattle.rg_base.specs.declared.words.Manager.{Manager}
use Rattle.rg_tree.specs.Tree.{Tree}
use Rattle.rg_tree.specs.Rows.Tables.{Tables}
use Rattle.rg_tree.specs.Rows.RowTrees.{program_of}
use Rattle.rg_run.specs.Machine.{Kept}
use Rattle.rg_run.specs.Sound.{Stands}
use Rattle.rg_alike.specs.Standing.{RunStands}
use Rattle.rg_words.specs.Commands.{in_module}
use Rattle.rg_sources.specs.Sources.{Sources, Runs, MeansModule, faulty}
use Rattle.rg_commands.specs.Asked.{AsksOver}

-- where a run of one of two programs stands on a machine, and has asked the pacers, so does a run of the other
pub record RunsAlike (t : Tables) (u : Tree) : Type 0 where
  pub stands : (input : List ℕ) (n : ℕ) (m : Kept) → Stands t input n m → RunStands u input n m
  pub asks : (input : List ℕ) (n : ℕ) (m : Manager) (old new : ℕ) → AsksOver (program_of t) input n m old new → AsksOver u input n m old new

-- So it is of any two programs that raise the module of the same bytes, and such bytes have no fault.
pub record EachRuns : Type 0 where
  pub alike : (file : List ℕ) (source : Sources) (t : Tables) (u : Tree) → Runs (in_module file) source (program_of t) → Runs (in_module file) source u →
      RunsAlike t u
  pub no_fault : (file : List ℕ) (source : Sources) (f : Fault) (u : Tree) → MeansModule source.file (faulty f) → Runs (in_module file) source u → ⊥
