-- What a call of the machine has answered, written and left (docs/language.md, "Steps").
use Rattle.std.specs.Prelude.{◌≡◌, ◌≢◌, ◌⊎◌, ◌≤◌, ℕ, true, List, Option}
use Rattle.rg_base.specs.declared.outcome.Ended.{Ended}
use Rattle.rg_base.specs.declared.outcome.Ended.TheVariants as ended
use Rattle.rg_io.specs.Content.{Rose}
use Rattle.rg_tree.specs.Rows.Tables.{Tables}
use Rattle.rg_tree.specs.Rows.RowTrees.{program_of}
use Rattle.rg_rules.specs.Runs.{opening}
use Rattle.rg_plain.specs.Runs.{RunShows}
use Rattle.rg_run.specs.Machine.{Kept, IsFresh, ShowsAt}
use Rattle.rg_run.specs.Sound.{IsSound, NeverAsks}

-- no memory was found to begin the run: nothing was written or read
pub record NotBegun (m : Kept) (old new : Option (List ℕ)) (result : Ended) (still : Type 0) : Type 0 where
  pub answer_is : result ≡ ended.Memory
  pub fresh : IsFresh m
  pub untouched : new ≡ old
  pub unread : still

-- A run of at most n steps of the program on these bytes of the input, of which some are left: its answer, its text and its
-- state, and what always holds of its states and steps. Where no step asks for the input, it is still as it was.
pub record Ran (t : Tables) (n : ℕ) (old new : Option (List ℕ)) (m : Kept) (result : Ended) (still : Type 0) (before after : List ℕ) : Type 0 where
  pub begun : m.begun ≡ true
  pub run : RunShows t (opening (program_of t) before) n m.steps (ShowsAt t m after) old new result
  pub sound : IsSound (program_of t) before n
  pub unread : NeverAsks (program_of t) before n → still

-- A run names a fault of the input where its count rose, and only there, and one of the output only where its own count or that of the notes rose; and no
-- count falls.
pub record Caused (result : Ended) (source_old source_new out_old out_new notes_old notes_new : ℕ) : Type 0 where
  pub input_fault : result ≡ ended.InputFault → Rose source_old source_new
  pub source_quiet : result ≢ ended.InputFault → source_new ≡ source_old
  pub output_fault : result ≡ ended.OutputFault → Rose out_old out_new ⊎ Rose notes_old notes_new
  pub source_never_falls : source_old ≤ source_new
  pub sink_never_falls : out_old ≤ out_new
  pub notes_never_fall : notes_old ≤ notes_new

-- what a call is told of the input before and after it
abbrev pub RunsOn : Tables → (n : ℕ) → (old new : Option (List ℕ)) → Kept → Ended → (still : Type 0) → (before after : List ℕ) → Type 0
RunsOn t n old new m result still before after = NotBegun m old new result still ⊎ Ran t n old new m result still before after
