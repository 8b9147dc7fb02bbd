-- What a call leaves that was refused or cut off (docs/promises.md).
use Rattle.std.specs.Prelude.{◌≡◌, ℕ, ◌+◌, ◌-◌, ◌<◌, ◌≤◌, true, List, [], ◌++◌, Option}
use Rattle.rg_base.specs.declared.limits.TheConstants.{MOST_STEPS}
use Rattle.rg_io.specs.Content.{Appends, AppendsPart, AppendsUpTo}
use Rattle.rg_tree.specs.Tree.{Tree}
use Rattle.rg_tree.specs.Rows.Tables.{Tables}
use Rattle.rg_tree.specs.Rows.RowTrees.{program_of}
use Rattle.rg_tree.specs.Canonical.{canon}
use Rattle.rg_rules.specs.Runs.{opening}
use Rattle.rg_rules.specs.Runs as rules
use Rattle.rg_rules.specs.Outside.Texts.{text_of, added}
use Rattle.rg_rules.specs.Outside.Inputs.{first_asks}
use Rattle.rg_run.specs.Machine.{Kept, IsFresh, numbers_of}
use Rattle.rg_run.specs.Sound.{IsSound, Stands, NeverAsks}
use Rattle.rg_words.specs.Commands.{Command, run, plain, fmt, check, code, pack, bulk, exec, when, in_file, generated, in_module}
use Rattle.rg_words.specs.Commands.{with_plan}
use Rattle.rg_cown.specs.Cargo.{CargoList}
use Rattle.rg_plan.specs.Plans.{PlanOf}
use Rattle.rg_sources.specs.Sources.{Sources, spelt, planned, MeansFrom, Runs}
use Rattle.rg_when.specs.Scheduled.{schedule_answer}
use Rattle.rg_commands.specs.Expected.{accepted_text, listed_text, packed_text, text_after, line_behind}

-- no run has begun, the output is untouched, and the input is still as it was
abbrev pub Untouched : Kept → (old new : Option (List ℕ)) → (still : Type 0) → Type 0
Untouched m old new still = IsFresh m × (new ≡ old) × still

-- A run of at most n steps stands on the machine behind a whole step k. The output has taken the text of the first k - 1 steps
-- and a prefix of `last`, which is what step k added.
pub record StandsAfter (t : Tables) (input : List ℕ) (n k : ℕ) (m : Kept) (last : List ℕ) (old new : Option (List ℕ)) : Type 0 where
  pub within : k ≤ n
  pub made : (rules.plain (program_of t) input k).steps ≡ k
  pub stands : Stands t input k m
  pub wrote : AppendsUpTo old new (text_of t (opening (program_of t) input) (k - 1)) last

-- what step k of `bulk` added: its line counts as added behind the last step
abbrev pub bulk_added : (size : ℕ) → Tables → (k : ℕ) → Kept → List ℕ
bulk_added size t k m = added t (opening (program_of t) []) k ++ line_behind size (numbers_of m) (rules.plain (program_of t) [] k).ending

-- What a call leaves that was cut off by the output or the notes, or for want of memory. A run stands at a whole step. Else no
-- run has begun, and the output has taken a prefix of the command's text. Where no step asks for the input, it is still as it was, but for `when`, which
-- reads its schedule there.
abbrev pub CutOffAt : Command → (source : Sources) (input : List ℕ) → Kept → (old new : Option (List ℕ)) → (still : Type 0) → Type 0
CutOffAt (run slides file n every report) source input m old new still =
    (t : Tables) × Runs (in_file file) source (program_of t)
    × StandsAfter t input n m.steps m (added t (opening (program_of t) input) m.steps) old new
    × (NeverAsks (program_of t) input n → still)
CutOffAt (plain file n) source input m old new still =
    (t : Tree) × Runs (in_file file) source t × IsFresh m × AppendsPart old new (text_after t input n) × IsSound t input n
    × (NeverAsks t input n → still)
CutOffAt (fmt file) source input m old new still =
    (t : Tree) × MeansFrom (in_file file) source (spelt t) × IsFresh m × AppendsPart old new (canon t)
CutOffAt (check file) source input m old new still = (t : Tree) × Runs (in_file file) source t × IsFresh m × AppendsPart old new accepted_text
CutOffAt (code file) source input m old new still = (t : Tree) × Runs (in_file file) source t × IsFresh m × AppendsPart old new (listed_text t)
CutOffAt (pack file) source input m old new still = (t : Tree) × Runs (in_file file) source t × IsFresh m × AppendsPart old new (packed_text t)
CutOffAt (bulk size) source input m old new still =
    (t : Tables) × Runs (generated size) source (program_of t) × StandsAfter t [] MOST_STEPS m.steps m (bulk_added size t m.steps m) old new
CutOffAt (exec file n every report) source input m old new still =
    (t : Tables) × Runs (in_module file) source (program_of t)
    × StandsAfter t input n m.steps m (added t (opening (program_of t) input) m.steps) old new
    × (NeverAsks (program_of t) input n → still)
CutOffAt (when file plan keep) source input m old new still =
    (t : Tree) × (p : PlanOf) × (images : List CargoList) × MeansFrom (with_plan file plan keep) source (planned t p images) × IsFresh m
    × AppendsPart old new (schedule_answer t p images keep input).text

-- a run of n steps has made k whole ones, the next asks for the input, and the output has taken the text of all k
pub record AsksAfter (t : Tree) (input : List ℕ) (n k : ℕ) (old new : Option (List ℕ)) : Type 0 where
  pub before : k < n
  pub made : (rules.plain t input k).steps ≡ k
  pub asks : first_asks (rules.plain t input k).state.items ≡ true
  pub wrote : Appends old new (text_after t input k)
  pub sound : IsSound t input k

-- what a call leaves that was cut off by the input; commands other than `run`, `plain`, `exec` and `when` never are
abbrev pub CutAtInput : Command → (source : Sources) (input : List ℕ) → Kept → (old new : Option (List ℕ)) → Type 0
CutAtInput (run slides file n every report) source input m old new =
    (t : Tables) × Runs (in_file file) source (program_of t) × Stands t input m.steps m × AsksAfter (program_of t) input n m.steps old new
CutAtInput (plain file n) source input m old new =
    (t : Tree) × Runs (in_file file) source t × IsFresh m × (k : ℕ) × AsksAfter t input n k old new
CutAtInput (fmt file) source input m old new = ⊥
CutAtInput (check file) source input m old new = ⊥
CutAtInput (code file) source input m old new = ⊥
CutAtInput (pack file) source input m old new = ⊥
CutAtInput (bulk size) source input m old new = ⊥
CutAtInput (exec file n every report) source input m old new =
    (t : Tables) × Runs (in_module file) source (program_of t) × Stands t input m.steps m × AsksAfter (program_of t) input n m.steps old new
CutAtInput (when file plan keep) source input m old new =
    (t : Tree) × (p : PlanOf) × (images : List CargoList) × MeansFrom (with_plan file plan keep) source (planned t p images) × IsFresh m
    × (new ≡ old)
