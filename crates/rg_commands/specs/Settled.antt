-- What a command has answered and left, by its status (docs/promises.md).
use Rattle.std.specs.Prelude.{◌≡◌, ◌≢◌, ◌≤◌, ◌+◌, ℕ, ◌⊎◌, Bool, true, false, List, [], ◌++◌, take, length, Option, Some}
use Rattle.rg_base.specs.declared.event.Event.{Event}
use Rattle.rg_base.specs.declared.fault.Fault.{Fault}
use Rattle.rg_base.specs.declared.limits.TheConstants.{MOST_STEPS}
use Rattle.rg_io.specs.Content.{Rose, Appends}
use Rattle.rg_io.specs.Files.{Told}
use Rattle.rg_tree.specs.Tree.{Tree}
use Rattle.rg_tree.specs.Rows.Tables.{Tables}
use Rattle.rg_tree.specs.Rows.RowTrees.{program_of}
use Rattle.rg_tree.specs.Canonical.{canon}
use Rattle.rg_tree.specs.Laws.{ParsesBack}
use Rattle.rg_rules.specs.Acceptance.{first_fault}
use Rattle.rg_rules.specs.Runs.{opening}
use Rattle.rg_rules.specs.Runs as rules
use Rattle.rg_rules.specs.Outside.Texts.{added}
use Rattle.rg_run.specs.Machine.{Kept, IsFresh, numbers_of}
use Rattle.rg_run.specs.Reports.{event_lines, AreCutLines}
use Rattle.rg_run.specs.Sound.{Stands, NeverAsks}
pub use Rattle.rg_commands.specs.Asked.{status_of_ended}
use Rattle.rg_commands.specs.Asked.{Unasked, RunAsks, input_for}
use Rattle.rg_run.specs.Asked.{Asks}
use Rattle.rg_words.specs.declared.status.Status.{Status}
use Rattle.rg_words.specs.declared.status.Status.TheVariants as status
use Rattle.rg_words.specs.Commands.{Command, run, plain, fmt, check, code, pack, bulk, exec, when, Origin, in_file, generated, in_module}
use Rattle.rg_words.specs.Commands.{origin_of}
use Rattle.rg_words.specs.Commands.{every_of, runs_on, is_slide, keep_of}
use Rattle.rg_words.specs.Answers.{HasInput, ForInput}
pub use Rattle.rg_when.specs.Scheduled.{SettlesSchedule}
use Rattle.rg_sources.specs.Sources.{Sources, too_long, faulty, spelt, planned, HasSource, MeansFrom, Means, Runs}
use Rattle.rg_commands.specs.Expected.{status_of, accepted_text, listed_text, packed_text, text_after, line_behind}
use Rattle.rg_commands.specs.CutOff.{Untouched, StandsAfter, AsksAfter, CutOffAt, CutAtInput}
use Rattle.rg_cown.specs.Cargo.{CargoList}
use Rattle.rg_plan.specs.Plans.{PlanOf}

-- a whole run on the machine, of the program that comes from there, with that status
pub record RanWhole (origin : Origin) (n : ℕ) (source : Sources) (left : Option (List ℕ)) (s : Status) (old new : Option (List ℕ)) (m : Kept)
    (still : Type 0) : Type 0 where
  pub tables : Tables
  pub runs : Runs origin source (program_of tables)
  pub input : List ℕ
  pub input_is : HasInput left input
  pub status_is : s ≡ status_of (rules.plain (program_of tables) input n).ending
  pub wrote : Appends old new (text_after (program_of tables) input n)
  pub stands : Stands tables input n m
  pub unread : NeverAsks (program_of tables) input n → still

-- a run that was cut off by the output or for want of memory
abbrev pub RunCut : Origin → (n : ℕ) → (source : Sources) (input : List ℕ) → Kept → (old new : Option (List ℕ)) → (still : Type 0) → Type 0
RunCut origin n source input m old new still =
    (t : Tables) × Runs origin source (program_of t) × StandsAfter t input n m.steps m (added t (opening (program_of t) input) m.steps) old new
    × (NeverAsks (program_of t) input n → still)

-- a run that was cut off by the input
abbrev pub RunCutAtInput : Origin → (n : ℕ) → (source : Sources) (input : List ℕ) → Kept → (old new : Option (List ℕ)) → Type 0
RunCutAtInput origin n source input m old new =
    (t : Tables) × Runs origin source (program_of t) × Stands t input m.steps m × AsksAfter (program_of t) input n m.steps old new

-- what a run on the machine has answered, of a program that comes from there
abbrev pub RanFrom : Origin → (n : ℕ) → (source : Sources) → (left : Option (List ℕ)) → Status → (old new : Option (List ℕ)) → Kept
    → (still : Type 0)
    → Type 0
RanFrom origin n source left status.Done old new m still = RanWhole origin n source left status.Done old new m still
RanFrom origin n source left (status.Refused f) old new m still = ⊥
RanFrom origin n source left status.Usage old new m still = ⊥
RanFrom origin n source left (status.Trap kind line) old new m still = RanWhole origin n source left (status.Trap kind line) old new m still
RanFrom origin n source left status.Spent old new m still = RanWhole origin n source left status.Spent old new m still
RanFrom origin n source left (status.Away k) old new m still = ⊥
RanFrom origin n source left status.SourceFault old new m still = ⊥
RanFrom origin n source left status.InputFault old new m still = ForInput left (λ input. RunCutAtInput origin n source input m old new)
RanFrom origin n source left status.OutputFault old new m still =
    Untouched m old new still ⊎ ForInput left (λ input. RunCut origin n source input m old new still)
RanFrom origin n source left status.Memory old new m still =
    Untouched m old new still ⊎ ForInput left (λ input. RunCut origin n source input m old new still)
RanFrom origin n source left status.Long old new m still = ⊥

-- a whole run of a generated program on an empty input, with that status and, behind it, the line of `bulk`
pub record RanGenerated (size : ℕ) (source : Sources) (s : Status) (old new : Option (List ℕ)) (m : Kept) : Type 0 where
  pub tables : Tables
  pub runs : Runs (generated size) source (program_of tables)
  pub status_is : s ≡ status_of (rules.plain (program_of tables) [] MOST_STEPS).ending
  pub wrote : Appends old new
      (text_after (program_of tables) [] MOST_STEPS
      ++ line_behind size (numbers_of m) (rules.plain (program_of tables) [] MOST_STEPS).ending)
  pub stands : Stands tables [] MOST_STEPS m

-- a whole run beside the machine
pub record RanBeside (file : List ℕ) (n : ℕ) (source : Sources) (left : Option (List ℕ)) (s : Status) (old new : Option (List ℕ)) (m : Kept)
    (still : Type 0) : Type 0 where
  pub tree : Tree
  pub runs : Runs (in_file file) source tree
  pub input : List ℕ
  pub input_is : HasInput left input
  pub status_is : s ≡ status_of (rules.plain tree input n).ending
  pub wrote : Appends old new (text_after tree input n)
  pub fresh : IsFresh m
  pub unread : NeverAsks tree input n → still

-- the canonical text of the tree that the source spells was written
pub record Formatted (source : Sources) (old new : Option (List ℕ)) (m : Kept) : Type 0 where
  pub tree : Tree
  pub means : Means source.file (spelt tree)
  pub wrote : Appends old new (canon tree)
  pub back : ParsesBack tree
  pub fresh : IsFresh m

-- the tree that the source spells is accepted, and that was written
pub record Passed (file : List ℕ) (source : Sources) (old new : Option (List ℕ)) (m : Kept) : Type 0 where
  pub tree : Tree
  pub runs : Runs (in_file file) source tree
  pub wrote : Appends old new accepted_text
  pub fresh : IsFresh m

-- the tree that the source spells is accepted, and the listing of its code was written
pub record Listed (file : List ℕ) (source : Sources) (old new : Option (List ℕ)) (m : Kept) : Type 0 where
  pub tree : Tree
  pub runs : Runs (in_file file) source tree
  pub wrote : Appends old new (listed_text tree)
  pub fresh : IsFresh m

-- the tree that the source spells is accepted, and the bytes of its module were written
pub record Packed (file : List ℕ) (source : Sources) (old new : Option (List ℕ)) (m : Kept) : Type 0 where
  pub tree : Tree
  pub runs : Runs (in_file file) source tree
  pub wrote : Appends old new (packed_text tree)
  pub fresh : IsFresh m

-- a command that came to its end
abbrev pub EndsWell : Command → (source : Sources) → (left old new : Option (List ℕ)) → Kept → (still : Type 0) → Type 0
EndsWell (run slides file n every report) source left old new m still = RanWhole (in_file file) n source left status.Done old new m still
EndsWell (plain file n) source left old new m still = RanBeside file n source left status.Done old new m still
EndsWell (fmt file) source left old new m still = Formatted source old new m
EndsWell (check file) source left old new m still = Passed file source old new m
EndsWell (code file) source left old new m still = Listed file source old new m
EndsWell (pack file) source left old new m still = Packed file source old new m
EndsWell (bulk size) source left old new m still = RanGenerated size source status.Done old new m
EndsWell (exec file n every report) source left old new m still = RanWhole (in_module file) n source left status.Done old new m still
EndsWell (when file plan keep) source left old new m still = ⊥

-- a run that didn't
abbrev pub StopsRun : Command → (source : Sources) → (left : Option (List ℕ)) → Status → (old new : Option (List ℕ)) → Kept → (still : Type 0) → Type 0
StopsRun (run slides file n every report) source left s old new m still = RanWhole (in_file file) n source left s old new m still
StopsRun (plain file n) source left s old new m still = RanBeside file n source left s old new m still
StopsRun (fmt file) source left s old new m still = ⊥
StopsRun (check file) source left s old new m still = ⊥
StopsRun (code file) source left s old new m still = ⊥
StopsRun (pack file) source left s old new m still = ⊥
StopsRun (bulk size) source left s old new m still = RanGenerated size source s old new m
StopsRun (exec file n every report) source left s old new m still = RanWhole (in_module file) n source left s old new m still
StopsRun (when file plan keep) source left s old new m still = ⊥

-- the tree that the source spells has that first fault
abbrev pub HasFault : Sources → Fault → Type 0
HasFault source f = (t : Tree) × Means source.file (spelt t) × (first_fault t ≡ Some f)

-- the checker's fault, where a command checks; that of a program with a plan is one of what comes from there
abbrev pub IsFaulted : Command → Sources → Fault → Type 0
IsFaulted (run slides file n every report) source f = HasFault source f
IsFaulted (plain file n) source f = HasFault source f
IsFaulted (fmt file) source f = ⊥
IsFaulted (check file) source f = HasFault source f
IsFaulted (code file) source f = HasFault source f
IsFaulted (pack file) source f = HasFault source f
IsFaulted (bulk size) source f = ⊥
IsFaulted (exec file n every report) source f = ⊥
IsFaulted (when file plan keep) source f = ⊥

-- a command that was cut off by the output or for want of memory; one that reads no input has none
abbrev pub CutOff : Command → (source : Sources) → (left old new : Option (List ℕ)) → Kept → (still : Type 0) → Type 0
CutOff (run slides file n every report) source left old new m still = ForInput left
    (λ input. CutOffAt (run slides file n every report) source input m old new still)
CutOff (plain file n) source left old new m still = ForInput left (λ input. CutOffAt (plain file n) source input m old new still)
CutOff (fmt file) source left old new m still = CutOffAt (fmt file) source [] m old new still
CutOff (check file) source left old new m still = CutOffAt (check file) source [] m old new still
CutOff (code file) source left old new m still = CutOffAt (code file) source [] m old new still
CutOff (pack file) source left old new m still = CutOffAt (pack file) source [] m old new still
CutOff (bulk size) source left old new m still = CutOffAt (bulk size) source [] m old new still
CutOff (exec file n every report) source left old new m still = ForInput left
    (λ input. CutOffAt (exec file n every report) source input m old new still)
CutOff (when file plan keep) source left old new m still = ForInput left (λ input. CutOffAt (when file plan keep) source input m old new still)

-- what was answered to a source; what `when` answers to a schedule is said below
abbrev pub Settles : Command → (source : Sources) → (left : Option (List ℕ)) → Status → (old new : Option (List ℕ)) → Kept → (still : Type 0) → Type 0
Settles c source left status.Done old new m still = EndsWell c source left old new m still
Settles c source left (status.Refused f) old new m still =
    (MeansFrom (origin_of c) source (faulty f) ⊎ IsFaulted c source f) × Untouched m old new still
Settles c source left status.Usage old new m still = ⊥
Settles c source left (status.Trap kind line) old new m still = StopsRun c source left (status.Trap kind line) old new m still
Settles c source left status.Spent old new m still = StopsRun c source left status.Spent old new m still
Settles c source left (status.Away n) old new m still = ⊥
Settles c source left status.SourceFault old new m still = ⊥
Settles c source left status.InputFault old new m still = ForInput left (λ input. CutAtInput c source input m old new)
Settles c source left status.OutputFault old new m still = Untouched m old new still ⊎ CutOff c source left old new m still
Settles c source left status.Memory old new m still = Untouched m old new still ⊎ CutOff c source left old new m still
Settles c source left status.Long old new m still = MeansFrom (origin_of c) source too_long × Untouched m old new still

-- no source came to be read
pub data Unread (told : Option Told) (c : Command) : Status → Type 0 where
  source_fault : Unread told c status.SourceFault
  memory : Unread told c status.Memory

-- the schedule of the plan that comes from there was read, and no run has begun on the machine
pub record RanSchedule (told : Option Told) (c : Command) (left : Option (List ℕ)) (s : Status) (old new : Option (List ℕ)) (m : Kept) : Type 0 where
  pub source : Sources
  pub has : HasSource told (origin_of c) source
  pub tree : Tree
  pub plan : PlanOf
  pub images : List CargoList
  pub means : MeansFrom (origin_of c) source (planned tree plan images)
  pub settles : SettlesSchedule tree plan images (keep_of c) left s old new
  pub fresh : IsFresh m

-- what was answered to a command, with a source that its program has
abbrev pub SettlesCommand : Option Told → Command → (left : Option (List ℕ)) → Status → (old new : Option (List ℕ)) → Kept → (still : Type 0) → Type 0
SettlesCommand told c left s old new m still =
    ((source : Sources) × HasSource told (origin_of c) source × Settles c source left s old new m still)
    ⊎ ((Unread told c s × Untouched m old new still) ⊎ RanSchedule told c left s old new m)

-- A call names a fault of the input where its count rose, and only there, and one of the output only where its own count or that of the notes rose;
-- and no count falls.
pub record Caused (s : Status) (input_old input_new out_old out_new notes_old notes_new : ℕ) : Type 0 where
  pub input_fault : s ≡ status.InputFault → Rose input_old input_new
  pub input_quiet : s ≢ status.InputFault → input_new ≡ input_old
  pub output_fault : s ≡ status.OutputFault → Rose out_old out_new ⊎ Rose notes_old notes_new
  pub input_never_falls : input_old ≤ input_new
  pub output_never_falls : out_old ≤ out_new
  pub notes_never_fall : notes_old ≤ notes_new

-- What the notes have taken before a status is told: with a report the lines of a run's collections, for want of memory maybe without the last, after
-- a fault of the output or the notes maybe with a part of it, and else nothing.
abbrev pub Reported : (report : Bool) → Status → List Event → (old new : Option (List ℕ)) → Type 0
Reported false s events old new = new ≡ old
Reported true status.Done events old new = Appends old new (event_lines events)
Reported true (status.Refused f) events old new = new ≡ old
Reported true status.Usage events old new = new ≡ old
Reported true (status.Trap kind line) events old new = Appends old new (event_lines events)
Reported true status.Spent events old new = Appends old new (event_lines events)
Reported true (status.Away n) events old new = new ≡ old
Reported true status.SourceFault events old new = new ≡ old
Reported true status.InputFault events old new = Appends old new (event_lines events)
Reported true status.OutputFault events old new = (text : List ℕ) × AreCutLines events text × Appends old new text
Reported true status.Memory events old new = (k : ℕ) × (length events ≤ k + 1) × Appends old new (event_lines (take k events))
Reported true status.Long events old new = new ≡ old

-- both pacers were tuned to the command's number, where it has begun a run
abbrev pub Tunes : Command → Kept → (count trace : ℕ) → Type 0
Tunes c m count trace = runs_on c ≡ true → ¬ IsFresh m → (count ≡ every_of c) × (trace ≡ every_of c)

-- what is kept moves for `slide` alone, where a run has begun
abbrev pub Chooses : Command → Kept → Type 0
Chooses c m = ¬ IsFresh m → m.stepper.slides ≡ is_slide c

-- how a run of a program that comes from there asked the pacers, on these bytes of an input
abbrev pub RunAsked : Origin → (source : Sources) (input : List ℕ) → Status → Kept → (first last : Asks) → Type 0
RunAsked origin source input s m first last = Unasked m first last ⊎ RunAsks origin source input m s first last

-- What was answered to a source on these bytes of an input, and how the pacers were asked for it.
pub record Does (c : Command) (source : Sources) (input : List ℕ) (s : Status) (old new : Option (List ℕ)) (m : Kept) (still : Type 0)
    (first last : Asks) : Type 0 where
  pub settles : Settles c source (Some input) s old new m still
  pub asked : RunAsked (origin_of c) source (input_for (origin_of c) input) s m first last

-- What was answered to a command on these bytes of an input, with a source that its program has.
abbrev pub DoesCommand : Option Told → Command → (input : List ℕ) → Status → (old new : Option (List ℕ)) → Kept → (still : Type 0)
    → (first last : Asks) → Type 0
DoesCommand told c input s old new m still first last =
    ((source : Sources) × HasSource told (origin_of c) source × Does c source input s old new m still first last)
    ⊎ (((Unread told c s × Untouched m old new still) × Unasked m first last) ⊎ RanSchedule told c (Some input) s old new m)
