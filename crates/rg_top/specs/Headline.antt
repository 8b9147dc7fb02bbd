-- The words of the headline: what a call leaves, and from which cause its answer comes (docs/promises.md).
use Rattle.std.specs.Prelude.{◌≡◌, ◌≢◌, ℕ, ◌+◌, ◌-◌, ◌<◌, ◌≤◌, Bool, true, false, ◌⊎◌, ⊤, List, [], ◌++◌, take, length, Option, Some, None, IfSome}
use Rattle.std.specs.Bool.{OnFalse}
use Rattle.rg_base.specs.declared.fault.Fault.{Fault}
use Rattle.rg_base.specs.declared.limits.TheConstants.{MOST_STEPS}
use Rattle.rg_base.specs.declared.event.Event.{Event}
use Rattle.rg_base.specs.declared.outcome.EndNumbers.{EndNumbers}
use Rattle.rg_base.specs.Report.{end_line}
use Rattle.rg_io.specs.Content.{Rose, Appends, AppendsUpTo, IsPrefix}
use Rattle.rg_io.specs.Files.{Told}
use Rattle.rg_tree.specs.Tree.{Tree}
use Rattle.rg_tree.specs.Rows.Tables.{Tables}
use Rattle.rg_tree.specs.Rows.RowTrees.{program_of}
use Rattle.rg_tree.specs.Laws.{ParsesBack}
use Rattle.rg_rules.specs.Acceptance.{first_fault}
use Rattle.rg_run.specs.Asked.{Asks, SameTuned}
use Rattle.rg_run.specs.Machine.{Kept, IsFresh, numbers_of}
use Rattle.rg_run.specs.Reports.{event_lines, AreCutLines}
use Rattle.rg_run.specs.Sound.{IsSound, Stands, NeverAsks}
use Rattle.rg_words.specs.declared.status.Status.{Status}
use Rattle.rg_words.specs.declared.status.Status.TheVariants as status
use Rattle.rg_words.specs.Commands.{Command, run, plain, fmt, check, code, pack, bulk, exec, when, command, generated, origin_of, steps_of}
use Rattle.rg_words.specs.Commands.{may_schedule, runs_on, may_run, every_of, is_slide}
use Rattle.rg_words.specs.Statuses.{status_text, is_answer, is_refusal, is_from_outside, IsBadSchedule}
use Rattle.rg_words.specs.Answers.{HasInput, ForInput}
use Rattle.rg_sources.specs.Sources.{Sources, Meaning, too_long, faulty, spelt, planned, HasSource, MeansFrom}
use Rattle.rg_sources.specs.Opens.{Opens}
use Rattle.rg_commands.specs.Expected.{expected, ExpectsStatus}

-- a fact on the command that the words give, on a source that its program has, and on the input: a file's bytes, where files
-- tell them, else some bytes
abbrev pub ForSource : Option Told → (left : Option (List ℕ)) → (words : List (List ℕ)) → (Command → (source : Sources) (input : List ℕ) → Type 0) → Type 0
ForSource told left words P =
    (c : Command) × (source : Sources) × (command words ≡ Some c) × HasSource told (origin_of c) source × ForInput left (P c source)

-- the names of the files that are opened, in order: those that the command opens for its program; none where the words give none
abbrev pub OpensBy : Option Told → Option Command → (names : List (List ℕ)) → Type 0
OpensBy told None names = names ≡ []
OpensBy told (Some c) names = Opens told (origin_of c) names

-- the one fact, where the checker has no fault, else the other
abbrev pub IfAccepted : Option Fault → (accepted refused : Type 0) → Type 0
IfAccepted None accepted refused = accepted
IfAccepted (Some f) accepted refused = refused

-- the machine stands behind n steps of the program
abbrev pub RunStands : Tree → (input : List ℕ) → (n : ℕ) → Kept → Type 0
RunStands t input n m = (tables : Tables) × (program_of tables ≡ t) × Stands tables input n m

-- What a command leaves beside its text, for a source of that meaning. A run of an accepted program stands on the machine behind
-- all its steps, that of a generated one on an empty input; `plain` runs it elsewhere, and its run is sound too; where none of
-- these steps asks for the input, it is still as it was. What `fmt` has written parses back into the tree. The behaviours of `when` run on machines of
-- their own.
abbrev pub Leaves : Command → (input : List ℕ) → Meaning → Kept → (still : Type 0) → Type 0
Leaves c input too_long m still = IsFresh m × still
Leaves c input (faulty f) m still = IsFresh m × still
Leaves (run slides file n every report) input (spelt t) m still =
    IfAccepted (first_fault t) (RunStands t input n m × (NeverAsks t input n → still)) (IsFresh m × still)
Leaves (plain file n) input (spelt t) m still =
    IsFresh m × IfAccepted (first_fault t) (IsSound t input n × (NeverAsks t input n → still)) still
Leaves (fmt file) input (spelt t) m still = IsFresh m × ParsesBack t
Leaves (bulk size) input (spelt t) m still = RunStands t [] MOST_STEPS m
Leaves (exec file n every report) input (spelt t) m still =
    IfAccepted (first_fault t) (RunStands t input n m × (NeverAsks t input n → still)) (IsFresh m × still)
Leaves c input k m still = IsFresh m

-- A command has answered this status to one source and one input: the source means something, of which this status and this
-- text are expected; the output has taken that text and nothing else; and the rest is left as it must be for that meaning.
-- `still` says that the input is as it was before the call.
pub record Answers (c : Command) (source : Sources) (input : List ℕ) (s : Status) (old new : Option (List ℕ)) (m : Kept) (still : Type 0) : Type 0 where
  pub meaning : Meaning
  pub means : MeansFrom (origin_of c) source meaning
  pub text : List ℕ
  pub expects : expected c (numbers_of m) input meaning ≡ record { status = s; text = text }
  pub wrote : Appends old new text
  pub leaves : Leaves c input meaning m still

-- A machine is that of a call whose status is an answer, of some bytes that its files and its input may have had: the status is that of what is
-- expected of them, where the machine has its numbers, and a run stands on it as it must.
abbrev pub IsMachineOf : (words : List (List ℕ)) → Status → Kept → Type 0
IsMachineOf words s m = ForSource None None words (λ c source input.
    (meaning : Meaning) × MeansFrom (origin_of c) source meaning
    × ((text : List ℕ) × (expected c (numbers_of m) input meaning ≡ record { status = s; text = text })) × Leaves c input meaning m (Unit {0}))

-- a refusal leaves the input as it was, but where it is that of a schedule
abbrev pub UnlessSchedule : Option Command → Status → (still : Type 0) → Type 0
UnlessSchedule o s still = ((may_schedule o ≡ true) × IsBadSchedule s) ⊎ still

-- the steps that the words ask for
abbrev pub steps_asked : Option Command → ℕ
steps_asked None = 0
steps_asked (Some c) = steps_of c

-- The lines of collections that the notes take before the text of a status. Without a report, none. With one, those of a run that came to its end or
-- to a fault of the input; for want of memory the last one may be missing, and where the output or the notes failed any part of it may be there.
abbrev pub IsBefore : (report : Bool) → Status → List Event → (lines : List ℕ) → Type 0
IsBefore true status.Done events lines = lines ≡ event_lines events
IsBefore true (status.Trap kind line) events lines = lines ≡ event_lines events
IsBefore true status.Spent events lines = lines ≡ event_lines events
IsBefore true status.InputFault events lines = lines ≡ event_lines events
IsBefore true status.OutputFault events lines = AreCutLines events lines
IsBefore true status.Memory events lines = (k : ℕ) × (length events ≤ k + 1) × (lines ≡ event_lines (take k events))
IsBefore report s events lines = lines ≡ []

-- the line behind the text of a status: the numbers of a run that came to its end
abbrev pub line_after : Status → EndNumbers → List ℕ
line_after status.Done n = end_line n
line_after (status.Trap kind line) n = end_line n
line_after status.Spent n = end_line n
line_after s n = []

-- what the notes take of a status behind the lines of collections: its text, with a report also the line behind it
abbrev pub text_behind : (report : Bool) → (steps : ℕ) → Kept → Status → List ℕ
text_behind false steps m s = status_text steps s
text_behind true steps m s = status_text steps s ++ line_after s (numbers_of m)

-- Another status was told, and the notes failed: they have taken the lines before its text, a prefix of what they take behind them, and then a prefix of
-- the text of an output fault. `May` says which status that may have been.
pub record TookPart (May : Status → Type 0) (report : Bool) (steps : ℕ) (m : Kept) (old new : Option (List ℕ)) : Type 0 where
  pub other : Status
  pub may : May other
  pub another : other ≢ status.OutputFault
  pub lines : List ℕ
  pub before : IsBefore report other m.stepper.events lines
  pub first : List ℕ
  pub second : List ℕ
  pub first_of : IsPrefix first (text_behind report steps m other)
  pub second_of : IsPrefix second (status_text steps status.OutputFault)
  pub took : Appends old new (lines ++ first ++ second)

-- What the notes have taken, where so many steps were asked for. After a fault of the output or the notes that is the lines before its text and a prefix
-- of the text, or a part of what they take of another status that may have been told.
abbrev pub TookNotes : (May : Status → Type 0) → (report : Bool) → (steps : ℕ) → Kept → Status → (old new : Option (List ℕ)) → Type 0
TookNotes May report steps m status.OutputFault old new =
    ((lines : List ℕ) × IsBefore report status.OutputFault m.stepper.events lines
    × AppendsUpTo old new lines (status_text steps status.OutputFault))
    ⊎ TookPart May report steps m old new
TookNotes May report steps m s old new =
    (lines : List ℕ) × IsBefore report s m.stepper.events lines × Appends old new (lines ++ text_behind report steps m s)

-- what the notes have taken where they took the whole text of an output fault
abbrev pub ToldFault : (report : Bool) → List Event → (old new : Option (List ℕ)) → Type 0
ToldFault report events old new =
    (lines : List ℕ) × IsBefore report status.OutputFault events lines × Appends old new (lines ++ status_text 0 status.OutputFault)

-- this status is expected of the program's source and the input
abbrev pub IsExpected : Option Told → (left : Option (List ℕ)) → (words : List (List ℕ)) → Status → Type 0
IsExpected told left words s = ForSource told left words (λ c source input. ExpectsStatus c source input s)

-- A status that a call may tell: one that is expected; that the words are no command, where they are none; a fault of the source or of the input,
-- where it came; and want of memory.
abbrev pub MayTell : Option Told → (left : Option (List ℕ)) → (words : List (List ℕ)) → (source_failed input_failed : Type 0) → Status → Type 0
MayTell told left words source_failed input_failed status.Usage = command words ≡ None
MayTell told left words source_failed input_failed status.SourceFault = source_failed
MayTell told left words source_failed input_failed status.InputFault = input_failed
MayTell told left words source_failed input_failed status.OutputFault = ⊥
MayTell told left words source_failed input_failed status.Memory = ⊤
MayTell told left words source_failed input_failed s = IsExpected told left words s

-- this status is answered exactly where the fact holds, unless the call was cut off from outside
abbrev pub Exactly : Status → Status → Type 0 → Type 0
Exactly answer s P = (answer ≡ s → P) × (P → (answer ≡ s) ⊎ (is_from_outside answer ≡ true))

-- This status is answered exactly where it is expected of the program's source and the input, unless the call was cut off from
-- outside. Where files and the input's source tell their bytes, these are meant. Of those that don't, the answer says that the
-- status is expected of some bytes, and where it is expected of all that they may have, it is answered.
pub record ExactlyWhere (told : Option Told) (left : Option (List ℕ)) (words : List (List ℕ)) (answer s : Status) : Type 0 where
  pub only : answer ≡ s → IsExpected told left words s
  pub always : (c : Command) → command words ≡ Some c →
      ((source : Sources) (input : List ℕ) → HasSource told (origin_of c) source → HasInput left input → ExpectsStatus c source input s) →
      (answer ≡ s) ⊎ (is_from_outside answer ≡ true)

-- a refusal that comes whatever the input has: it is none of a schedule
pub record IsEarly (o : Option Command) (s : Status) : Type 0 where
  pub answers : is_answer s ≡ true
  pub refuses : is_refusal s ≡ true
  pub unscheduled : may_schedule o ≡ true → ¬ IsBadSchedule s

-- What a call chooses for the run that it begins: both pacers are tuned to the command's number, and what is kept moves for `slide` alone. A command
-- that runs nothing on the machine that is handed in tunes no pacer.
pub record Chosen (o : Option Command) (m : Kept) (old new : Asks) : Type 0 where
  pub tuned : (c : Command) → o ≡ Some c → runs_on c ≡ true → ¬ IsFresh m → (new.count.tuned ≡ every_of c) × (new.trace.tuned ≡ every_of c)
  pub untuned : OnFalse (may_run o) (SameTuned old new)
  pub slides : (c : Command) → o ≡ Some c → ¬ IsFresh m → m.stepper.slides ≡ is_slide c

-- A call names a fault of the source or of the input only where its count rose, and one of the output only where its own count or that of the notes
-- rose. Where the count of the input rose, it names that, unless the output failed behind it or no memory was found. No count falls.
pub record FaultsRose (s : Status) (files_old files_new input_old input_new out_old out_new notes_old notes_new : ℕ) : Type 0 where
  pub source_fault : s ≡ status.SourceFault → Rose files_old files_new
  pub input_fault : s ≡ status.InputFault → Rose input_old input_new
  pub input_quiet : s ≢ status.InputFault → s ≢ status.OutputFault → s ≢ status.Memory → input_new ≡ input_old
  pub output_fault : s ≡ status.OutputFault → Rose out_old out_new ⊎ Rose notes_old notes_new
  pub files_never_fall : files_old ≤ files_new
  pub input_never_falls : input_old ≤ input_new
  pub out_never_falls : out_old ≤ out_new
  pub notes_never_fall : notes_old ≤ notes_new
