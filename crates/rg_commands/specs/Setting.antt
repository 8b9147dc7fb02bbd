-- What is said of what a command works with, before it and behind it (docs/architecture.md).
use Rattle.std.specs.Prelude.{◌≡◌, ℕ, Bool, false, List, Option, Some}
use Rattle.rg_pace.specs.Asked.{Asked}
use Rattle.rg_run.specs.Machine.{IsFresh}
use Rattle.rg_run.specs.Asked.{SameTuned, both}
use Rattle.rg_commands.specs.declared.setting.Setting.{Setting}
use Rattle.rg_words.specs.declared.status.Status.{Status}
use Rattle.rg_words.specs.Answers.{ForInput}
use Rattle.rg_words.specs.Commands.{Command, Origin, every_of, reports}
use Rattle.rg_io.specs.Files.{Told}
use Rattle.rg_sources.specs.Sources.{Sources}
use Rattle.rg_commands.specs.Asked.{tuned_to}
use Rattle.rg_commands.specs.Settled.{RanFrom, Settles, Does, DoesCommand, Reported, Caused}
use Rattle.rg_commands.specs.Tallies.{SayYesOf}

-- no run has begun on its machine, and what is kept doesn't move there
pub record IsUnused {O R : Type 0} (s : Setting O R) : Type 0 where
  pub fresh : IsFresh s.machine.now
  pub stays : s.machine.now.stepper.slides ≡ false

-- it still has the output, the notes and the machine that it was made with
abbrev pub IsLent : {O R : Type 0} → Setting O R → Setting O R → Type 0
IsLent old new =
    (new.out.ghost_name ≡ old.out.ghost_name) × (new.notes.ghost_name ≡ old.notes.ghost_name)
    × (new.machine.ghost_name ≡ old.machine.ghost_name)

-- whether what is kept moves was left as it was
abbrev pub SlidesOn : {O R : Type 0} → Setting O R → Setting O R → Type 0
SlidesOn old new = new.machine.now.stepper.slides ≡ old.machine.now.stepper.slides

-- whether what is kept moves was chosen so
abbrev pub SlidesTo : {O R : Type 0} → Bool → Setting O R → Type 0
SlidesTo slides s = s.machine.now.stepper.slides ≡ slides

-- a run on its machine tuned no pacer, and each yes was a collection
abbrev pub PacedIn : {O R : Type 0} → Setting O R → (count_old count_new trace_old trace_new : Asked) → Type 0
PacedIn s count_old count_new trace_old trace_new =
    SameTuned (both count_old trace_old) (both count_new trace_new) × SayYesOf s.machine.now count_old count_new trace_old trace_new

-- what a run on its machine has answered, and given to its output, on these bytes of an input
abbrev pub RanIn : {O R : Type 0} → (O → Option (List ℕ)) → Origin → (n : ℕ) → (source : Sources) (input : List ℕ) → Status
    → (old new : Setting O R) → (still : Type 0) → Type 0
RanIn taken origin n source input s old new still =
    RanFrom origin n source (Some input) s (taken old.out.now) (taken new.out.now) new.machine.now still

-- what was answered to a source, and given to its output
abbrev pub SettlesIn : {O R : Type 0} → (O → Option (List ℕ)) → Command → (source : Sources) → (left : Option (List ℕ)) → Status
    → (old new : Setting O R) → (still : Type 0) → Type 0
SettlesIn taken c source left s old new still = Settles c source left s (taken old.out.now) (taken new.out.now) new.machine.now still

-- what was answered to a source on these bytes of an input, with pacers that were tuned to the command's number
abbrev pub DoesIn : {O R : Type 0} → (O → Option (List ℕ)) → Command → (source : Sources) (input : List ℕ) → Status
    → (old new : Setting O R) → (still : Type 0) → (count_old count_new trace_old trace_new : Asked) → Type 0
DoesIn taken c source input s old new still count_old count_new trace_old trace_new =
    Does c source input s (taken old.out.now) (taken new.out.now) new.machine.now still
    (tuned_to (every_of c) (both count_old trace_old)) (both count_new trace_new)

-- what was answered to a command, and given to its output: of an input that its source has, all that is said is said of the same bytes
abbrev pub DoesCommandIn : {O R : Type 0} → (O → Option (List ℕ)) → Option Told → Command → (left : Option (List ℕ)) → Status
    → (old new : Setting O R) → (still : Type 0) → (count_old count_new trace_old trace_new : Asked) → Type 0
DoesCommandIn taken told c left s old new still count_old count_new trace_old trace_new = ForInput left (λ input.
    DoesCommand told c input s (taken old.out.now) (taken new.out.now) new.machine.now still
    (tuned_to (every_of c) (both count_old trace_old)) (both count_new trace_new))

-- what its notes have taken of its machine's collections
abbrev pub ReportedIn : {O R : Type 0} → (R → Option (List ℕ)) → (report : Bool) → Status → (old new : Setting O R) → Type 0
ReportedIn taken report s old new = Reported report s new.machine.now.stepper.events (taken old.notes.now) (taken new.notes.now)

-- the same of a command
abbrev pub ReportedOf : {O R : Type 0} → (R → Option (List ℕ)) → Command → Status → (old new : Setting O R) → Type 0
ReportedOf taken c s old new = ReportedIn taken (reports c) s old new

-- from which count a fault comes: that of an input, or of its output or notes
abbrev pub CausedIn : {O R : Type 0} → (O → ℕ) → (R → ℕ) → Status → (input_old input_new : ℕ) → (old new : Setting O R) → Type 0
CausedIn out notes s input_old input_new old new =
    Caused s input_old input_new (out old.out.now) (out new.out.now) (notes old.notes.now) (notes new.notes.now)
