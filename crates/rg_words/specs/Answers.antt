-- What a command answers, and how a text is given to its output (docs/promises.md, "The headline").
use Rattle.std.specs.Prelude.{◌≡◌, ◌≢◌, ℕ, ◌≤◌, List, [], Option, IfSome}
use Rattle.rg_base.specs.declared.fault.Fault.{Fault}
use Rattle.rg_io.specs.Content.{Rose, Appends, AppendsPart}
use Rattle.rg_words.specs.declared.status.Status.{Status}
use Rattle.rg_words.specs.declared.status.Status.TheVariants as status

-- a status, with the text on the output
pub record Answer : Type 0 where
  pub status : Status
  pub text : List ℕ

-- a fault refuses the program; nothing is written
abbrev pub refused : Fault → Answer
refused f = record { status = status.Refused f; text = [] }

-- the input's source has these bytes left, where it tells that
abbrev pub HasInput : (left : Option (List ℕ)) → (input : List ℕ) → Type 0
HasInput left input = IfSome left (λ told. told ≡ input)

-- a fact on the input: the bytes that the source tells, where it tells them, else some bytes
abbrev pub ForInput : (left : Option (List ℕ)) → ((input : List ℕ) → Type 0) → Type 0
ForInput left P = (input : List ℕ) × HasInput left input × P input

-- how a line was written: whole, or a part of it, where the output failed or no memory was found
abbrev pub PutLine : Status → (line : List ℕ) → (old new : Option (List ℕ)) → Type 0
PutLine status.Done line old new = Appends old new line
PutLine (status.Refused f) line old new = ⊥
PutLine status.Usage line old new = ⊥
PutLine (status.Trap kind at) line old new = ⊥
PutLine status.Spent line old new = ⊥
PutLine (status.Away n) line old new = ⊥
PutLine status.SourceFault line old new = ⊥
PutLine status.InputFault line old new = ⊥
PutLine status.OutputFault line old new = AppendsPart old new line
PutLine status.Memory line old new = AppendsPart old new line
PutLine status.Long line old new = ⊥

-- A command that gives nothing to the notes names a fault of the input where its count rose, and only there, and one of the output only where its own
-- count did; and no count falls.
pub record CausedBeside (s : Status) (input_old input_new out_old out_new : ℕ) : Type 0 where
  pub input_fault : s ≡ status.InputFault → Rose input_old input_new
  pub input_quiet : s ≢ status.InputFault → input_new ≡ input_old
  pub output_fault : s ≡ status.OutputFault → Rose out_old out_new
  pub input_never_falls : input_old ≤ input_new
  pub output_never_falls : out_old ≤ out_new

-- and that reads no input either
pub record CausedByOutput (s : Status) (out_old out_new : ℕ) : Type 0 where
  pub no_input_fault : s ≢ status.InputFault
  pub output_fault : s ≡ status.OutputFault → Rose out_old out_new
  pub output_never_falls : out_old ≤ out_new
