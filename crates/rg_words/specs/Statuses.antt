-- The numbers of the statuses, and the text that each gives to the notes (docs/language.md, "Statuses").
use Rattle.std.specs.Prelude.{◌≡◌, ℕ, Bool, true, false, List, [], ◌∷◌, ◌++◌, codes, decimal}
use Rattle.rg_base.specs.declared.fault.Code.TheVariants.{Schedule}
use Rattle.rg_base.specs.declared.outcome.Trap.{Trap}
use Rattle.rg_base.specs.declared.outcome.Trap.TheVariants as trap
use Rattle.rg_base.specs.Diagnostics.{fault_text}
use Rattle.rg_words.specs.declared.status.Status.{Status}
use Rattle.rg_words.specs.declared.status.Status.TheVariants as status

-- the number that the process ends with
abbrev pub number_of : Status → ℕ
number_of status.Done = 0
number_of (status.Refused f) = 1
number_of status.Usage = 2
number_of (status.Trap kind line) = 3
number_of status.Spent = 4
number_of (status.Away n) = 4
number_of status.SourceFault = 5
number_of status.InputFault = 6
number_of status.OutputFault = 7
number_of status.Memory = 8
number_of status.Long = 9

-- the words of a trap
abbrev pub trap_text : Trap → List ℕ
trap_text trap.Nil = codes "trap nil"
trap_text trap.Overflow = codes "trap overflow"
trap_text trap.Zero = codes "trap zero"
trap_text trap.Input = codes "trap input"
trap_text trap.End = codes "trap end"
trap_text trap.Depth = codes "trap depth"
trap_text trap.Size = codes "trap size"
trap_text trap.Index = codes "trap index"

-- how the program is called
abbrev pub usage_text : List ℕ
usage_text =
    codes "usage: reggio run FILE [--steps N] [--every N] [--report]; check FILE; fmt FILE; code FILE; plain FILE [--steps N]; bulk N"
    ++ codes "; slide FILE [--steps N] [--every N] [--report]; pack FILE"
    ++ codes "; exec FILE [--steps N] [--every N] [--report]"
    ++ codes "; when FILE PLAN [--keep K]"

-- the text of a status, where so many steps were asked for
abbrev pub status_text : ℕ → Status → List ℕ
status_text steps status.Done = []
status_text steps (status.Refused f) = fault_text f
status_text steps status.Usage = usage_text ++ 10 ∷ []
status_text steps (status.Trap kind line) = trap_text kind ++ codes " at line " ++ decimal line ++ 10 ∷ []
status_text steps status.Spent = codes "spent" ++ codes " at step " ++ decimal steps ++ 10 ∷ []
status_text steps (status.Away n) = codes "spent" ++ codes " at step " ++ decimal n ++ 10 ∷ []
status_text steps status.SourceFault = codes "source fault" ++ 10 ∷ []
status_text steps status.InputFault = codes "input fault" ++ 10 ∷ []
status_text steps status.OutputFault = codes "output fault" ++ 10 ∷ []
status_text steps status.Memory = codes "out of memory" ++ 10 ∷ []
status_text steps status.Long = codes "source too long" ++ 10 ∷ []

-- an answer to what the source is: a run, a fault of the source, or that it is too long
abbrev pub is_answer : Status → Bool
is_answer status.Usage = false
is_answer status.SourceFault = false
is_answer status.InputFault = false
is_answer status.OutputFault = false
is_answer status.Memory = false
is_answer s = true

-- a run that came to its end: it is done, has trapped, or has made all its steps
abbrev pub ends_run : Status → Bool
ends_run status.Done = true
ends_run (status.Trap kind line) = true
ends_run status.Spent = true
ends_run s = false

-- a refusal before any run
abbrev pub is_refusal : Status → Bool
is_refusal (status.Refused f) = true
is_refusal status.Usage = true
is_refusal status.SourceFault = true
is_refusal status.Long = true
is_refusal s = false

-- cut off by the output or the notes, or for want of memory
abbrev pub is_cut_off : Status → Bool
is_cut_off status.OutputFault = true
is_cut_off status.Memory = true
is_cut_off s = false

-- cut off so, or because the input or the file couldn't be read
abbrev pub is_from_outside : Status → Bool
is_from_outside status.SourceFault = true
is_from_outside status.InputFault = true
is_from_outside status.OutputFault = true
is_from_outside status.Memory = true
is_from_outside s = false

-- a refusal of a schedule
abbrev pub IsBadSchedule : Status → Type 0
IsBadSchedule (status.Refused f) = f.code ≡ Schedule
IsBadSchedule s = ⊥
