-- What is said of the pacers, by the tallies that they tell before a call and behind it (docs/promises.md).
use Rattle.std.specs.Prelude.{◌≡◌, ℕ, List}
use Rattle.rg_pace.specs.Asked.{Asked}
use Rattle.rg_run.specs.Asked.{both}
use Rattle.rg_run.specs.Machine.{Kept}
use Rattle.rg_sources.specs.Sources.{Sources}
use Rattle.rg_commands.specs.Settled.{RunAsked}
use Rattle.rg_commands.specs.Asked.{SayYes, tuned_to}
use Rattle.rg_words.specs.declared.status.Status.{Status}
use Rattle.rg_words.specs.Commands.{Origin}

-- both pacers are tuned to that number
abbrev pub TunedTo : ℕ → (count trace : Asked) → Type 0
TunedTo every count trace = (count.tuned ≡ every) × (trace.tuned ≡ every)

-- how a run of a program that comes from there asked them, on these bytes of an input
abbrev pub RunAskedBy : Origin → (source : Sources) (input : List ℕ) → Status → Kept → (count_old count_new trace_old trace_new : Asked) → Type 0
RunAskedBy origin source input s m count_old count_new trace_old trace_new =
    RunAsked origin source input s m (both count_old trace_old) (both count_new trace_new)

-- and where they were tuned to a number first
abbrev pub RunAskedOf : Origin → (every : ℕ) → (source : Sources) (input : List ℕ) → Status → Kept
    → (count_old count_new trace_old trace_new : Asked) → Type 0
RunAskedOf origin every source input s m count_old count_new trace_old trace_new =
    RunAsked origin source input s m (tuned_to every (both count_old trace_old)) (both count_new trace_new)

-- how often they said yes
abbrev pub SayYesOf : Kept → (count_old count_new trace_old trace_new : Asked) → Type 0
SayYesOf m count_old count_new trace_old trace_new = SayYes m count_old.yeses count_new.yeses trace_old.yeses trace_new.yeses
