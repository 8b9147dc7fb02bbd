-- What a run answers, has written and leaves, in terms of the machine that never frees (docs/language.md, "Steps").
use Rattle.std.specs.Prelude.{◌≡◌, ℕ, ◌+◌, ◌-◌, ◌<◌, ◌≤◌, true, false, List, Option}
use Rattle.rg_base.specs.declared.outcome.Ended.{Ended}
use Rattle.rg_base.specs.declared.outcome.Ended.TheVariants as ended
use Rattle.rg_io.specs.Content.{Appends, AppendsUpTo}
use Rattle.rg_tree.specs.Rows.Tables.{Tables}
use Rattle.rg_rules.specs.State.{State}
use Rattle.rg_rules.specs.Outside.Inputs.{first_asks}
use Rattle.rg_rules.specs.Runs.{Ending, Running, Done, Stopped}
use Rattle.rg_rules.specs.Outside.Texts.{ran, text_of, added}
use Rattle.rg_plain.specs.Machine.{Machine, state_of}

-- the answer of a run that stands so after all its steps
abbrev pub answer : Ending → Ended
answer Running = ended.Spent
answer Done = ended.Done
answer (Stopped kind line) = ended.Trap kind line

-- where it is told, the text of the first k - 1 steps was taken, and a prefix of what step k added
abbrev pub WroteUpTo : Tables → State → ℕ → Option (List ℕ) → Option (List ℕ) → Type 0
WroteUpTo t s k old new = AppendsUpTo old new (text_of t s (k - 1)) (added t s k)

-- A run of n steps that nothing cut off: its answer, its text, its state and the number k of whole steps are those of the
-- definition. `Shows` says of a state that it is the one shown.
pub record Whole (t : Tables) (s : State) (n k : ℕ) (Shows : State → Type 0) (old new : Option (List ℕ)) (result : Ended) : Type 0 where
  pub answer_is : result ≡ answer (ran t s n).ending
  pub text_is : Appends old new (text_of t s n)
  pub steps_are : k ≡ (ran t s n).steps
  pub shows : Shows (ran t s n).state

-- the state at k whole steps of a run of at most n is shown
pub record StandsAt (t : Tables) (s : State) (n k : ℕ) (Shows : State → Type 0) : Type 0 where
  pub within : k ≤ n
  pub made : (ran t s k).steps ≡ k
  pub shows : Shows (ran t s k).state

-- a run that was cut off by the output, or for want of memory
pub record CutOff (t : Tables) (s : State) (n k : ℕ) (Shows : State → Type 0) (old new : Option (List ℕ)) : Type 0 where
  pub stands : StandsAt t s n k Shows
  pub wrote : WroteUpTo t s k old new

-- a run that was cut off by the input, in front of a step that asks for it
pub record CutAtInput (t : Tables) (s : State) (n k : ℕ) (Shows : State → Type 0) (old new : Option (List ℕ)) : Type 0 where
  pub stands : StandsAt t s n k Shows
  pub before : k < n
  pub asks : first_asks (ran t s k).state.items ≡ true
  pub wrote : Appends old new (text_of t s k)

-- what a run of at most n steps has answered, k being the number of whole ones
abbrev pub RunShows : Tables → State → (n k : ℕ) → (Shows : State → Type 0) → (old new : Option (List ℕ)) → Ended → Type 0
RunShows t s n k Shows old new ended.Done = Whole t s n k Shows old new ended.Done
RunShows t s n k Shows old new ended.Spent = Whole t s n k Shows old new ended.Spent
RunShows t s n k Shows old new (ended.Trap kind line) = Whole t s n k Shows old new (ended.Trap kind line)
RunShows t s n k Shows old new ended.InputFault = CutAtInput t s n k Shows old new
RunShows t s n k Shows old new ended.OutputFault = CutOff t s n k Shows old new
RunShows t s n k Shows old new ended.Memory = CutOff t s n k Shows old new

-- the machine that never frees stands for a state; `rest` is what is left of the input
abbrev pub IsState : Tables → Machine → (rest : List ℕ) → State → Type 0
IsState t m rest p = state_of t m rest ≡ p

-- what a run on the machine that never frees has answered
abbrev pub RunIs : Tables → State → (n k : ℕ) → Machine → List ℕ → (old new : Option (List ℕ)) → Ended → Type 0
RunIs t s n k m rest old new result = RunShows t s n k (IsState t m rest) old new result

-- how many steps a run began that ended so after k whole ones: where one was refused, that one too
abbrev pub begun : Ended → (k : ℕ) → ℕ
begun ended.Done k = k
begun ended.Spent k = k
begun ended.OutputFault k = k
begun (ended.Trap kind line) k = k + 1
begun ended.InputFault k = k + 1
begun ended.Memory k = k + 1

-- none of the first steps from a state, so many, asks for the input
abbrev pub NoneAsks : Tables → State → (steps : ℕ) → Type 0
NoneAsks t s steps = (k : ℕ) → k < steps → first_asks (ran t s k).state.items ≡ false
