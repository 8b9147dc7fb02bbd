-- What joins the private layers of this crate; no clause of a public call cites it (docs/language.md, "Steps").
use Rattle.std.specs.Prelude.{◌≡◌, ◌≢◌, ◌⊎◌, ℕ, ◌+◌, true, false, List, [], ◌∷◌, ◌++◌, Option, Result, Ok, Err, IfErr, IsErrAnd}
use Rattle.rg_base.specs.declared.event.Event.{Event}
use Rattle.rg_base.specs.declared.outcome.Outcome.{Outcome}
use Rattle.rg_base.specs.declared.outcome.Outcome.TheVariants as outcome
use Rattle.rg_base.specs.declared.outcome.Ended.{Ended}
use Rattle.rg_base.specs.declared.outcome.Ended.TheVariants as ended
use Rattle.rg_base.specs.Text.{line_text}
use Rattle.rg_io.specs.Content.{Appends, AppendsPart}
use Rattle.rg_step.specs.Asking.{YesesTold}
use Rattle.rg_step.specs.Pacers.{Asks, SameTuned}
use Rattle.rg_step.specs.Stepping.{IsFresh as IsAtStart}
use Rattle.rg_run.specs.declared.inside.Inside.{Inside}
use Rattle.rg_run.specs.declared.task.Sinks.{Sinks}
use Rattle.rg_run.specs.declared.task.Task.{Task}
use Rattle.rg_run.specs.Machine.{Kept}
use Rattle.rg_run.specs.Reports.{Reports}
use Rattle.rg_run.specs.Runs.{Caused}
use Rattle.rg_run.specs.Whole.{WholeRun}

-- what a machine shows of what it holds
abbrev pub kept_of : Inside → Kept
kept_of i = record { begun = i.begun; stepper = i.stepper; steps = i.steps }

-- at most one collection more, told with the number of a step
abbrev pub OneMore : (step : ℕ) → (old new : List Event) → Type 0
OneMore step old new = (new ≡ old) ⊎ ((e : Event) × (new ≡ old ++ e ∷ []) × (e.step ≡ step))

-- the collections of a step: at most one more, told with its number, and none where it was refused
abbrev pub Adds : (step : ℕ) → (old new : List Event) → Outcome → Type 0
Adds step old new outcome.Running = OneMore step old new
Adds step old new (outcome.Printed v) = OneMore step old new
Adds step old new outcome.Done = OneMore step old new
Adds step old new (outcome.Trap kind line) = new ≡ old
Adds step old new outcome.InputFault = new ≡ old
Adds step old new outcome.Memory = new ≡ old

-- the whole steps behind one more, which isn't whole where it was refused
abbrev pub behind : (steps : ℕ) → Outcome → ℕ
behind steps outcome.Running = steps + 1
behind steps (outcome.Printed v) = steps + 1
behind steps outcome.Done = steps + 1
behind steps (outcome.Trap kind line) = steps
behind steps outcome.InputFault = steps
behind steps outcome.Memory = steps

-- how a run stands where telling a collection went well, or has ended it
abbrev pub ended_by : {A : Type 0} → Result A Ended → Ended
ended_by (Ok x) = ended.Spent
ended_by (Err e) = e

-- for want of memory, or by a fault of the notes
abbrev pub IsUntold : Ended → Type 0
IsUntold e = (e ≡ ended.Memory) ⊎ (e ≡ ended.OutputFault)

-- what the notes have taken of a line that ended a run: nothing where no memory was found, and a part after a fault
abbrev pub CutsLine : Ended → (old new : Option (List ℕ)) → (bytes : List ℕ) → Type 0
CutsLine ended.Done old new bytes = ⊥
CutsLine ended.Spent old new bytes = ⊥
CutsLine (ended.Trap kind line) old new bytes = ⊥
CutsLine ended.InputFault old new bytes = ⊥
CutsLine ended.OutputFault old new bytes = AppendsPart old new bytes
CutsLine ended.Memory old new bytes = new ≡ old

-- What the output has taken of a step, and whether the run goes on behind it or how it ends: by the step itself, or because its line wasn't taken
-- or its collection wasn't told.
abbrev pub Gives : {A : Type 0} → Outcome → Result A Ended → (old new : Option (List ℕ)) → Type 0
Gives outcome.Running result old new = (new ≡ old) × IfErr result IsUntold
Gives (outcome.Printed v) result old new =
    (Appends old new (line_text v) × IfErr result IsUntold) ⊎ (AppendsPart old new (line_text v) × IsErrAnd result (λ e. e ≡ ended.OutputFault))
Gives outcome.Done result old new = (new ≡ old) × IsErrAnd result (λ e. (e ≡ ended.Done) ⊎ IsUntold e)
Gives (outcome.Trap kind line) result old new = (new ≡ old) × IsErrAnd result (λ e. e ≡ ended.Trap kind line)
Gives outcome.InputFault result old new = (new ≡ old) × IsErrAnd result (λ e. e ≡ ended.InputFault)
Gives outcome.Memory result old new = (new ≡ old) × IsErrAnd result (λ e. e ≡ ended.Memory)

-- the lines still go where they went
abbrev pub IsLent : {O R : Type 0} → Sinks O R → Sinks O R → Type 0
IsLent old new = (new.out.ghost_name ≡ old.out.ghost_name) × (new.notes.ghost_name ≡ old.notes.ghost_name)

-- a run as a whole of what was asked for, by what its output has taken
abbrev pub WholeRunOf : {O R : Type 0} → Task → (O → Option (List ℕ)) → (old new : Sinks O R) → Kept → Ended → (still : Type 0) → (first last : Asks)
    → (before after : List ℕ) → Type 0
WholeRunOf task taken old new m result still first last before after =
    WholeRun task.accepted.now.program task.code.now task.n (taken old.out.now) (taken new.out.now) m result still first last before after

-- from which count a fault comes: that of an input, or of the output or the notes
abbrev pub CausedIn : {O R : Type 0} → (O → ℕ) → (R → ℕ) → Ended → (source_old source_new : ℕ) → (old new : Sinks O R) → Type 0
CausedIn out notes result source_old source_new old new =
    Caused result source_old source_new (out old.out.now) (out new.out.now) (notes old.notes.now) (notes new.notes.now)

-- What a run leaves beside that: whether it has begun, and a machine at its start where it hasn't, whether what is kept moves, as before, what the
-- notes have taken of its collections, and what it told the pacers and asked of them.
pub record Leaves {O R : Type 0} (taken : R → Option (List ℕ)) (task : Task) (result : Ended) (old new : Inside) (sinks_old sinks_new : Sinks O R)
    (first last : Asks) : Type 0 where
  pub begun : result ≢ ended.Memory → new.begun ≡ true
  pub kept : new.begun ≡ false → IsAtStart new.stepper × (new.steps ≡ 0)
  pub slides : new.stepper.slides ≡ old.stepper.slides
  pub notes : Reports task.report result new.stepper.events (taken sinks_old.notes.now) (taken sinks_new.notes.now)
  pub tuned : SameTuned first last
  pub yeses : YesesTold new.stepper.events first last
  pub lent : IsLent sinks_old sinks_new
