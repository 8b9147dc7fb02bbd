-- How often a call asked the pacers, and how often they said yes (docs/promises.md).
use Rattle.std.specs.Prelude.{◌≡◌, ◌⊎◌, ℕ, true, List, [], length, count_by}
use Rattle.rg_base.specs.declared.event.Event.{Event}
use Rattle.rg_base.specs.declared.words.Manager.{Manager}
use Rattle.rg_base.specs.declared.words.Manager.TheVariants.{Count, Trace}
use Rattle.rg_base.specs.declared.outcome.Ended.{Ended}
use Rattle.rg_base.specs.declared.outcome.Ended.TheVariants as ended
use Rattle.rg_tree.specs.Tree.{Tree}
use Rattle.rg_tree.specs.Rows.Tables.{Tables}
use Rattle.rg_tree.specs.Rows.RowTrees.{program_of}
use Rattle.rg_rules.specs.Outside.Asks.{asks}
use Rattle.rg_code.specs.Code.{Code}
use Rattle.rg_code.specs.Lowering.{Lowers}
use Rattle.rg_pace.specs.Asked.{Asked, with_tune}
use Rattle.rg_run.specs.Asked.{Asks, both, paced_by, raised}
use Rattle.rg_run.specs.Machine.{Kept, IsFresh}
use Rattle.rg_run.specs.Sound.{Stands}
use Rattle.rg_run.specs.States.{RunsThrough}
use Rattle.rg_words.specs.declared.status.Status.{Status}
use Rattle.rg_words.specs.declared.status.Status.TheVariants as status
use Rattle.rg_words.specs.Commands.{Origin, in_file, generated, in_module, with_plan}
use Rattle.rg_words.specs.Statuses.{is_cut_off}
use Rattle.rg_sources.specs.Sources.{Sources, Runs}

-- over the first steps of a program on an input, so many, the pacer of a manager was asked once for each of them that asks it
abbrev pub AsksOver : Tree → (input : List ℕ) → (steps : ℕ) → Manager → (old new : ℕ) → Type 0
AsksOver t input steps m old new = new ≡ raised (length (asks t input steps m)) old

-- the pacer of a manager said yes once for each of these collections that was its own
abbrev pub YesesOf : List Event → Manager → (old new : ℕ) → Type 0
YesesOf events m old new = new ≡ raised (count_by (paced_by m) events) old

-- so it is of both pacers and of all collections of a run
abbrev pub SayYes : Kept → (count_old count_new trace_old trace_new : ℕ) → Type 0
SayYes m count_old count_new trace_old trace_new =
    YesesOf m.stepper.events Count count_old count_new × YesesOf m.stepper.events Trace trace_old trace_new

-- the input of a run: that of a generated program is empty
abbrev pub input_for : Origin → List ℕ → List ℕ
input_for (in_file file) input = input
input_for (generated size) input = []
input_for (in_module file) input = input
input_for (with_plan file plan keep) input = input

-- the status of a run
abbrev pub status_of_ended : Ended → Status
status_of_ended ended.Done = status.Done
status_of_ended ended.Spent = status.Spent
status_of_ended (ended.Trap kind line) = status.Trap kind line
status_of_ended ended.InputFault = status.InputFault
status_of_ended ended.OutputFault = status.OutputFault
status_of_ended ended.Memory = status.Memory

-- how a run came to its end is what the status says, but where the call was cut off, behind the run or in it
abbrev pub EndsAs : Ended → Status → Type 0
EndsAs e s = (status_of_ended e ≡ s) ⊎ (is_cut_off s ≡ true)

-- both pacers, tuned to a number
abbrev pub tuned_to : (every : ℕ) → Asks → Asks
tuned_to every a = both (with_tune a.count every) (with_tune a.trace every)

-- a pacer may have been tuned, and nothing else: it wasn't asked, and was told nothing
abbrev pub IsQuiet : (old new : Asked) → Type 0
IsQuiet old new = new ≡ with_tune old new.tuned

-- no run has begun, and no pacer was asked
pub record Unasked (m : Kept) (first last : Asks) : Type 0 where
  pub fresh : IsFresh m
  pub count : IsQuiet first.count last.count
  pub trace : IsQuiet first.trace last.trace

-- A run of a program that comes from there stands on the machine behind its whole steps, and these asked the pacers, of which the one is what they
-- tell before the run and the other what they tell behind it.
pub record RunAsks (origin : Origin) (source : Sources) (input : List ℕ) (m : Kept) (s : Status) (first last : Asks) : Type 0 where
  pub tables : Tables
  pub runs : Runs origin source (program_of tables)
  pub stands : Stands tables input m.steps m
  pub count : AsksOver (program_of tables) input m.steps Count first.count.asks last.count.asks
  pub trace : AsksOver (program_of tables) input m.steps Trace first.trace.asks last.trace.asks
  -- its steps by the program's code, and what each of them did: the states of the machine between them, from the opening one on, and what the
  -- pacers tell there
  pub code : Code
  pub lowers : Lowers (program_of tables) code
  pub ended : Ended
  pub ends : EndsAs ended s
  pub rest : List ℕ
  pub states : RunsThrough code tables.manager m ended first last input rest
