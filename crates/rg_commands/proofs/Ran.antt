-- From what the machines have answered to what was answered to the source.
use Rattle.std.proofs.Common.{◌≡◌, ◌≤◌, ℕ, inl, inr, Bool, false, List, [], ◌++◌, Option, Some, Ok, refl, sym, ◌∙◌, ap, subst, arith}
use Rattle.std.specs.Result.{result_err}
use Rattle.rg_base.specs.declared.outcome.Ended.{Ended}
use Rattle.rg_base.specs.declared.outcome.Ended.TheVariants as ended
use Rattle.rg_tree.specs.Rows.Tables.{Tables}
use Rattle.rg_tree.specs.Rows.RowTrees.{program_of}
use Rattle.rg_rules.specs.Acceptance.{judge_program}
use Rattle.rg_rules.specs.State.{State}
use Rattle.rg_rules.specs.Runs.{Ending, Running, Done, Stopped, opening}
use Rattle.rg_rules.specs.Runs as rules
use Rattle.rg_rules.specs.Outside.Texts.{added}
use Rattle.rg_input.specs.Numbers.{Pending, Follows, OnInput}
use Rattle.rg_input.proofs.Input.{some-comes}
use Rattle.rg_code.specs.Code.{Code}
use Rattle.rg_plain.specs.Machine.{Machine, Begins, state_of}
use Rattle.rg_plain.specs.Runs.{answer, RunIs, RunShows, IsState, NoneAsks, begun, Whole, StandsAt, CutOff, CutAtInput}
use Rattle.rg_run.specs.Asked.{Asks}
use Rattle.rg_run.specs.Collected.{Tells}
use Rattle.rg_run.specs.Machine.{Kept, IsFresh, ShowsAt}
use Rattle.rg_run.specs.Sound.{Stands, NeverAsks}
use Rattle.rg_run.specs.Runs.{Caused as RunCaused}
use Rattle.rg_run.specs.Whole.{WholeRun}
use Rattle.rg_run.proofs.Sound.{run-is-sound, stands-shown}
use Rattle.rg_run.proofs.Run.{wrote-part}
use Rattle.rg_words.specs.declared.status.Status.{Status}
use Rattle.rg_words.specs.declared.status.Status.TheVariants as status
use Rattle.rg_words.specs.Commands.{run, plain, exec, Origin, in_file, in_module}
use Rattle.rg_words.specs.Answers.{HasInput, ForInput}
use Rattle.rg_sources.specs.Sources.{Sources, spelt, MeansFrom, Runs}
use Rattle.rg_commands.specs.Expected.{status_of}
use Rattle.rg_commands.specs.CutOff.{StandsAfter, CutOffAt, AsksAfter}
use Rattle.rg_commands.specs.Settled.{Caused, status_of_ended, RanWhole, RanBeside, RanFrom, Settles}

-- what a call on fresh numbers is told of the input holds of bytes that the source has
pub on-input : (n new : Pending) (left behind : Option (List ℕ)) (P : List ℕ → List ℕ → Type 0) → n ≡ record { held = []; ended = false } →
    Follows new behind → OnInput n new left behind P → ForInput left (λ input. (rest : List ℕ) × P input rest)
on-input n new left behind P is follows h =
    let Q : Pending → Type 0 = λ q. OnInput q new left behind P in
    let told : OnInput (record { held = []; ended = false }) new left behind P = subst Q is h in
    let c = some-comes new behind follows in
    let here = told.2 c.0 c.1 in
    (told.0 ++ c.0, here.0.told, (new.held ++ c.0, here.1))

-- the status of a run by its ending
status-answer : (e : Ending) → status_of_ended (answer e) ≡ status_of e
status-answer Running = refl
status-answer Done = refl
status-answer (Stopped kind line) = refl

-- a status names a fault where its ending does
pub input-ended : (e : Ended) → status_of_ended e ≡ status.InputFault → e ≡ ended.InputFault
input-ended ended.InputFault is = refl
input-ended ended.Done is = absurd cc
input-ended ended.Spent is = absurd cc
input-ended (ended.Trap kind line) is = absurd cc
input-ended ended.OutputFault is = absurd cc
input-ended ended.Memory is = absurd cc

pub output-ended : (e : Ended) → status_of_ended e ≡ status.OutputFault → e ≡ ended.OutputFault
output-ended ended.OutputFault is = refl
output-ended ended.Done is = absurd cc
output-ended ended.Spent is = absurd cc
output-ended (ended.Trap kind line) is = absurd cc
output-ended ended.InputFault is = absurd cc
output-ended ended.Memory is = absurd cc

pub caused-by : (e : Ended) (i j o p n m : ℕ) → RunCaused e i j o p n m → Caused (status_of_ended e) i j o p n m
caused-by e i j o p n m h = record {
  input_fault = λ is. h.input_fault (input-ended e is);
  input_quiet = λ other. h.source_quiet (λ is. other (ap status_of_ended is));
  output_fault = λ is. h.output_fault (output-ended e is);
  input_never_falls = h.source_never_falls;
  output_never_falls = h.sink_never_falls;
  notes_never_fall = h.notes_never_fall;
}

module _ (origin : Origin) (n : ℕ) (source : Sources) (left : Option (List ℕ)) (t : Tables) (runs : Runs origin source (program_of t)) (input : List ℕ)
    (is : HasInput left input) (k : ℕ) (Shown : State → Type 0) (old new : Option (List ℕ)) where
  answered : (e : Ended) (s : Status) → status_of_ended e ≡ s → Whole t (opening (program_of t) input) n k Shown old new e →
      s ≡ status_of (rules.plain (program_of t) input n).ending
  answered e s same w = sym same ∙ ap status_of_ended w.answer_is ∙ status-answer (rules.plain (program_of t) input n).ending

  asks_after : CutAtInput t (opening (program_of t) input) n k Shown old new → AsksAfter (program_of t) input n k old new
  asks_after c = record {
    before = c.before;
    made = c.stands.made;
    asks = c.asks;
    wrote = c.wrote;
    sound = run-is-sound (program_of t) runs.accepted input k;
  }

module _ (file : List ℕ) (n : ℕ) (source : Sources) (left : Option (List ℕ)) (t : Tables) (runs : Runs (in_file file) source (program_of t))
    (input : List ℕ) (is : HasInput left input) (k : ℕ) (Shown : State → Type 0) (old new : Option (List ℕ)) where
  beside : (m : Kept) (still : Type 0) (unread : NeverAsks (program_of t) input n → still) (e : Ended) (s : Status) → IsFresh m →
      status_of_ended e ≡ s → Whole t (opening (program_of t) input) n k Shown old new e →
      RanBeside file n source left s old new m still
  beside m still unread e s fresh same w = record {
    tree = program_of t;
    runs = runs;
    input = input;
    input_is = is;
    status_is = answered (in_file file) n source left t runs input is k Shown old new e s same w;
    wrote = w.text_is;
    fresh = fresh;
    unread = unread;
  }

  beside_cut : (m : Kept) (still : Type 0) → (NeverAsks (program_of t) input n → still) → IsFresh m →
      CutOff t (opening (program_of t) input) n k Shown old new →
      ForInput left (λ input. CutOffAt (plain file n) source input m old new still)
  beside_cut m still unread fresh h = (
    input,
    is,
    (
      program_of t,
      runs,
      fresh,
      wrote-part t input k n old new h.stands.within h.wrote,
      run-is-sound (program_of t) runs.accepted input n,
      unread,
    ),
  )

  pub beside-settles : (m : Kept) (still : Type 0) → (NeverAsks (program_of t) input n → still) → (e : Ended) → IsFresh m →
      RunShows t (opening (program_of t) input) n k Shown old new e →
      Settles (plain file n) source left (status_of_ended e) old new m still
  beside-settles m still unread ended.Done fresh h = beside m still unread ended.Done status.Done fresh refl h
  beside-settles m still unread ended.Spent fresh h = beside m still unread ended.Spent status.Spent fresh refl h
  beside-settles m still unread (ended.Trap kind line) fresh h = beside m still unread (ended.Trap kind line) (status.Trap kind line) fresh refl h
  beside-settles m still unread ended.InputFault fresh h =
      (input, is, (program_of t, runs, fresh, k, asks_after (in_file file) n source left t runs input is k Shown old new h))
  beside-settles m still unread ended.OutputFault fresh h = inr (beside_cut m still unread fresh h)
  beside-settles m still unread ended.Memory fresh h = inr (beside_cut m still unread fresh h)

module _ (origin : Origin) (n : ℕ) (source : Sources) (left : Option (List ℕ)) (t : Tables) (runs : Runs origin source (program_of t)) (input : List ℕ)
    (is : HasInput left input) (m : Kept) (rest : List ℕ) (old new : Option (List ℕ)) (still : Type 0)
    (unread : NeverAsks (program_of t) input n → still) (told : Tells (program_of t) input m.steps m.stepper.events) where
  whole : (e : Ended) (s : Status) → status_of_ended e ≡ s → Whole t (opening (program_of t) input) n m.steps (ShowsAt t m rest) old new e →
      RanWhole origin n source left s old new m still
  whole e s same w = record {
    tables = t;
    runs = runs;
    input = input;
    input_is = is;
    status_is = answered origin n source left t runs input is m.steps (ShowsAt t m rest) old new e s same w;
    wrote = w.text_is;
    stands = stands-shown t input n m runs.accepted w.shows.0 w.steps_are told;
    unread = unread;
  }

  stands : StandsAt t (opening (program_of t) input) n m.steps (ShowsAt t m rest) → Stands t input m.steps m
  stands c = stands-shown t input m.steps m runs.accepted c.shows.0 (sym c.made) told

  stands_after : CutOff t (opening (program_of t) input) n m.steps (ShowsAt t m rest) old new →
      StandsAfter t input n m.steps m (added t (opening (program_of t) input) m.steps) old new
  stands_after c = record { within = c.stands.within; made = c.stands.made; stands = stands c.stands; wrote = c.wrote }

  ran-from : (e : Ended) → RunShows t (opening (program_of t) input) n m.steps (ShowsAt t m rest) old new e →
      RanFrom origin n source left (status_of_ended e) old new m still
  ran-from ended.Done h = whole ended.Done status.Done refl h
  ran-from ended.Spent h = whole ended.Spent status.Spent refl h
  ran-from (ended.Trap kind line) h = whole (ended.Trap kind line) (status.Trap kind line) refl h
  ran-from ended.InputFault h =
      (input, is, (t, runs, stands h.stands, asks_after origin n source left t runs input is m.steps (ShowsAt t m rest) old new h))
  ran-from ended.OutputFault h = inr (input, is, (t, runs, stands_after h, unread))
  ran-from ended.Memory h = inr (input, is, (t, runs, stands_after h, unread))

-- a run on the machine
pub run-from : (origin : Origin) (n : ℕ) (source : Sources) (left : Option (List ℕ)) (t : Tables) (code : Code) (m : Kept) (e : Ended)
    (old new : Option (List ℕ)) (quiet still : Type 0) (first last : Asks) → (quiet → still) → Runs origin source (program_of t) →
    ForInput left (λ input. (rest : List ℕ) × WholeRun t code n old new m e quiet first last input rest) →
    RanFrom origin n source left (status_of_ended e) old new m still
run-from origin n source left t code m e old new quiet still first last more runs h = elim h.2.1.ran [
  | inl none ↦
      let P : Ended → Type 0 = λ q. RanFrom origin n source left (status_of_ended q) old new m still in
      subst P (sym none.answer_is) (inl (none.fresh, none.untouched, more none.unread))
  | inr ran ↦ ran-from origin n source left t runs h.0 h.1 m h.2.0 old new still (λ none. more (ran.unread none)) h.2.1.told e ran.run
]

-- is what `run` or `slide` has answered, where the program comes from a file
pub run-settles : (slides : Bool) (file : List ℕ) (n every : ℕ) (report : Bool) (source : Sources) (left : Option (List ℕ)) (s : Status)
    (old new : Option (List ℕ)) (m : Kept) (still : Type 0) →
    RanFrom (in_file file) n source left s old new m still → Settles (run slides file n every report) source left s old new m still
run-settles slides file n every report source left status.Done old new m still h = h
run-settles slides file n every report source left (status.Refused f) old new m still h = absurd h
run-settles slides file n every report source left status.Usage old new m still h = h
run-settles slides file n every report source left (status.Trap kind line) old new m still h = h
run-settles slides file n every report source left status.Spent old new m still h = h
run-settles slides file n every report source left (status.Away k) old new m still h = absurd h
run-settles slides file n every report source left status.SourceFault old new m still h = h
run-settles slides file n every report source left status.InputFault old new m still h = h
run-settles slides file n every report source left status.OutputFault old new m still h = h
run-settles slides file n every report source left status.Memory old new m still h = h
run-settles slides file n every report source left status.Long old new m still h = absurd h

-- and what `exec` has answered, where it comes from a module
pub exec-settles : (file : List ℕ) (n every : ℕ) (report : Bool) (source : Sources) (left : Option (List ℕ)) (s : Status)
    (old new : Option (List ℕ)) (m : Kept) (still : Type 0) →
    RanFrom (in_module file) n source left s old new m still → Settles (exec file n every report) source left s old new m still
exec-settles file n every report source left status.Done old new m still h = h
exec-settles file n every report source left (status.Refused f) old new m still h = absurd h
exec-settles file n every report source left status.Usage old new m still h = h
exec-settles file n every report source left (status.Trap kind line) old new m still h = h
exec-settles file n every report source left status.Spent old new m still h = h
exec-settles file n every report source left (status.Away k) old new m still h = absurd h
exec-settles file n every report source left status.SourceFault old new m still h = h
exec-settles file n every report source left status.InputFault old new m still h = h
exec-settles file n every report source left status.OutputFault old new m still h = h
exec-settles file n every report source left status.Memory old new m still h = h
exec-settles file n every report source left status.Long old new m still h = absurd h

-- a program that the checker has passed
pub runs-checked : (origin : Origin) (source : Sources) (t u : Tables) → u ≡ t → MeansFrom origin source (spelt (program_of t)) →
    judge_program (program_of t) ≡ Ok tt → Runs origin source (program_of u)
runs-checked origin source t u same means judged =
    let P : Tables → Type 0 = λ q. Runs origin source (program_of q) in
    subst P (sym same) (record { means = means; accepted = ap result_err judged })

-- a run on a machine of its own
pub plain-settles : (file : List ℕ) (n k : ℕ) (source : Sources) (left : Option (List ℕ)) (t u : Tables) (start new_machine : Machine)
    (m : Kept) (e : Ended) (old new : Option (List ℕ)) (quiet still : Type 0) → (quiet → still) → t ≡ u →
    Runs (in_file file) source (program_of u) → IsFresh m →
    Begins t start → begun e k ≤ n →
    ForInput left (λ input. (rest : List ℕ) × (RunIs t (state_of t start input) n k new_machine rest old new e
    × (NoneAsks t (state_of t start input) (begun e k) → quiet))) →
    Settles (plain file n) source left (status_of_ended e) old new m still
plain-settles file n k source left t u start new_machine m e old new quiet still more same runs fresh begins within h =
    let P : State → Type 0 = λ s. RunIs t s n k new_machine h.2.0 old new e in
    let N : State → Type 0 = λ s. NoneAsks t s (begun e k) → quiet in
    let Q : Tables → Type 0 = λ q. Runs (in_file file) source (program_of q) in
    beside-settles file n source left t (subst Q (sym same) runs) h.0 h.1 k (IsState t new_machine h.2.0) old new m still
    (λ none. more (subst N (begins.state h.0) h.2.1.1 (λ j l. none j (omega (arith, within))))) e fresh (subst P (begins.state h.0) h.2.1.0)

-- on the bytes that are meant
pub plain-on : (file : List ℕ) (n k : ℕ) (source : Sources) (left : Option (List ℕ)) (t u : Tables) (start new_machine : Machine)
    (m : Kept) (e : Ended) (old new : Option (List ℕ)) (quiet still : Type 0) → (quiet → still) → t ≡ u →
    Runs (in_file file) source (program_of u) → IsFresh m →
    Begins t start → begun e k ≤ n →
    ForInput left (λ input. (rest : List ℕ) × (RunIs t (state_of t start input) n k new_machine rest old new e
    × (NoneAsks t (state_of t start input) (begun e k) → quiet))) →
    ForInput left (λ input. Settles (plain file n) source (Some input) (status_of_ended e) old new m still)
plain-on file n k source left t u start new_machine m e old new quiet still more same runs fresh begins within h = (
  h.0,
  h.1,
  plain-settles file n k source (Some h.0) t u start new_machine m e old new quiet still more same runs fresh begins within (h.0, refl, h.2),
)
