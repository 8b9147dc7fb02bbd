-- How often a call asked the pacers, from what the run on the machine has told.
use Rattle.std.proofs.Common.{◌≡◌, ◌⊎◌, ℕ, true, inl, inr, List, [], Option, Some, None, count_by, refl, sym, ◌∙◌, ap, subst, arith}
use Rattle.rg_base.specs.declared.event.Event.{Event}
use Rattle.rg_base.specs.declared.outcome.Ended.{Ended}
use Rattle.rg_base.specs.declared.outcome.Ended.TheVariants as ended
use Rattle.rg_base.specs.declared.words.Manager.{Manager}
use Rattle.rg_base.specs.declared.words.Manager.TheVariants.{Count, Trace}
use Rattle.rg_io.specs.Files.{Told}
use Rattle.rg_tree.specs.Rows.Tables.{Tables}
use Rattle.rg_tree.specs.Rows.RowTrees.{program_of}
use Rattle.rg_rules.specs.Acceptance.{Accepted}
use Rattle.rg_rules.specs.Runs.{opening, plain}
use Rattle.rg_rules.specs.State.{State}
use Rattle.rg_code.specs.Code.{Code}
use Rattle.rg_code.specs.Lowering.{Lowers}
use Rattle.rg_plain.specs.Runs.{RunShows}
use Rattle.rg_pace.specs.Asked.{Asked, with_tune}
use Rattle.rg_run.specs.Asked.{Asks, YesesTold, both, paced_by, raised}
use Rattle.rg_run.specs.Collected.{Tells}
use Rattle.rg_run.specs.Machine.{Kept, IsFresh, Shows, ShowsAt}
use Rattle.rg_run.specs.Sound.{Stands}
use Rattle.rg_run.specs.Whole.{WholeRun}
use Rattle.rg_run.proofs.Run.{run-of}
use Rattle.rg_run.proofs.Sound.{stands-shown}
use Rattle.rg_commands.specs.Asked.{IsQuiet, RunAsks, SayYes, Unasked, YesesOf, status_of_ended, tuned_to}
use Rattle.rg_words.specs.declared.status.Status.{Status}
use Rattle.rg_words.specs.declared.status.Status.TheVariants as status
use Rattle.rg_words.specs.Statuses.{is_cut_off}
use Rattle.rg_words.specs.Commands.{Command, Origin}
use Rattle.rg_words.specs.Answers.{Answer, ForInput, PutLine}
use Rattle.rg_sources.specs.Sources.{Sources, Runs}
use Rattle.rg_when.specs.Scheduled.{SettlesBy}
use Rattle.rg_commands.specs.Settled.{DoesCommand, RanFrom, RunAsked, SettlesCommand}
use Rattle.rg_commands.proofs.Ran.{run-from}

-- a run stands on the machine behind its whole steps, as it does behind all that were allowed
stands-whole : (t : Tables) (input : List ℕ) (n : ℕ) (m : Kept) → Accepted (program_of t) → Shows t m (plain (program_of t) input n).state →
    m.steps ≡ (plain (program_of t) input n).steps → Tells (program_of t) input m.steps m.stepper.events → Stands t input m.steps m
stands-whole t input n m accepted shows steps told =
    let w = run-of (program_of t).classes n 0 (opening (program_of t) input) in
    let made : m.steps ≡ w.0 = omega (arith, steps, w.1.steps) in
    let same : m.steps ≡ (plain (program_of t) input w.0).steps = omega (arith, made, w.1.made_steps) in
    let P : ℕ → Type 0 = λ q. Stands t input q m in
    let Q : State → Type 0 = λ s. Shows t m s in
    subst P (sym made) (stands-shown t input w.0 m accepted (subst Q (sym w.1.state) shows) same told)

stands-at : (t : Tables) (input : List ℕ) (n : ℕ) (m : Kept) (rest : List ℕ) (old new : Option (List ℕ)) (e : Ended) → Accepted (program_of t) →
    RunShows t (opening (program_of t) input) n m.steps (ShowsAt t m rest) old new e → Tells (program_of t) input m.steps m.stepper.events →
    Stands t input m.steps m
stands-at t input n m rest old new ended.Done a h told = stands-whole t input n m a h.shows.0 h.steps_are told
stands-at t input n m rest old new ended.Spent a h told = stands-whole t input n m a h.shows.0 h.steps_are told
stands-at t input n m rest old new (ended.Trap kind line) a h told = stands-whole t input n m a h.shows.0 h.steps_are told
stands-at t input n m rest old new ended.InputFault a h told = stands-shown t input m.steps m a h.stands.shows.0 (sym h.stands.made) told
stands-at t input n m rest old new ended.OutputFault a h told = stands-shown t input m.steps m a h.stands.shows.0 (sym h.stands.made) told
stands-at t input n m rest old new ended.Memory a h told = stands-shown t input m.steps m a h.stands.shows.0 (sym h.stands.made) told

-- a pacer that is as it was is quiet
pub quiet-same : (old new : Asked) → new ≡ old → IsQuiet old new
quiet-same old new e = e ∙ ap (with_tune old) (sym (ap (λ (a : Asked). a.tuned) e))

-- no run has begun, and the pacers are as they were
pub unasked : (m : Kept) (every : ℕ) (a : Asks) → IsFresh m → Unasked m (tuned_to every a) a
unasked m every a fresh = record { fresh = fresh; count = refl; trace = refl }

-- the source of an input has some bytes
pub some-input : (left : Option (List ℕ)) (P : List ℕ → Type 0) → ((input : List ℕ) → P input) → ForInput left P
some-input None P h = ([], tt, h [])
some-input (Some bytes) P h = (bytes, refl, h bytes)

-- one that has nothing left has none
pub on-empty : (P : List ℕ → Type 0) → ForInput (Some []) P → P []
on-empty P h = subst P (sym h.1) h.2

-- a run on the machine
pub asked-from : (origin : Origin) (n : ℕ) (source : Sources) (input rest : List ℕ) (t : Tables) (code : Code) (m : Kept) (e : Ended)
    (old new : Option (List ℕ)) (quiet : Type 0) (first last : Asks) → Lowers (program_of t) code → Runs origin source (program_of t) →
    WholeRun t code n old new m e quiet first last input rest → RunAsked origin source input (status_of_ended e) m first last
asked-from origin n source input rest t code m e old new quiet first last lowers runs h =
    elim h.ran [
      | inl none ↦ (let same = h.unasked none.fresh.begun in inl (record {
        fresh = none.fresh;
        count = quiet-same first.count last.count (ap (λ (a : Asks). a.count) same);
        trace = quiet-same first.trace last.trace (ap (λ (a : Asks). a.trace) same);
      }))
      | inr ran ↦ inr (record {
        tables = t;
        runs = runs;
        stands = stands-at t input n m rest old new e runs.accepted ran.run h.told;
        count = h.asked.count;
        trace = h.asked.trace;
        code = code;
        lowers = lowers;
        ended = e;
        ends = inl refl;
        rest = rest;
        states = h.states ran.begun;
      })
    ]

-- what it has answered, and how it asked the pacers, on the same bytes
pub ran-both : (origin : Origin) (n : ℕ) (source : Sources) (left : Option (List ℕ)) (t : Tables) (code : Code) (m : Kept) (e : Ended)
    (old new : Option (List ℕ)) (quiet still : Type 0) (first last : Asks) → (quiet → still) → Lowers (program_of t) code →
    Runs origin source (program_of t) →
    ForInput left (λ input. (rest : List ℕ) × WholeRun t code n old new m e quiet first last input rest) →
    ForInput left (λ input. RanFrom origin n source (Some input) (status_of_ended e) old new m still
    × RunAsked origin source input (status_of_ended e) m first last)
ran-both origin n source left t code m e old new quiet still first last more lowers runs h = (
  h.0,
  h.1,
  (
    run-from origin n source (Some h.0) t code m e old new quiet still first last more runs (h.0, refl, h.2),
    asked-from origin n source h.0 h.2.0 t code m e old new quiet first last lowers runs h.2.1,
  ),
)

-- pacers that were tuned first
pub asked-tuned : (origin : Origin) (source : Sources) (input : List ℕ) (s : Status) (m : Kept) (c d t u : Asked) (last : Asks) → d ≡ c → u ≡ t →
    RunAsked origin source input s m (both d u) last → RunAsked origin source input s m (both c t) last
asked-tuned origin source input s m c d t u last count trace h =
    let P : Asked → Type 0 = λ q. RunAsked origin source input s m (both q u) last in
    let Q : Asked → Type 0 = λ q. RunAsked origin source input s m (both c q) last in
    subst Q trace (subst P count h)

-- had said yes as often
pub yeses-tuned : (m : Kept) (c d e t u v : ℕ) → d ≡ c → u ≡ t → SayYes m d e u v → SayYes m c e t v
yeses-tuned m c d e t u v count trace h =
    let P : ℕ → Type 0 = λ q. SayYes m q e u v in
    let Q : ℕ → Type 0 = λ q. SayYes m c e q v in
    subst Q trace (subst P count h)

-- what is told behind a run is its status, or that the rest was cut off
pub asks-behind : (origin : Origin) (source : Sources) (input : List ℕ) (m : Kept) (s q : Status) (first last : Asks) →
    (q ≡ s) ⊎ (is_cut_off q ≡ true) → RunAsks origin source input m s first last → RunAsks origin source input m q first last
asks-behind origin source input m s q first last (inl same) h = subst (λ (x : Status). RunAsks origin source input m x first last) (sym same) h
asks-behind origin source input m s q first last (inr cut) h = record {
  tables = h.tables;
  runs = h.runs;
  stands = h.stands;
  count = h.count;
  trace = h.trace;
  code = h.code;
  lowers = h.lowers;
  ended = h.ended;
  ends = inr cut;
  rest = h.rest;
  states = h.states;
}

pub asked-behind : (origin : Origin) (source : Sources) (input : List ℕ) (m : Kept) (s q : Status) (first last : Asks) →
    (q ≡ s) ⊎ (is_cut_off q ≡ true) → RunAsked origin source input s m first last → RunAsked origin source input q m first last
asked-behind origin source input m s q first last is (inl none) = inl none
asked-behind origin source input m s q first last is (inr h) = inr (asks-behind origin source input m s q first last is h)

-- a line that was given behind a run that is done
pub line-cut : (s : Status) (line : List ℕ) (old new : Option (List ℕ)) → PutLine s line old new → (s ≡ status.Done) ⊎ (is_cut_off s ≡ true)
line-cut status.Done line old new h = inl refl
line-cut (status.Refused f) line old new h = absurd h
line-cut status.Usage line old new h = absurd h
line-cut (status.Trap kind at) line old new h = absurd h
line-cut status.Spent line old new h = absurd h
line-cut (status.Away n) line old new h = absurd h
line-cut status.SourceFault line old new h = absurd h
line-cut status.InputFault line old new h = absurd h
line-cut status.OutputFault line old new h = inr refl
line-cut status.Memory line old new h = inr refl
line-cut status.Long line old new h = absurd h

-- where no run has begun, what was answered is that, and the pacers weren't asked
pub quiet-does : (told : Option Told) (c : Command) (input : List ℕ) (s : Status) (old new : Option (List ℕ)) (m : Kept) (still : Type 0)
    (first last : Asks) → Unasked m first last → SettlesCommand told c (Some input) s old new m still →
    DoesCommand told c input s old new m still first last
quiet-does told c input s old new m still first last none (inl h) = inl (h.0, h.1, record { settles = h.2; asked = inl none })
quiet-does told c input s old new m still first last none (inr (inl u)) = inr (inl (u, none))
quiet-does told c input s old new m still first last none (inr (inr r)) = inr (inr r)

-- what was answered to a schedule on an input is that on some bytes that its source has
pub schedule-on : (expected : List ℕ → Answer) (left : Option (List ℕ)) (s : Status) (old new : Option (List ℕ)) → SettlesBy expected left s old new →
    ForInput left (λ input. SettlesBy expected (Some input) s old new)
schedule-on expected left status.Done old new h = (h.0, h.1, (h.0, refl, h.2))
schedule-on expected left (status.Refused f) old new h = (h.0, h.1, (h.0, refl, h.2))
schedule-on expected left status.Usage old new h = absurd h
schedule-on expected left (status.Trap kind line) old new h = absurd h
schedule-on expected left status.Spent old new h = (h.0, h.1, (h.0, refl, h.2))
schedule-on expected left (status.Away n) old new h = (h.0, h.1, (h.0, refl, h.2))
schedule-on expected left status.SourceFault old new h = absurd h
schedule-on expected left status.InputFault old new h = some-input left _ (λ input. h)
schedule-on expected left status.OutputFault old new h = (h.0, h.1, (h.0, refl, h.2))
schedule-on expected left status.Memory old new h = (h.0, h.1, (h.0, refl, h.2))
schedule-on expected left status.Long old new h = absurd h

-- a machine on which no run has begun has no collection
pub yeses-fresh : (m : Kept) (c d t u : ℕ) → IsFresh m → d ≡ c → u ≡ t → SayYes m c d t u
yeses-fresh m c d t u fresh count trace =
    let none : m.stepper.events ≡ [] = ap (λ s. s.events) fresh.stepper in
    let P : List Event → Type 0 = λ q. (d ≡ raised (count_by (paced_by Count) q) c) × (u ≡ raised (count_by (paced_by Trace) q) t) in
    subst P (sym none) (count, trace)

-- what a run has told of them
pub yeses-of-run : (events : List Event) (first last : Asks) (count trace : ℕ) → first.count.yeses ≡ count → first.trace.yeses ≡ trace →
    YesesTold events first last → YesesOf events Count count last.count.yeses × YesesOf events Trace trace last.trace.yeses
yeses-of-run events first last count trace count_is trace_is h = (
  h.count ∙ ap (raised (count_by (paced_by Count) events)) count_is,
  h.trace ∙ ap (raised (count_by (paced_by Trace) events)) trace_is,
)
