-- What was answered to a schedule.
use Rattle.std.proofs.Common.{◌≡◌, ◌≢◌, ◌≤◌, inl, inr, ◌∙◌, ℕ, true, length, List, [], Option, Some, None, Result, Ok, Err, refl, sym, ap, subst}
use Rattle.std.proofs.Common.{append-nil}
use Rattle.std.specs.Prelude.{slice_index_or}
use Rattle.rg_base.specs.declared.fault.Code.TheVariants.{Schedule}
use Rattle.rg_io.specs.Content.{Rose, Appends, AppendsPart}
use Rattle.rg_tree.specs.Tree.{Tree}
use Rattle.rg_code.specs.Code.{Code}
use Rattle.rg_cown.specs.Cargo.{CargoList}
use Rattle.rg_plan.specs.Plans.{PlanOf}
use Rattle.rg_sched_atomic.specs.Contents.{Content, Away, Empty, Held}
use Rattle.rg_sched.specs.Schedules.{Whole, schedule_of, taken_of}
use Rattle.rg_sched.specs.Asking.{AskedBy}
use Rattle.rg_sched.specs.Running.{Asks, CountIs, CountComes}
use Rattle.rg_sched.specs.declared.running.Behind.{Behind}
use Rattle.rg_sched.specs.declared.stop.SchedStop.{SchedStop}
use Rattle.rg_sched.specs.declared.stop.SchedStop.TheVariants as stop
use Rattle.rg_words.specs.declared.status.Status.{Status}
use Rattle.rg_words.specs.declared.status.Status.TheVariants as status
use Rattle.rg_words.specs.Statuses.{is_cut_off}
use Rattle.rg_words.specs.Answers.{Answer, ForInput, refused, CausedBeside, CausedByOutput}
use Rattle.rg_words.proofs.Written.{untouched-text}
use Rattle.rg_when.specs.Inner.Puts.{text_answer, PutsAnswer}
use Rattle.rg_when.specs.Inner.Stops.{status_of}
use Rattle.rg_when.specs.Scheduled.{Said, told_behind, kept_of, answer_behind, said_answer, schedule_answer, AnsweredPart, SettlesBy, SettlesSchedule}
use Rattle.rg_when.specs.Scheduled.{AskedFor, DoesSchedule}

-- some input, where nothing was written
pub nothing-written : (expected : List ℕ → Answer) (left old : Option (List ℕ)) → AnsweredPart expected left old old
nothing-written expected None old = ([], tt, ([], record { rest = (expected []).text; whole_is = refl }, untouched-text old old refl))
nothing-written expected (Some bytes) old =
    (bytes, refl, ([], record { rest = (expected bytes).text; whole_is = refl }, untouched-text old old refl))

-- How an answer was given

-- no memory was found
pub none-put : (a : Answer) (old : Option (List ℕ)) → PutsAnswer status.Memory a old old
none-put a old = inr (refl, ([], record { rest = a.text; whole_is = refl }, untouched-text old old refl))

module _ (n : ℕ) (a : Answer) (told : Option (List ℕ)) (is : text_answer told n ≡ a) (old : Option (List ℕ)) where
  -- there is no text
  pub away-put : told ≡ None → PutsAnswer (status.Away n) a old old
  away-put none =
      subst (λ (x : Answer). PutsAnswer (status.Away n) x old old) (ap (λ o. text_answer o n) (sym none) ∙ is) (inl (refl, untouched-text old old refl))

  module _ (text bytes : List ℕ) (new : Option (List ℕ)) (some : told ≡ Some text) (same : bytes ≡ text) where
    answered : text_answer (Some bytes) n ≡ a
    answered = ap (λ xs. text_answer (Some xs) n) same ∙ ap (λ o. text_answer o n) (sym some) ∙ is

    -- it was written
    pub text-put : Appends old new bytes → PutsAnswer status.Done a old new
    text-put put = subst (λ (x : Answer). PutsAnswer status.Done x old new) answered (inl (refl, put))

    -- or a part of it
    pub part-put : AppendsPart old new bytes → PutsAnswer status.OutputFault a old new
    part-put put = subst (λ (x : Answer). PutsAnswer status.OutputFault x old new) answered (inr (refl, put))

-- What that says

-- what is said of the schedule that the input says
abbrev pub RunOn : Tree → Code → PlanOf → List CargoList → (left : Option (List ℕ)) → Result Behind SchedStop → Type 0
RunOn t code p images left r = ForInput left (λ input. (rest : List ℕ) × CountIs t code p images (schedule_of (length p.behaviours) input) r)

-- it wasn't read to its end
pub stop-settles : (t : Tree) (code : Code) (p : PlanOf) (images : List CargoList) (keep : Option ℕ) (left old : Option (List ℕ)) (why : SchedStop) →
    RunOn t code p images left (Err why) → SettlesSchedule t p images keep left (status_of why) old old
stop-settles t code p images keep left old (stop.Bad item) h =
    let said = ap (said_answer t p images keep) h.2.1.1 ∙ ap (λ n. refused (record { code = Schedule; line = n })) (sym h.2.1.2) in
    (h.0, h.1, ([], said, untouched-text old old refl))
stop-settles t code p images keep left old stop.Spent h = (h.0, h.1, ([], ap (said_answer t p images keep) h.2.1.1, untouched-text old old refl))
stop-settles t code p images keep left old stop.InputFault h = refl
stop-settles t code p images keep left old stop.Memory h = nothing-written (schedule_answer t p images keep) left old

module _ (expected : List ℕ → Answer) (left old new : Option (List ℕ)) where
  -- a part of the text was written
  part-settles : (s : Status) (a : Answer) → is_cut_off s ≡ true → ForInput left (λ input. expected input ≡ a) → AppendsPart old new a.text
      → SettlesBy expected left s old new
  part-settles status.Done a cut h put = absurd (cc)
  part-settles (status.Refused f) a cut h put = absurd (cc)
  part-settles status.Usage a cut h put = absurd (cc)
  part-settles (status.Trap kind line) a cut h put = absurd (cc)
  part-settles status.Spent a cut h put = absurd (cc)
  part-settles (status.Away n) a cut h put = absurd (cc)
  part-settles status.SourceFault a cut h put = absurd (cc)
  part-settles status.InputFault a cut h put = absurd (cc)
  part-settles status.OutputFault a cut h put =
      let P : Answer → Type 0 = λ x. AppendsPart old new x.text in (h.0, h.1, subst P (sym h.2) put)
  part-settles status.Memory a cut h put =
      let P : Answer → Type 0 = λ x. AppendsPart old new x.text in (h.0, h.1, subst P (sym h.2) put)
  part-settles status.Long a cut h put = absurd (cc)

  -- an answer that is there whole settles what is expected
  abbrev Whole-settles : Answer → Type 0
  Whole-settles a = ForInput left (λ input. expected input ≡ a) → Appends old new a.text → SettlesBy expected left a.status old new

  kept-settles : (c : Content) (n : ℕ) → Whole-settles (kept_of c n)
  kept-settles Away n h put = (h.0, h.1, ([], h.2, put))
  kept-settles Empty n h put = (h.0, h.1, (_, h.2, put))
  kept-settles (Held c) n h put = (h.0, h.1, (_, h.2, put))

  behind-settles : (t : Tree) (p : PlanOf) (images : List CargoList) (keep : Option ℕ) (numbers : List ℕ) → Whole-settles (answer_behind t p images keep numbers)
  behind-settles t p images None numbers h put = (h.0, h.1, (_, h.2, put))
  behind-settles t p images (Some k) numbers h put =
      kept-settles (slice_index_or (told_behind t p images numbers).contents k Empty) (length numbers) h put

  given-settles : (s : Status) (a : Answer) → Whole-settles a → ForInput left (λ input. expected input ≡ a) → PutsAnswer s a old new
      → SettlesBy expected left s old new
  given-settles s a whole h (inl put) = subst (λ (x : Status). SettlesBy expected left x old new) (sym put.0) (whole h put.1)
  given-settles s a whole h (inr put) = part-settles s a put.0 h put.1

-- it was, and what is answered behind it was given to the output
pub put-settles : (t : Tree) (p : PlanOf) (images : List CargoList) (keep : Option ℕ) (left : Option (List ℕ)) (numbers : List ℕ) (s : Status)
    (old new : Option (List ℕ)) → ForInput left (λ input. schedule_of (length p.behaviours) input ≡ Whole numbers) →
    PutsAnswer s (answer_behind t p images keep numbers) old new → SettlesSchedule t p images keep left s old new
put-settles t p images keep left numbers s old new h put =
    given-settles (schedule_answer t p images keep) left old new s (answer_behind t p images keep numbers)
    (behind-settles (schedule_answer t p images keep) left old new t p images keep numbers) (h.0, h.1, ap (said_answer t p images keep) h.2) put

-- How often the pacers were asked

-- the events of all numbers asked them, whatever the call's answer came to
whole-asked : (says : Said) (t : Tree) (p : PlanOf) (images : List CargoList) (s : Status) (a b : Asks) → AskedBy t p images (taken_of says) a b
    → AskedFor says t p images s a b
whole-asked says t p images status.InputFault a b asked = (taken_of says, [], sym (append-nil (taken_of says)), asked)
whole-asked says t p images status.Memory a b asked = tt
whole-asked says t p images _ a b asked = asked

-- what running it came to
abbrev pub RunComes : Tree → Code → PlanOf → List CargoList → (left : Option (List ℕ)) → Result Behind SchedStop → (before after : Asks) → Type 0
RunComes t code p images left r a b =
    ForInput left (λ input. (rest : List ℕ) × CountComes t code p images (schedule_of (length p.behaviours) input) r a b)

pub comes-as : (t : Tree) (code : Code) (p : PlanOf) (images : List CargoList) (left : Option (List ℕ)) (r q : Result Behind SchedStop) (a b : Asks)
    → r ≡ q → RunComes t code p images left r a b → RunComes t code p images left q a b
comes-as t code p images left r q a b is h = subst (λ x. RunComes t code p images left x a b) is h

pub comes-runs : (t : Tree) (code : Code) (p : PlanOf) (images : List CargoList) (left : Option (List ℕ)) (r : Result Behind SchedStop) (a b : Asks)
    → RunComes t code p images left r a b → RunOn t code p images left r
comes-runs t code p images left r a b h = (h.0, h.1, (h.2.0, h.2.1.0))

-- no memory was found before it
pub none-does : (t : Tree) (p : PlanOf) (images : List CargoList) (keep : Option ℕ) (left old : Option (List ℕ))
    → ForInput left (λ input. SettlesSchedule t p images keep (Some input) status.Memory old old × Unit {0})
none-does t p images keep None old = ([], tt, (nothing-written (schedule_answer t p images keep) (Some []) old, tt))
none-does t p images keep (Some bytes) old = (bytes, refl, (nothing-written (schedule_answer t p images keep) (Some bytes) old, tt))

stop-asked : (t : Tree) (code : Code) (p : PlanOf) (images : List CargoList) (says : Said) (why : SchedStop) (a b : Asks)
    → CountComes t code p images says (Err why) a b → AskedFor says t p images (status_of why) a b
stop-asked t code p images says (stop.Bad item) a b h = h.1
stop-asked t code p images says stop.Spent a b h = h.1
stop-asked t code p images says stop.InputFault a b h = h.1
stop-asked t code p images says stop.Memory a b h = tt

pub stop-does : (t : Tree) (code : Code) (p : PlanOf) (images : List CargoList) (keep : Option ℕ) (left old : Option (List ℕ)) (why : SchedStop)
    (a b : Asks) → RunComes t code p images left (Err why) a b
    → ForInput left (λ input. DoesSchedule t p images keep input (status_of why) old old a b)
stop-does t code p images keep left old why a b h = (
  h.0,
  h.1,
  (
    stop-settles t code p images keep (Some h.0) old why (h.0, refl, (h.2.0, h.2.1.0)),
    stop-asked t code p images (schedule_of (length p.behaviours) h.0) why a b h.2.1,
  ),
)

pub put-does : (t : Tree) (code : Code) (p : PlanOf) (images : List CargoList) (keep : Option ℕ) (left : Option (List ℕ)) (behind : Behind)
    (s : Status) (old new : Option (List ℕ)) (a b : Asks) → (h : RunComes t code p images left (Ok behind) a b)
    → PutsAnswer s (answer_behind t p images keep h.2.1.0.0) old new → ForInput left (λ input. DoesSchedule t p images keep input s old new a b)
put-does t code p images keep left behind s old new a b h put = (
  h.0,
  h.1,
  (
    put-settles t p images keep (Some h.0) h.2.1.0.0 s old new (h.0, refl, h.2.1.0.1) put,
    whole-asked (schedule_of (length p.behaviours) h.0) t p images s a b h.2.1.1,
  ),
)

-- Causes

-- a status names a fault of the input where the stop is one
stop-input : (why : SchedStop) → status_of why ≡ status.InputFault → why ≡ stop.InputFault
stop-input (stop.Bad item) e = absurd (cc)
stop-input stop.Spent e = absurd (cc)
stop-input stop.InputFault e = refl
stop-input stop.Memory e = absurd (cc)

-- and none of the output
stop-output : (why : SchedStop) → status_of why ≡ status.OutputFault → ⊥
stop-output (stop.Bad item) e = cc
stop-output stop.Spent e = cc
stop-output stop.InputFault e = cc
stop-output stop.Memory e = cc

pub stop-caused : (r : Result Behind SchedStop) (why : SchedStop) (i j o : ℕ) → r ≡ Err why → (r ≡ Err stop.InputFault → Rose i j) →
    (r ≢ Err stop.InputFault → j ≡ i) → i ≤ j → o ≤ o → CausedBeside (status_of why) i j o o
stop-caused r why i j o is fault quiet falls same = record {
  input_fault = λ e. fault (subst (λ (w : SchedStop). r ≡ Err w) (stop-input why e) is);
  input_quiet = λ other. quiet (λ e. let stopped : why ≡ stop.InputFault = cc (sym is ∙ e) in other (ap status_of stopped));
  output_fault = λ e. absurd (stop-output why e);
  input_never_falls = falls;
  output_never_falls = same;
}

pub put-caused : (s : Status) (r : Result Behind SchedStop) (b : Behind) (i j o q : ℕ) → r ≡ Ok b → (r ≢ Err stop.InputFault → j ≡ i) → i ≤ j →
    CausedByOutput s o q → CausedBeside s i j o q
put-caused s r b i j o q is quiet falls h = record {
  input_fault = λ e. absurd (h.no_input_fault e);
  input_quiet = λ other. quiet (λ e. let lie : Ok b ≡ Err stop.InputFault = sym is ∙ e in cc);
  output_fault = h.output_fault;
  input_never_falls = falls;
  output_never_falls = h.output_never_falls;
}
