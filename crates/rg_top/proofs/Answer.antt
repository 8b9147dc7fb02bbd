-- From what the layers under the top call have answered to the words of the headline.
use Rattle.std.proofs.Common.{◌≡◌, ◌≢◌, ℕ, suc, ◌<◌, ◌≤◌, ◌⊎◌, inl, inr, Bool, true, false, List, length, replicate, Option, Some, None, refl, sym}
use Rattle.std.proofs.Common.{[], ◌∙◌, ap, subst, arith}
use Rattle.std.specs.Bool.{OnTrue, OnFalse}
use Rattle.std.proofs.lemmas.List.{length-replicate, append-nil}
use Rattle.rg_base.specs.declared.fault.Fault.{Fault}
use Rattle.rg_io.specs.Content.{Rose}
use Rattle.rg_io.specs.Files.{Told, BegunAre}
use Rattle.rg_io.proofs.Content.{Rose-since}
use Rattle.rg_run.specs.Asked.{Asks}
use Rattle.rg_run.specs.Machine.{Kept, IsFresh, numbers_of}
use Rattle.rg_words.specs.declared.status.Status.{Status}
use Rattle.rg_words.specs.declared.status.Status.TheVariants as status
use Rattle.rg_words.specs.Commands.{Command, command, origin_of, runs_on, may_run, reads_input, may_read, opens_file, may_open}
use Rattle.rg_words.specs.Commands.{may_schedule, is_scheduled, every_of, keep_of}
use Rattle.rg_words.specs.Commands.{run, plain, fmt, check, code, pack, bulk, exec, when}
use Rattle.rg_words.specs.Statuses.{is_answer, is_refusal, is_cut_off, is_from_outside, IsBadSchedule}
use Rattle.rg_words.specs.Answers.{HasInput, ForInput}
use Rattle.rg_rules.specs.Acceptance.{first_fault}
use Rattle.rg_sources.specs.Sources.{Sources, HasSource, Meaning, too_long, faulty, spelt, planned}
use Rattle.rg_sources.specs.Opens.{Opens}
use Rattle.rg_commands.specs.Expected.{ExpectsStatus}
use Rattle.rg_commands.specs.CutOff.{Untouched, CutOffAt, CutAtInput}
use Rattle.rg_commands.specs.Asked.{Unasked, input_for, tuned_to}
use Rattle.rg_commands.specs.Settled.{RanSchedule, Settles, SettlesSchedule, Unread, source_fault, memory, SettlesCommand, Does, DoesCommand, RunAsked}
use Rattle.rg_commands.specs.Settled.{Tunes, Chooses}
use Rattle.rg_commands.proofs.Asked.{asked-behind}
use Rattle.rg_commands.proofs.Meaning.{expects-one, plan-needed, refusal-any}
use Rattle.rg_top.specs.Headline.{ForSource, Exactly, ExactlyWhere, Answers, IsExpected, MayTell, UnlessSchedule, OpensBy, Chosen, FaultsRose}
use Rattle.rg_top.specs.Headline.{IfAccepted, IsMachineOf, Leaves}
use Rattle.rg_commands.specs.Laws.{OneAnswer}
use Rattle.rg_top.specs.Inner.Told.{Becomes}
use Rattle.rg_top.proofs.Settled.{answers-of, cut-of, status-of, schedule-of, schedule-cut, schedule-input, schedule-status, schedule-refused}
use Rattle.rg_top.proofs.NoteLines.{rose-then}

-- facts on the status that the layers under the top call gave, on an output fault and on want of memory hold of what was told
pub told-status : (P : Status → Type 0) (given answer : Status) → P given → P status.OutputFault → P status.Memory → Becomes given answer → P answer
told-status P given answer h o m (inl e) = subst P (sym e) h
told-status P given answer h o m (inr (inl e)) = subst P (sym e) o
told-status P given answer h o m (inr (inr e)) = subst P (sym e) m

-- a fact that holds under a test leads to another
pub on-true : (P Q : Type 0) (b : Bool) → OnTrue b P → (P → Q) → OnTrue b Q
on-true P Q true h f = f h
on-true P Q false h f = tt

-- a fact holds under any test
pub on-fact : (b : Bool) (P : Type 0) → P → OnTrue b P
on-fact true P h = h
on-fact false P h = tt

unread-answer : (told : Option Told) (c : Command) (s : Status) (P : Type 0) → Unread told c s → OnTrue (is_answer s) P
unread-answer told c s P source_fault = tt
unread-answer told c s P memory = tt

unread-outside : (told : Option Told) (c : Command) (s : Status) → Unread told c s → is_from_outside s ≡ true
unread-outside told c s source_fault = refl
unread-outside told c s memory = refl

-- what was answered to a file, by its source
module _ (told : Option Told) (left : Option (List ℕ)) (words : List (List ℕ)) (c : Command) (s : Status) (old new : Option (List ℕ)) (m : Kept)
    (still : Type 0) (asked : command words ≡ Some c) where
  for-source : (P : Command → Sources → List ℕ → Type 0) (source : Sources) → HasSource told (origin_of c) source → ForInput left (P c source) →
      ForSource told left words P
  for-source P source has h = (c, source, asked, has, h)

  -- a fact on the bytes that are meant, with another one on them
  with-asked : (P Q : Command → Sources → List ℕ → Type 0) (input : List ℕ) → HasInput left input → (source : Sources) → HasSource told (origin_of c) source →
      ForInput (Some input) (P c source) → Q c source input → ForSource told left words (λ d source bytes. P d source bytes × Q d source bytes)
  with-asked P Q input is source has h q = (c, source, asked, has, (input, is, (subst (P c source) (sym h.1) h.2, q)))

  module _ (input : List ℕ) (is : HasInput left input) (before behind : Asks) where
    -- how the pacers were asked, where they were tuned first
    abbrev AskedOn : Command → Sources → List ℕ → Type 0
    AskedOn d source bytes =
        is_scheduled d ≡ false → RunAsked (origin_of d) source (input_for (origin_of d) bytes) s m (tuned_to (every_of d) before) behind

    asked-on : (source : Sources) → Does c source input s old new m still (tuned_to (every_of c) before) behind → AskedOn c source input
    asked-on source h off = h.asked

    unscheduled : (r : RanSchedule told c (Some input) s old new m) → AskedOn c r.source input
    unscheduled r off =
        let lie : true ≡ false = sym (plan-needed c r.source r.tree r.plan r.images r.means) ∙ off in absurd (cc)

    file-answers : DoesCommand told c input s old new m still (tuned_to (every_of c) before) behind →
        OnTrue (is_answer s) (ForSource told left words (λ d source bytes. Answers d source bytes s old new m still × AskedOn d source bytes))
    file-answers (inl h) =
        on-true _ _ (is_answer s) (answers-of c h.0 (Some input) s old new m still h.2.settles)
        (λ a. with-asked (λ d source bytes. Answers d source bytes s old new m still) AskedOn input is h.0 h.1 a (asked-on h.0 h.2))
    file-answers (inr (inl u)) = unread-answer told c s _ u.0.0
    file-answers (inr (inr r)) =
        on-true _ _ (is_answer s) (schedule-of told c (Some input) s old new m still r)
        (λ a. with-asked (λ d source bytes. Answers d source bytes s old new m still) AskedOn input is r.source r.has a (unscheduled r))

    file-cut : DoesCommand told c input s old new m still (tuned_to (every_of c) before) behind →
        Untouched m old new still
        ⊎ ForSource told left words (λ d source bytes. CutOffAt d source bytes m old new still × AskedOn d source bytes)
    file-cut (inl h) = elim (cut-of c h.0 (Some input) s old new m still h.2.settles) [
      | inl u ↦ inl u
      | inr k ↦ inr (with-asked (λ d source bytes. CutOffAt d source bytes m old new still) AskedOn input is h.0 h.1 k (asked-on h.0 h.2))
    ]
    file-cut (inr (inl u)) = inl u.0.1
    file-cut (inr (inr r)) =
        inr (with-asked (λ d source bytes. CutOffAt d source bytes m old new still) AskedOn input is r.source r.has
        (schedule-cut told c (Some input) s old new m still r) (unscheduled r))

    file-input : s ≡ status.InputFault → DoesCommand told c input s old new m still (tuned_to (every_of c) before) behind →
        ForSource told left words (λ d source bytes. CutAtInput d source bytes m old new × AskedOn d source bytes)
    file-input e (inl h) =
        let P : Status → Type 0 = λ x. Settles c h.0 (Some input) x old new m still in
        with-asked (λ d source bytes. CutAtInput d source bytes m old new) AskedOn input is h.0 h.1 (subst P e h.2.settles) (asked-on h.0 h.2)
    file-input e (inr (inr r)) =
        let P : Status → Type 0 = λ x. SettlesSchedule r.tree r.plan r.images (keep_of c) (Some input) x old new in
        with-asked (λ d source bytes. CutAtInput d source bytes m old new) AskedOn input is r.source r.has
        (schedule-input told c (Some input) old new m (record {
          source = r.source;
          has = r.has;
          tree = r.tree;
          plan = r.plan;
          images = r.images;
          means = r.means;
          settles = subst P e r.settles;
          fresh = r.fresh;
        })) (unscheduled r)
    file-input e (inr (inl u)) = absurd (go s u.0.0 e)
      where
        go : (x : Status) → Unread told c x → x ≢ status.InputFault
        go x source_fault e = cc
        go x memory e = cc

  -- what is expected, where nothing was cut off
  file-status : SettlesCommand told c left s old new m still →
      ForSource told left words (λ d source input. ExpectsStatus d source input s) ⊎ (is_from_outside s ≡ true)
  file-status (inl h) = elim (status-of c h.0 left s old new m still h.2) [ inl e ↦ inl (for-source _ h.0 h.1 e) | inr o ↦ inr o ]
  file-status (inr (inl u)) = inr (unread-outside told c s u.0)
  file-status (inr (inr r)) = elim (schedule-status told c left s old new m r) [ inl e ↦ inl (for-source _ r.source r.has e) | inr o ↦ inr o ]

answer-inside : (s : Status) → is_answer s ≡ true → is_from_outside s ≡ false
answer-inside status.Done h = refl
answer-inside (status.Refused f) h = refl
answer-inside status.Usage h = refl
answer-inside (status.Trap kind line) h = refl
answer-inside status.Spent h = refl
answer-inside (status.Away n) h = refl
answer-inside status.SourceFault h = cc
answer-inside status.InputFault h = cc
answer-inside status.OutputFault h = cc
answer-inside status.Memory h = cc
answer-inside status.Long h = refl

-- a status comes exactly where it is expected: it is what was given, or that was cut off
module _ (law : OneAnswer) (told : Option Told) (left : Option (List ℕ)) (words : List (List ℕ)) (given s : Status)
    (answers : is_answer s ≡ true) where
  outside-exactly : (behind : Option (List ℕ)) → is_from_outside given ≡ true → ExactlyWhere told behind words given s
  outside-exactly behind o = record {
    only = λ e. let n : is_from_outside given ≡ false = ap is_from_outside e ∙ answer-inside s answers in absurd (cc);
    always = λ c asked all. inr o;
  }

  exactly-where : ForSource told left words (λ c source input. ExpectsStatus c source input given) ⊎ (is_from_outside given ≡ true) →
      ExactlyWhere told left words given s
  exactly-where (inl (c, source, asked, has, (input, is, expects))) = record {
    only = λ e. let P : Status → Type 0 = λ x. ExpectsStatus c source input x in (c, source, asked, has, (input, is, subst P e expects));
    always = λ d again all.
        let same : d ≡ c = cc in
        let Q : Command → Type 0 = λ x. HasSource told (origin_of x) source → ExpectsStatus x source input s in
        inl (expects-one law c source input given s expects (subst Q same (λ h. all source input h is) has));
  }
  exactly-where (inr o) = outside-exactly left o

  -- a refusal is expected whatever the input has, but where it is that of a schedule
  exactly-refused : is_refusal s ≡ true → (may_schedule (command words) ≡ true → ¬ IsBadSchedule s) → (bytes : List ℕ) →
      ForSource told left words (λ c source input. ExpectsStatus c source input given) ⊎ (is_from_outside given ≡ true) →
      ExactlyWhere told (Some bytes) words given s
  exactly-refused refuses n bytes (inl (c, source, asked, has, (input, is, expects))) = record {
    only = λ e.
        let P : Status → Type 0 = λ x. ExpectsStatus c source input x in
        (c, source, asked, has, (bytes, refl, refusal-any c source input bytes s refuses (λ on. n (ap may_schedule asked ∙ on)) (subst P e expects)));
    always = λ d again all.
        let same : d ≡ c = cc in
        let Q : Command → Type 0 = λ x. HasSource told (origin_of x) source → ExpectsStatus x source bytes s in
        let there = subst Q same (λ h. all source bytes h refl) has in
        inl (expects-one law c source input given s expects (refusal-any c source bytes input s refuses (λ on. n (ap may_schedule asked ∙ on)) there));
  }
  exactly-refused refuses n bytes (inr o) = outside-exactly (Some bytes) o

-- where nothing is cut off but for want of memory, the answer is the expected one
expected-unless : (P : Type 0) (s : Status) → P ⊎ (is_from_outside s ≡ true) → s ≢ status.SourceFault → s ≢ status.InputFault →
    s ≢ status.OutputFault → P ⊎ (s ≡ status.Memory)
expected-unless P s (inl h) x y z = inl h
expected-unless P status.Done (inr o) x y z = cc
expected-unless P (status.Refused f) (inr o) x y z = cc
expected-unless P status.Usage (inr o) x y z = cc
expected-unless P (status.Trap kind line) (inr o) x y z = cc
expected-unless P status.Spent (inr o) x y z = cc
expected-unless P (status.Away n) (inr o) x y z = cc
expected-unless P status.SourceFault (inr o) x y z = absurd (x refl)
expected-unless P status.InputFault (inr o) x y z = absurd (y refl)
expected-unless P status.OutputFault (inr o) x y z = absurd (z refl)
expected-unless P status.Memory (inr o) x y z = inr refl
expected-unless P status.Long (inr o) x y z = cc

-- an answer of another kind is the one that was given
pub given-is : (given answer : Status) → Becomes given answer → answer ≢ status.OutputFault → answer ≢ status.Memory → given ≡ answer
given-is given answer (inl t) n m = sym t
given-is given answer (inr (inl t)) n m = absurd (n t)
given-is given answer (inr (inr t)) n m = absurd (m t)

-- a fault of the output or the notes came while the command was done, or while its status was told
pub answer-output : (given : Status) (o p a b c : ℕ) → (given ≡ status.OutputFault → Rose o p ⊎ Rose a b) → a ≤ b → b ≤ c →
    (given ≡ status.OutputFault) ⊎ Rose b c → Rose o p ⊎ Rose a c
answer-output given o p a b c h l k (inl e) = elim (h e) [ inl r ↦ inl r | inr r ↦ inr (rose-then a b c r k) ]
answer-output given o p a b c h l k (inr r) = inr (Rose-since a b c l r)

-- the pacers are tuned to the number of the command that the words give
pub answer-tuned : (words : List (List ℕ)) (c : Command) (m : Kept) (count trace : ℕ) → command words ≡ Some c → Tunes c m count trace →
    (d : Command) → command words ≡ Some d → Tunes d m count trace
answer-tuned words c m count trace e h d again =
    let same : d ≡ c = cc in
    let P : Command → Type 0 = λ x. Tunes x m count trace in
    subst P (sym same) h

-- the same of a machine that is equal
pub tuned-moved : (words : List (List ℕ)) (m n : Kept) (count trace : ℕ) → m ≡ n → ((d : Command) → command words ≡ Some d → Tunes d m count trace) →
    (d : Command) → command words ≡ Some d → Tunes d n count trace
tuned-moved words m n count trace same h =
    let P : Kept → Type 0 = λ q. (d : Command) → command words ≡ Some d → Tunes d q count trace in
    subst P same h

-- and whether what is kept moves is chosen by that command
pub answer-chooses : (words : List (List ℕ)) (c : Command) (m : Kept) → command words ≡ Some c → Chooses c m →
    (d : Command) → command words ≡ Some d → Chooses d m
answer-chooses words c m e h d again =
    let same : d ≡ c = cc in
    let P : Command → Type 0 = λ x. Chooses x m in
    subst P (sym same) h

-- What the top call answers behind the layers under it: the words' command, what was answered to its file on bytes that the input has, and that this
-- was told, or an output fault or want of memory.
pub record Answered (told : Option Told) (left : Option (List ℕ)) (words : List (List ℕ)) (given answer : Status) (old new : Option (List ℕ))
    (m : Kept) (still : Type 0) (before behind : Asks) : Type 0 where
  pub asked : Command
  pub command_is : command words ≡ Some asked
  pub input : List ℕ
  pub input_is : HasInput left input
  pub does : DoesCommand told asked input given old new m still (tuned_to (every_of asked) before) behind
  pub told_is : Becomes given answer

-- what was answered, with the output and the machine by other names
pub does-moved : (told : Option Told) (c : Command) (input : List ℕ) (s : Status) (old new behind : Option (List ℕ)) (m n : Kept)
    (still : Type 0) (first last : Asks) → new ≡ behind → m ≡ n → DoesCommand told c input s old new m still first last →
    DoesCommand told c input s old behind n still first last
does-moved told c input s old new behind m n still first last out_is machine_is h =
    let P : Option (List ℕ) → Type 0 = λ q. DoesCommand told c input s old q m still first last in
    let Q : Kept → Type 0 = λ q. DoesCommand told c input s old behind q still first last in
    subst Q machine_is (subst P out_is h)

-- what was answered, whatever was asked
does-settles : (told : Option Told) (c : Command) (input : List ℕ) (s : Status) (old new : Option (List ℕ)) (m : Kept) (still : Type 0)
    (first last : Asks) → DoesCommand told c input s old new m still first last → SettlesCommand told c (Some input) s old new m still
does-settles told c input s old new m still first last (inl h) = inl (h.0, h.1, h.2.settles)
does-settles told c input s old new m still first last (inr (inl u)) = inr (inl u.0)
does-settles told c input s old new m still first last (inr (inr r)) = inr (inr r)

-- what holds of these bytes holds of bytes that the input has
from-here : (told : Option Told) (left : Option (List ℕ)) (words : List (List ℕ)) (input : List ℕ) (P : Command → Sources → List ℕ → Type 0) →
    HasInput left input → ForSource told (Some input) words P → ForSource told left words P
from-here told left words input P is (c, source, asked, has, (bytes, same, p)) =
    (c, source, asked, has, (input, is, subst (P c source) (sym same) p))

-- what is told is the status that was given, or one of a call that was cut off
becomes-cut : (given answer : Status) → Becomes given answer → (answer ≡ given) ⊎ (is_cut_off answer ≡ true)
becomes-cut given answer (inl e) = inl e
becomes-cut given answer (inr (inl e)) = inr (subst (λ (s : Status). is_cut_off s ≡ true) (sym e) refl)
becomes-cut given answer (inr (inr e)) = inr (subst (λ (s : Status). is_cut_off s ≡ true) (sym e) refl)

module _ {told : Option Told} {left : Option (List ℕ)} {words : List (List ℕ)} {given answer : Status} {old new : Option (List ℕ)} {m : Kept}
    {still : Type 0} {before behind : Asks} (a : Answered told left words given answer old new m still before behind) where
  abbrev Asked : Status → Command → Sources → List ℕ → Type 0
  Asked s d source bytes =
      is_scheduled d ≡ false → RunAsked (origin_of d) source (input_for (origin_of d) bytes) s m (tuned_to (every_of d) before) behind

  settled : SettlesCommand told a.asked (Some a.input) given old new m still
  settled = does-settles told a.asked a.input given old new m still _ behind a.does

  status-here : ForSource told left words (λ c source input. ExpectsStatus c source input given) ⊎ (is_from_outside given ≡ true)
  status-here = elim (file-status told (Some a.input) words a.asked given old new m still a.command_is settled) [
    | inl h ↦ inl (from-here told left words a.input _ a.input_is h)
    | inr o ↦ inr o
  ]

  pub answer-answered : OnTrue (is_answer answer) (ForSource told left words (λ c source input.
      Answers c source input answer old new m still × Asked answer c source input))
  answer-answered =
      told-status (λ s. OnTrue (is_answer s) (ForSource told left words (λ c source input.
      Answers c source input s old new m still × Asked s c source input))) given answer
      (file-answers told left words a.asked given old new m still a.command_is a.input a.input_is before behind a.does) tt tt a.told_is

  -- of what was told
  asked-told : (c : Command) (source : Sources) (input : List ℕ) → Asked given c source input → Asked answer c source input
  asked-told c source input h off =
      asked-behind (origin_of c) source (input_for (origin_of c) input) m given answer _ behind (becomes-cut given answer a.told_is) (h off)

  pub answer-cut : OnTrue (is_cut_off answer)
      (Untouched m old new still ⊎ ForSource told left words (λ c source input.
      CutOffAt c source input m old new still × Asked answer c source input))
  answer-cut = on-fact (is_cut_off answer) _ (elim
      (file-cut told left words a.asked given old new m still a.command_is a.input a.input_is before behind a.does) [
        | inl u ↦ inl u
        | inr (c, source, asked, has, (input, is, p)) ↦ inr (c, source, asked, has, (input, is, (p.0, asked-told c source input p.1)))
      ])

  pub answer-input : answer ≡ status.InputFault → ForSource told left words (λ c source input.
      CutAtInput c source input m old new × Asked answer c source input)
  answer-input e =
      let (c, source, asked, has, (input, is, p)) =
      file-input told left words a.asked given old new m still a.command_is a.input a.input_is before behind
      (given-is given answer a.told_is (λ o. cc) (λ o. cc) ∙ e) a.does in
      (c, source, asked, has, (input, is, (p.0, asked-told c source input p.1)))

  -- where no run has begun, no pacer was asked
  pub answer-unasked : may_schedule (command words) ≡ false → IsFresh m → Unasked m before behind
  answer-unasked off fresh = by a.does
    where
      of-tuned : Unasked m (tuned_to (every_of a.asked) before) behind → Unasked m before behind
      of-tuned h = record { fresh = h.fresh; count = h.count; trace = h.trace }

      by : DoesCommand told a.asked a.input given old new m still (tuned_to (every_of a.asked) before) behind → Unasked m before behind
      by (inl h) = elim h.2.asked [
        | inl none ↦ of-tuned none
        | inr r ↦ (let lie : true ≡ false = sym r.stands.shows.begun ∙ fresh.begun in absurd (cc))
      ]
      by (inr (inl u)) = of-tuned u.1
      by (inr (inr r)) =
          let lie : true ≡ false =
          sym (plan-needed a.asked r.source r.tree r.plan r.images r.means) ∙ sym (ap may_schedule a.command_is) ∙ off in absurd (cc)

  -- each answer to a source comes exactly where it is expected
  pub answer-exactly : OneAnswer → (s : Status) → is_answer s ≡ true → ExactlyWhere told left words answer s
  answer-exactly law s i =
      told-status (λ x. ExactlyWhere told left words x s) given answer (exactly-where law told left words given s i status-here)
      (outside-exactly law told left words status.OutputFault s i left refl) (outside-exactly law told left words status.Memory s i left refl)
      a.told_is

  -- and a refusal whatever the input has
  pub answer-refused : OneAnswer → (s : Status) → is_answer s ≡ true → is_refusal s ≡ true →
      (may_schedule (command words) ≡ true → ¬ IsBadSchedule s) → (bytes : List ℕ) →
      ExactlyWhere told (Some bytes) words answer s
  answer-refused law s i r n bytes =
      told-status (λ x. ExactlyWhere told (Some bytes) words x s) given answer
      (exactly-refused law told left words given s i r n bytes status-here)
      (outside-exactly law told left words status.OutputFault s i (Some bytes) refl)
      (outside-exactly law told left words status.Memory s i (Some bytes) refl) a.told_is

  -- where no count rose, the answer is the expected one, or there was no memory
  pub answer-complete : (F I O N : Type 0) → (answer ≡ status.SourceFault → F) → (answer ≡ status.InputFault → I) →
      (answer ≡ status.OutputFault → O ⊎ N) → ¬ F → ¬ I → ¬ O → ¬ N →
      ForSource told left words (λ c source input. ExpectsStatus c source input answer) ⊎ (answer ≡ status.Memory)
  answer-complete F I O N x y z nf ni nout nn = by a.told_is
    where
      Expected : Status → Type 0
      Expected s = ForSource told left words (λ c source input. ExpectsStatus c source input s)

      by : Becomes given answer → Expected answer ⊎ (answer ≡ status.Memory)
      by (inl e) =
          let P : Status → Type 0 = λ s. Expected s ⊎ (is_from_outside s ≡ true) in
          expected-unless (Expected answer) answer (subst P (sym e) status-here) (λ i. nf (x i)) (λ i. ni (y i))
          (λ i. elim (z i) [ inl o ↦ nout o | inr n ↦ nn n ])
      by (inr (inl e)) = elim (z e) [ inl o ↦ absurd (nout o) | inr n ↦ absurd (nn n) ]
      by (inr (inr e)) = inr e

-- a refusal leaves nothing
untouched-of : (told : Option Told) (left : Option (List ℕ)) (words : List (List ℕ)) (c : Command) (s : Status) (old new : Option (List ℕ)) (m : Kept)
    (still : Type 0) → command words ≡ Some c → SettlesCommand told c left s old new m still →
    OnTrue (is_refusal s) (Untouched m old new (UnlessSchedule (command words) s still))
untouched-of told left words c status.Done old new m still e h = tt
untouched-of told left words c (status.Refused f) old new m still e (inl h) = (h.2.1.0, h.2.1.1, inr h.2.1.2)
untouched-of told left words c (status.Refused f) old new m still e (inr (inl u)) = (u.1.0, u.1.1, inr u.1.2)
untouched-of told left words c (status.Refused f) old new m still e (inr (inr r)) =
    let q = schedule-refused told c left f old new m r in (r.fresh, q.2, inl (ap may_schedule e ∙ q.0, q.1))
untouched-of told left words c status.Usage old new m still e (inl h) = absurd h.2
untouched-of told left words c status.Usage old new m still e (inr (inl u)) = (u.1.0, u.1.1, inr u.1.2)
untouched-of told left words c status.Usage old new m still e (inr (inr r)) = absurd r.settles
untouched-of told left words c (status.Trap kind line) old new m still e h = tt
untouched-of told left words c status.Spent old new m still e h = tt
untouched-of told left words c (status.Away n) old new m still e h = tt
untouched-of told left words c status.SourceFault old new m still e (inl h) = absurd h.2
untouched-of told left words c status.SourceFault old new m still e (inr (inl u)) = (u.1.0, u.1.1, inr u.1.2)
untouched-of told left words c status.SourceFault old new m still e (inr (inr r)) = absurd r.settles
untouched-of told left words c status.InputFault old new m still e h = tt
untouched-of told left words c status.OutputFault old new m still e h = tt
untouched-of told left words c status.Memory old new m still e h = tt
untouched-of told left words c status.Long old new m still e (inl h) = (h.2.1.0, h.2.1.1, inr h.2.1.2)
untouched-of told left words c status.Long old new m still e (inr (inl u)) = (u.1.0, u.1.1, inr u.1.2)
untouched-of told left words c status.Long old new m still e (inr (inr r)) = absurd r.settles

pub answer-untouched : {told : Option Told} {left : Option (List ℕ)} {words : List (List ℕ)} {given answer : Status} {old new : Option (List ℕ)}
    {m : Kept} {still : Type 0} {before behind : Asks} → Answered told left words given answer old new m still before behind →
    OnTrue (is_refusal answer) (Untouched m old new (UnlessSchedule (command words) answer still))
answer-untouched {told = told} {words = words} {given = given} {answer = answer} {old = old} {new = new} {m = m} {still = still} a =
    told-status (λ s. OnTrue (is_refusal s) (Untouched m old new (UnlessSchedule (command words) s still))) given answer
    (untouched-of told (Some a.input) words a.asked given old new m still a.command_is (settled a)) tt tt a.told_is

-- a command is answered no usage
usage-unread : (told : Option Told) (c : Command) (s : Status) → Unread told c s → s ≢ status.Usage
usage-unread told c s source_fault e = cc
usage-unread told c s memory e = cc

no-usage : (told : Option Told) (left : Option (List ℕ)) (c : Command) (old new : Option (List ℕ)) (m : Kept) (still : Type 0) →
    SettlesCommand told c left status.Usage old new m still → ⊥
no-usage told left c old new m still (inl h) = h.2
no-usage told left c old new m still (inr (inl u)) = usage-unread told c status.Usage u.0 refl
no-usage told left c old new m still (inr (inr r)) = r.settles

pub answer-usage : {told : Option Told} {left : Option (List ℕ)} {words : List (List ℕ)} {given answer : Status} {old new : Option (List ℕ)}
    {m : Kept} {still : Type 0} {before behind : Asks} → Answered told left words given answer old new m still before behind →
    Exactly answer status.Usage (command words ≡ None)
answer-usage {told = told} {words = words} {given = given} {answer = answer} {old = old} {new = new} {m = m} {still = still} a = (
  λ e.
      let P : Status → Type 0 = λ s. SettlesCommand told a.asked (Some a.input) s old new m still in
      absurd (no-usage told (Some a.input) a.asked old new m still
      (subst P (given-is given answer a.told_is (λ o. cc) (λ o. cc) ∙ e) (settled a))),
  λ none. let lie : None ≡ Some a.asked = sym none ∙ a.command_is in absurd (cc),
)

-- a status that is expected, or comes from outside with its cause, may be told
may-tell : (told : Option Told) (left : Option (List ℕ)) (words : List (List ℕ)) (F I : Type 0) (s : Status) → s ≢ status.OutputFault →
    s ≢ status.Usage → (s ≡ status.SourceFault → F) → (s ≡ status.InputFault → I) → IsExpected told left words s ⊎ (is_from_outside s ≡ true) →
    MayTell told left words F I s
may-tell told left words F I status.Done n u f i (inl h) = h
may-tell told left words F I status.Done n u f i (inr o) = cc
may-tell told left words F I (status.Refused fault) n u f i (inl h) = h
may-tell told left words F I (status.Refused fault) n u f i (inr o) = cc
may-tell told left words F I status.Usage n u f i h = absurd (u refl)
may-tell told left words F I (status.Trap kind line) n u f i (inl h) = h
may-tell told left words F I (status.Trap kind line) n u f i (inr o) = cc
may-tell told left words F I status.Spent n u f i (inl h) = h
may-tell told left words F I status.Spent n u f i (inr o) = cc
may-tell told left words F I (status.Away k) n u f i (inl h) = h
may-tell told left words F I (status.Away k) n u f i (inr o) = cc
may-tell told left words F I status.SourceFault n u f i h = f refl
may-tell told left words F I status.InputFault n u f i h = i refl
may-tell told left words F I status.OutputFault n u f i h = absurd (n refl)
may-tell told left words F I status.Memory n u f i h = tt
may-tell told left words F I status.Long n u f i (inl h) = h
may-tell told left words F I status.Long n u f i (inr o) = cc

-- the status that was given to be told is one, and want of memory
pub answer-may : {told : Option Told} {left : Option (List ℕ)} {words : List (List ℕ)} {given answer : Status} {old new : Option (List ℕ)}
    {m : Kept} {still : Type 0} {before behind : Asks} → Answered told left words given answer old new m still before behind → (F I : Type 0) →
    (given ≡ status.SourceFault → F) →
    (given ≡ status.InputFault → I) → (s : Status) → s ≢ status.OutputFault → (s ≡ given) ⊎ (s ≡ status.Memory) → MayTell told left words F I s
answer-may {told = told} {left = left} {words = words} {given = given} {old = old} {new = new} {m = m} {still = still} a F I f i s n (inl e) =
    let P : Status → Type 0 = λ x. SettlesCommand told a.asked (Some a.input) x old new m still in
    subst (MayTell told left words F I) (sym e)
    (may-tell told left words F I given (λ o. n (e ∙ o)) (λ u. no-usage told (Some a.input) a.asked old new m still (subst P u (settled a))) f i
    (status-here a))
answer-may {told = told} {left = left} {words = words} a F I f i s n (inr e) = subst (MayTell told left words F I) (sym e) tt

-- words that are no command are answered a usage, or an output fault, and nothing else
pub usage-exactly : (told : Option Told) (left : Option (List ℕ)) (words : List (List ℕ)) (answer s : Status) → command words ≡ None →
    (answer ≡ status.Usage) ⊎ (answer ≡ status.OutputFault) → is_answer s ≡ true → ExactlyWhere told left words answer s
usage-exactly told left words answer s none t i = record { only = only t; always = λ c asked all. absurd (cc) }
  where
    only : (answer ≡ status.Usage) ⊎ (answer ≡ status.OutputFault) → answer ≡ s →
        ForSource told left words (λ c source input. ExpectsStatus c source input s)
    only (inl u) e = let n : is_answer status.Usage ≡ true = ap is_answer (sym u ∙ e) ∙ i in absurd (cc)
    only (inr o) e = let n : is_answer status.OutputFault ≡ true = ap is_answer (sym o ∙ e) ∙ i in absurd (cc)

-- what follows where a test fails
pub on-false : (b : Bool) {P : Type 0} → (b ≡ false → P) → OnFalse b P
on-false true h = tt
on-false false h = h refl

-- a command that reads nothing is one that the words give
pub answer-unread : (words : List (List ℕ)) (c : Command) (P : Type 0) → command words ≡ Some c → (reads_input c ≡ false → P) →
    OnFalse (may_read (command words)) P
answer-unread words c P e h = rw e (on-false (reads_input c) h)

-- and a command that runs nothing on the machine that is handed in is one
pub answer-unrun : (words : List (List ℕ)) (c : Command) (P : Type 0) → command words ≡ Some c → (runs_on c ≡ false → P) →
    OnFalse (may_run (command words)) P
answer-unrun words c P e h = rw e (on-false (runs_on c) h)

-- a command that opens no file leaves the files
pub answer-unopened : (words : List (List ℕ)) (c : Command) (P : Type 0) → command words ≡ Some c → (opens_file c ≡ false → P) →
    OnFalse (may_open (command words)) P
answer-unopened words c P e h = rw e (on-false (opens_file c) h)

-- the files that a command opens are those that the words have opened
pub answer-opened : (told : Option Told) (words : List (List ℕ)) (c : Command) (old new : List (List ℕ)) → command words ≡ Some c →
    BegunAre (Opens told (origin_of c)) old new → BegunAre (OpensBy told (command words)) old new
answer-opened told words c old new e h = rw e h

-- and where they give no command, none is
pub usage-opened : (told : Option Told) (words : List (List ℕ)) (old : List (List ℕ)) → command words ≡ None →
    BegunAre (OpensBy told (command words)) old old
usage-opened told words old e = rw e ([], refl, sym (append-nil old))

-- what was answered to a source was expected of it
expects-of : (told : Option Told) (left : Option (List ℕ)) (words : List (List ℕ)) (s : Status) (old new : Option (List ℕ)) (m : Kept) (still : Type 0)
    (Q : Command → Sources → List ℕ → Type 0) → ForSource told left words (λ c source input.
    Answers c source input s old new m still × Q c source input) → IsExpected told left words s
expects-of told left words s old new m still Q (c, source, asked, has, (input, is, (a, each))) =
    (c, source, asked, has, (input, is, (numbers_of m, a.text, (a.meaning, a.means, a.expects))))

pub answers-expected : (told : Option Told) (left : Option (List ℕ)) (words : List (List ℕ)) (s : Status) (old new : Option (List ℕ)) (m : Kept)
    (still : Type 0) (Q : Command → Sources → List ℕ → Type 0) → OnTrue (is_answer s) (ForSource told left words (λ c source input.
    Answers c source input s old new m still × Q c source input)) →
    OnTrue (is_answer s) (IsExpected told left words s)
answers-expected told left words s old new m still Q h = on-true _ _ (is_answer s) h (expects-of told left words s old new m still Q)

-- the one of two facts that the checker's answer chooses, weakened
if-any : (o : Option Fault) (A B C D : Type 0) → (A → C) → (B → D) → IfAccepted o A B → IfAccepted o C D
if-any None A B C D f g h = f h
if-any (Some x) A B C D f g h = g h

-- what was left beside a text is left, whatever is said of the input
leaves-any : (c : Command) (input : List ℕ) (k : Meaning) (m : Kept) (still : Type 0) → Leaves c input k m still → Leaves c input k m (Unit {0})
leaves-any c input too_long m still h = (h.0, tt)
leaves-any c input (faulty f) m still h = (h.0, tt)
leaves-any c input (planned t p images) m still h = h
leaves-any (run slides file n every report) input (spelt t) m still h = if-any (first_fault t) _ _ _ _ (λ x. (x.0, λ none. tt)) (λ x. (x.0, tt)) h
leaves-any (plain file n) input (spelt t) m still h = (h.0, if-any (first_fault t) _ _ _ _ (λ x. (x.0, λ none. tt)) (λ x. tt) h.1)
leaves-any (fmt file) input (spelt t) m still h = h
leaves-any (check file) input (spelt t) m still h = h
leaves-any (code file) input (spelt t) m still h = h
leaves-any (pack file) input (spelt t) m still h = h
leaves-any (bulk size) input (spelt t) m still h = h
leaves-any (exec file n every report) input (spelt t) m still h = if-any (first_fault t) _ _ _ _ (λ x. (x.0, λ none. tt)) (λ x. (x.0, tt)) h
leaves-any (when file plan keep) input (spelt t) m still h = h

-- so a machine is that of a call that has answered
machine-of : (words : List (List ℕ)) (s : Status) (old new : Option (List ℕ)) (m : Kept) (still : Type 0) (Q : Command → Sources → List ℕ → Type 0) →
    ForSource None None words (λ c source input. Answers c source input s old new m still × Q c source input) → IsMachineOf words s m
machine-of words s old new m still Q (c, source, asked, has, (input, is, (a, each))) =
    (c, source, asked, has, (input, is, (a.meaning, a.means, (a.text, a.expects), leaves-any c input a.meaning m still a.leaves)))

pub answers-machine : (words : List (List ℕ)) (s : Status) (old new : Option (List ℕ)) (m : Kept) (still : Type 0)
    (Q : Command → Sources → List ℕ → Type 0) → OnTrue (is_answer s) (ForSource None None words (λ c source input.
    Answers c source input s old new m still × Q c source input)) → OnTrue (is_answer s) (IsMachineOf words s m)
answers-machine words s old new m still Q h = on-true _ _ (is_answer s) h (machine-of words s old new m still Q)

-- a call that has told want of memory has answered nothing
pub memory-machine : (words : List (List ℕ)) (s : Status) (m : Kept) → (s ≡ status.Memory) ⊎ (s ≡ status.OutputFault) →
    OnTrue (is_answer s) (IsMachineOf words s m)
memory-machine words s m (inl e) = subst (λ (x : Status). OnTrue (is_answer x) (IsMachineOf words x m)) (sym e) tt
memory-machine words s m (inr e) = subst (λ (x : Status). OnTrue (is_answer x) (IsMachineOf words x m)) (sym e) tt

-- a status that may be told of sources and inputs that failed may be told of any
pub may-any : (told : Option Told) (left : Option (List ℕ)) (words : List (List ℕ)) (F I : Type 0) (s : Status) → s ≢ status.OutputFault →
    MayTell told left words F I s → MayTell told left words (Unit {0}) (Unit {0}) s
may-any told left words F I status.Done n h = h
may-any told left words F I (status.Refused f) n h = h
may-any told left words F I status.Usage n h = h
may-any told left words F I (status.Trap kind line) n h = h
may-any told left words F I status.Spent n h = h
may-any told left words F I (status.Away k) n h = h
may-any told left words F I status.SourceFault n h = tt
may-any told left words F I status.InputFault n h = tt
may-any told left words F I status.OutputFault n h = h
may-any told left words F I status.Memory n h = tt
may-any told left words F I status.Long n h = h

-- words that are no command choose nothing
pub usage-chosen : (words : List (List ℕ)) (m : Kept) (a : Asks) → command words ≡ None → Chosen (command words) m a a
usage-chosen words m a none = record {
  tuned = λ c asked. (let lie : None ≡ Some c = sym none ∙ asked in absurd (cc));
  untuned = on-false (may_run (command words)) (λ off. (refl, refl));
  slides = λ c asked. (let lie : None ≡ Some c = sym none ∙ asked in absurd (cc));
}

-- and are answered a fault of the notes alone
pub usage-faults : (answer : Status) (files input out a b : ℕ) → (answer ≡ status.Usage) ⊎ (answer ≡ status.OutputFault) →
    (answer ≡ status.OutputFault → (status.Usage ≡ status.OutputFault) ⊎ Rose a b) → a ≤ b →
    FaultsRose answer files files input input out out a b
usage-faults answer files input out a b told failed never_falls = record {
  source_fault = λ i. (elim told [
    | inl u ↦ (let lie : status.Usage ≡ status.SourceFault = sym u ∙ i in absurd (cc))
    | inr o ↦ (let lie : status.OutputFault ≡ status.SourceFault = sym o ∙ i in absurd (cc))
  ]);
  input_fault = λ i. (elim told [
    | inl u ↦ (let lie : status.Usage ≡ status.InputFault = sym u ∙ i in absurd (cc))
    | inr o ↦ (let lie : status.OutputFault ≡ status.InputFault = sym o ∙ i in absurd (cc))
  ]);
  input_quiet = λ i o m. refl;
  output_fault = λ i. (elim (failed i) [ inl lie ↦ absurd (cc) | inr r ↦ inr r ]);
  files_never_fall = omega arith;
  input_never_falls = omega arith;
  out_never_falls = omega arith;
  notes_never_fall = never_falls;
}
