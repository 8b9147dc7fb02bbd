-- What the layers under the top call have answered to a source, in the words of the headline.
use Rattle.std.proofs.Common.{◌≡◌, ℕ, ◌+◌, ◌⊎◌, inl, inr, Bool, true, false, List, [], ◌∷◌, ◌++◌, ◌-◌, Option, Some, None, refl, sym, ◌∙◌, ap, subst}
use Rattle.std.proofs.Common.{arith, length, append-nil, append_assoc}
use Rattle.std.specs.Bool.{OnTrue}
use Rattle.rg_base.specs.declared.fault.Fault.{Fault}
use Rattle.rg_base.specs.declared.limits.TheConstants.{MOST_STEPS}
use Rattle.rg_base.specs.Text.{text}
use Rattle.rg_io.specs.Content.{Appends, AppendsPart, IsPrefix}
use Rattle.rg_tree.specs.Tree.{Tree}
use Rattle.rg_tree.specs.Rows.Tables.{Tables}
use Rattle.rg_tree.specs.Rows.RowTrees.{program_of, classes_of}
use Rattle.rg_tree.specs.Canonical.{canon}
use Rattle.rg_rules.specs.Acceptance.{Accepted, first_fault}
use Rattle.rg_rules.specs.State.{State}
use Rattle.rg_rules.specs.Runs.{Done, opening}
use Rattle.rg_rules.specs.Runs as rules
use Rattle.rg_rules.specs.Outside.Texts.{added}
use Rattle.rg_run.specs.Machine.{Kept, IsFresh, Shows, numbers_of}
use Rattle.rg_run.specs.Sound.{IsSound, Stands, NeverAsks}
use Rattle.rg_run.proofs.Sound.{run-is-sound, stands-shown}
use Rattle.rg_run.proofs.Run.{run-of, wrote-whole, text-part}
use Rattle.rg_words.specs.declared.status.Status.{Status}
use Rattle.rg_words.specs.declared.status.Status.TheVariants as status
use Rattle.rg_words.specs.Commands.{Command, run, plain, fmt, check, code, pack, bulk, exec, when, in_file, in_module, with_plan, origin_of, keep_of}
use Rattle.rg_words.specs.Statuses.{is_answer, is_from_outside, is_refusal, IsBadSchedule}
use Rattle.rg_words.specs.Answers.{Answer, ForInput}
use Rattle.rg_words.proofs.Written.{untouched-text}
use Rattle.rg_sources.specs.Sources.{Sources, planned, too_long, faulty, spelt, MeansFrom}
use Rattle.rg_commands.specs.Expected.{status_of, accepted_text, listed_text, packed_text, text_after, line_behind, run_answer, unless_fault}
use Rattle.rg_commands.specs.Expected.{ExpectsStatus, schedule_answer, schedule_of, Answered}
use Rattle.rg_commands.specs.CutOff.{Untouched, StandsAfter, AsksAfter, CutOffAt, CutAtInput}
use Rattle.rg_commands.specs.Settled.{SettlesSchedule, RanSchedule, RanWhole, RanBeside, RanGenerated, EndsWell, StopsRun, IsFaulted, CutOff, Settles}
use Rattle.rg_commands.proofs.Meaning.{plan-needed, said-refused}
use Rattle.rg_commands.proofs.Settled.{bulk-stands}
use Rattle.rg_top.specs.Headline.{IfAccepted, RunStands, Answers}
use Rattle.rg_cown.specs.Cargo.{CargoList}
use Rattle.rg_plan.specs.Plans.{PlanOf}
use Rattle.rg_io.specs.Files.{Told}
use Rattle.rg_words.specs.Commands.{is_scheduled}

-- the source of an input has some bytes
pub for-input : (left : Option (List ℕ)) (P : List ℕ → Type 0) → ((input : List ℕ) → P input) → ForInput left P
for-input None P h = ([], tt, h [])
for-input (Some bytes) P h = (bytes, refl, h bytes)

whole-part : (old new : Option (List ℕ)) (text : List ℕ) → Appends old new text → AppendsPart old new text
whole-part old new text h = (text, record { rest = []; whole_is = sym (append-nil text) }, h)

-- nothing is a part of any text
nothing-part : (old new : Option (List ℕ)) (text : List ℕ) → new ≡ old → AppendsPart old new text
nothing-part old new text e = ([], record { rest = text; whole_is = refl }, untouched-text old new e)

-- what an accepted program answers
ran-answer : (t : Tree) (input : List ℕ) (n : ℕ) (s : Status) → Accepted t → s ≡ status_of (rules.plain t input n).ending →
    unless_fault (first_fault t) (run_answer t input n) ≡ record { status = s; text = text_after t input n }
ran-answer t input n s accepted is = rw (accepted, is) refl

-- what is left where the checker has no fault
if-accepted : (o : Option Fault) (accepted refused : Type 0) → o ≡ None → accepted → IfAccepted o accepted refused
if-accepted None accepted refused e h = h
if-accepted (Some f) accepted refused e h = cc

-- what is left where it has one
if-refused : (o : Option Fault) (f : Fault) (accepted refused : Type 0) → o ≡ Some f → refused → IfAccepted o accepted refused
if-refused None f accepted refused e h = cc
if-refused (Some g) f accepted refused e h = h

answers-ran : (slides : Bool) (file : List ℕ) (n every : ℕ) (report : Bool) (source : Sources) (left : Option (List ℕ)) (s : Status)
    (old new : Option (List ℕ)) (m : Kept) (still : Type 0) →
    RanWhole (in_file file) n source left s old new m still → ForInput left
    (λ input. Answers (run slides file n every report) source input s old new m still)
answers-ran slides file n every report source left s old new m still r =
    let t = program_of r.tables in (
      r.input,
      r.input_is,
      record {
        meaning = spelt t;
        means = r.runs.means;
        text = text_after t r.input n;
        expects = ran-answer t r.input n s r.runs.accepted r.status_is;
        wrote = r.wrote;
        leaves = if-accepted (first_fault t) (RunStands t r.input n m × (NeverAsks t r.input n → still)) (IsFresh m × still) r.runs.accepted
            ((r.tables, refl, r.stands), r.unread);
      },
    )

answers-exec : (file : List ℕ) (n every : ℕ) (report : Bool) (source : Sources) (left : Option (List ℕ)) (s : Status)
    (old new : Option (List ℕ)) (m : Kept) (still : Type 0) →
    RanWhole (in_module file) n source left s old new m still → ForInput left
    (λ input. Answers (exec file n every report) source input s old new m still)
answers-exec file n every report source left s old new m still r =
    let t = program_of r.tables in (
      r.input,
      r.input_is,
      record {
        meaning = spelt t;
        means = r.runs.means;
        text = text_after t r.input n;
        expects = ran-answer t r.input n s r.runs.accepted r.status_is;
        wrote = r.wrote;
        leaves = if-accepted (first_fault t) (RunStands t r.input n m × (NeverAsks t r.input n → still)) (IsFresh m × still) r.runs.accepted
            ((r.tables, refl, r.stands), r.unread);
      },
    )

answers-beside : (file : List ℕ) (n : ℕ) (source : Sources) (left : Option (List ℕ)) (s : Status) (old new : Option (List ℕ)) (m : Kept)
    (still : Type 0) →
    RanBeside file n source left s old new m still → ForInput left (λ input. Answers (plain file n) source input s old new m still)
answers-beside file n source left s old new m still r = (
  r.input,
  r.input_is,
  record {
    meaning = spelt r.tree;
    means = r.runs.means;
    text = text_after r.tree r.input n;
    expects = ran-answer r.tree r.input n s r.runs.accepted r.status_is;
    wrote = r.wrote;
    leaves = (
      r.fresh,
      if-accepted (first_fault r.tree) (IsSound r.tree r.input n × (NeverAsks r.tree r.input n → still)) still r.runs.accepted
          (run-is-sound r.tree r.runs.accepted r.input n, r.unread),
    );
  },
)

answers-generated : (size : ℕ) (source : Sources) (left : Option (List ℕ)) (s : Status) (old new : Option (List ℕ)) (m : Kept) (still : Type 0) →
    RanGenerated size source s old new m → ForInput left (λ input. Answers (bulk size) source input s old new m still)
answers-generated size source left s old new m still r =
    let t = program_of r.tables in
    for-input left _ (λ input. record {
      meaning = spelt t;
      means = r.runs.means;
      text = text_after t [] MOST_STEPS ++ line_behind size (numbers_of m) (rules.plain t [] MOST_STEPS).ending;
      expects = rw r.status_is refl;
      wrote = r.wrote;
      leaves = (r.tables, refl, r.stands);
    })

answers-well : (c : Command) (source : Sources) (left old new : Option (List ℕ)) (m : Kept) (still : Type 0) → EndsWell c source left old new m still →
    ForInput left (λ input. Answers c source input status.Done old new m still)
answers-well (run slides file n every report) source left old new m still r =
    answers-ran slides file n every report source left status.Done old new m still r
answers-well (plain file n) source left old new m still r = answers-beside file n source left status.Done old new m still r
answers-well (fmt file) source left old new m still r =
    for-input left _ (λ input. record {
      meaning = spelt r.tree;
      means = r.means;
      text = canon r.tree;
      expects = refl;
      wrote = r.wrote;
      leaves = (r.fresh, r.back);
    })
answers-well (check file) source left old new m still r =
    for-input left _ (λ input. record {
      meaning = spelt r.tree;
      means = r.runs.means;
      text = accepted_text;
      expects = rw r.runs.accepted refl;
      wrote = r.wrote;
      leaves = r.fresh;
    })
answers-well (code file) source left old new m still r =
    for-input left _ (λ input. record {
      meaning = spelt r.tree;
      means = r.runs.means;
      text = listed_text r.tree;
      expects = rw r.runs.accepted refl;
      wrote = r.wrote;
      leaves = r.fresh;
    })
answers-well (pack file) source left old new m still r =
    for-input left _ (λ input. record {
      meaning = spelt r.tree;
      means = r.runs.means;
      text = packed_text r.tree;
      expects = rw r.runs.accepted refl;
      wrote = r.wrote;
      leaves = r.fresh;
    })
answers-well (bulk size) source left old new m still r = answers-generated size source left status.Done old new m still r
answers-well (exec file n every report) source left old new m still r =
    answers-exec file n every report source left status.Done old new m still r
answers-well (when file plan keep) source left old new m still r = absurd r

answers-stops : (c : Command) (source : Sources) (left : Option (List ℕ)) (s : Status) (old new : Option (List ℕ)) (m : Kept) (still : Type 0) →
    StopsRun c source left s old new m still → ForInput left (λ input. Answers c source input s old new m still)
answers-stops (run slides file n every report) source left s old new m still r =
    answers-ran slides file n every report source left s old new m still r
answers-stops (plain file n) source left s old new m still r = answers-beside file n source left s old new m still r
answers-stops (fmt file) source left s old new m still r = absurd r
answers-stops (check file) source left s old new m still r = absurd r
answers-stops (code file) source left s old new m still r = absurd r
answers-stops (pack file) source left s old new m still r = absurd r
answers-stops (bulk size) source left s old new m still r = answers-generated size source left s old new m still r
answers-stops (exec file n every report) source left s old new m still r = answers-exec file n every report source left s old new m still r
answers-stops (when file plan keep) source left s old new m still r = absurd r

-- a source with a fault is refused
answers-refused : (c : Command) (source : Sources) (input : List ℕ) (f : Fault) (old new : Option (List ℕ)) (m : Kept) (still : Type 0) →
    Untouched m old new still → MeansFrom (origin_of c) source (faulty f) ⊎ IsFaulted c source f →
    Answers c source input (status.Refused f) old new m still
answers-refused c source input f old new m still u (inl h) = record {
  meaning = faulty f;
  means = h;
  text = [];
  expects = refl;
  wrote = untouched-text old new u.1;
  leaves = (u.0, u.2);
}
answers-refused (run slides file n every report) source input f old new m still u (inr h) = record {
  meaning = spelt h.0;
  means = h.1;
  text = [];
  expects = rw h.2 refl;
  wrote = untouched-text old new u.1;
  leaves = if-refused (first_fault h.0) f (RunStands h.0 input n m × (NeverAsks h.0 input n → still)) (IsFresh m × still) h.2 (u.0, u.2);
}
answers-refused (plain file n) source input f old new m still u (inr h) = record {
  meaning = spelt h.0;
  means = h.1;
  text = [];
  expects = rw h.2 refl;
  wrote = untouched-text old new u.1;
  leaves = (u.0, if-refused (first_fault h.0) f (IsSound h.0 input n × (NeverAsks h.0 input n → still)) still h.2 u.2);
}
answers-refused (fmt file) source input f old new m still u (inr h) = absurd h
answers-refused (check file) source input f old new m still u (inr h) = record {
  meaning = spelt h.0;
  means = h.1;
  text = [];
  expects = rw h.2 refl;
  wrote = untouched-text old new u.1;
  leaves = u.0;
}
answers-refused (code file) source input f old new m still u (inr h) = record {
  meaning = spelt h.0;
  means = h.1;
  text = [];
  expects = rw h.2 refl;
  wrote = untouched-text old new u.1;
  leaves = u.0;
}
answers-refused (pack file) source input f old new m still u (inr h) = record {
  meaning = spelt h.0;
  means = h.1;
  text = [];
  expects = rw h.2 refl;
  wrote = untouched-text old new u.1;
  leaves = u.0;
}
answers-refused (bulk size) source input f old new m still u (inr h) = absurd h
answers-refused (exec file n every report) source input f old new m still u (inr h) = absurd h
answers-refused (when file plan keep) source input f old new m still u (inr h) = absurd h

-- what was answered, where nothing cut it off
pub answers-of : (c : Command) (source : Sources) (left : Option (List ℕ)) (s : Status) (old new : Option (List ℕ)) (m : Kept) (still : Type 0) →
    Settles c source left s old new m still → OnTrue (is_answer s) (ForInput left (λ input. Answers c source input s old new m still))
answers-of c source left status.Done old new m still h = answers-well c source left old new m still h
answers-of c source left (status.Refused f) old new m still h = for-input left _ (λ input. answers-refused c source input f old new m still h.1 h.0)
answers-of c source left status.Usage old new m still h = tt
answers-of c source left (status.Trap kind line) old new m still h = answers-stops c source left (status.Trap kind line) old new m still h
answers-of c source left status.Spent old new m still h = answers-stops c source left status.Spent old new m still h
answers-of c source left (status.Away n) old new m still h = absurd h
answers-of c source left status.SourceFault old new m still h = tt
answers-of c source left status.InputFault old new m still h = tt
answers-of c source left status.OutputFault old new m still h = tt
answers-of c source left status.Memory old new m still h = tt
answers-of c source left status.Long old new m still h =
    for-input left _ (λ input. record {
      meaning = too_long;
      means = h.0;
      text = [];
      expects = refl;
      wrote = untouched-text old new h.1.1;
      leaves = (h.1.0, h.1.2);
    })

-- a machine that shows the end of a run, and has written all its text, stands at a whole step of it
stands-whole : (t : Tables) (input : List ℕ) (n : ℕ) (m : Kept) (old new : Option (List ℕ)) → Accepted (program_of t) → Stands t input n m →
    Appends old new (text_after (program_of t) input n) →
    StandsAfter t input n m.steps m (added t (opening (program_of t) input) m.steps) old new
stands-whole t input n m old new accepted shown wrote =
    let r = run-of (classes_of t) n 0 (opening (program_of t) input) in
    let from : 0 + r.0 ≡ r.0 = omega arith in
    let k : m.steps ≡ r.0 = shown.steps ∙ r.1.steps ∙ from in
    let P : State → Type 0 = λ s. Shows t m s in
    let Q : List ℕ → Type 0 = λ bytes. Appends old new bytes in
    let R : ℕ → Type 0 = λ j. StandsAfter t input n j m (added t (opening (program_of t) input) j) old new in
    subst R (sym k) (record {
      within = r.1.within;
      made = r.1.made_steps ∙ from;
      stands = stands-shown t input r.0 m accepted (subst P (sym r.1.state) shown.shows) (k ∙ sym (r.1.made_steps ∙ from)) shown.told;
      wrote = wrote-whole t input r.0 old new (subst Q (ap (λ s. text s.output) (sym r.1.state)) wrote);
    })

cut-exec : (file : List ℕ) (n every : ℕ) (report : Bool) (source : Sources) (left : Option (List ℕ)) (s : Status)
    (old new : Option (List ℕ)) (m : Kept) (still : Type 0) →
    RanWhole (in_module file) n source left s old new m still → ForInput left
    (λ input. CutOffAt (exec file n every report) source input m old new still)
cut-exec file n every report source left s old new m still r =
    (r.input, r.input_is, (r.tables, r.runs, stands-whole r.tables r.input n m old new r.runs.accepted r.stands r.wrote, r.unread))

cut-ran : (slides : Bool) (file : List ℕ) (n every : ℕ) (report : Bool) (source : Sources) (left : Option (List ℕ)) (s : Status)
    (old new : Option (List ℕ)) (m : Kept) (still : Type 0) →
    RanWhole (in_file file) n source left s old new m still → ForInput left
    (λ input. CutOffAt (run slides file n every report) source input m old new still)
cut-ran slides file n every report source left s old new m still r =
    (r.input, r.input_is, (r.tables, r.runs, stands-whole r.tables r.input n m old new r.runs.accepted r.stands r.wrote, r.unread))

cut-beside : (file : List ℕ) (n : ℕ) (source : Sources) (left : Option (List ℕ)) (s : Status) (old new : Option (List ℕ)) (m : Kept) (still : Type 0) →
    RanBeside file n source left s old new m still → ForInput left (λ input. CutOffAt (plain file n) source input m old new still)
cut-beside file n source left s old new m still r = (
  r.input,
  r.input_is,
  (r.tree, r.runs, r.fresh, whole-part old new _ r.wrote, run-is-sound r.tree r.runs.accepted r.input n, r.unread),
)

-- a list is a prefix of itself
all-prefix : (xs : List ℕ) → IsPrefix xs xs
all-prefix xs = record { rest = []; whole_is = sym (append-nil xs) }

cut-generated : (size : ℕ) (source : Sources) (s : Status) (old new : Option (List ℕ)) (m : Kept) (input : List ℕ) (still : Type 0) →
    RanGenerated size source s old new m → CutOffAt (bulk size) source input m old new still
cut-generated size source s old new m input still r =
    (r.tables, r.runs, bulk-stands size r.tables MOST_STEPS m _ old new r.runs.accepted r.stands (all-prefix _) r.wrote)

cut-well : (c : Command) (source : Sources) (left old new : Option (List ℕ)) (m : Kept) (still : Type 0) → EndsWell c source left old new m still →
    CutOff c source left old new m still
cut-well (run slides file n every report) source left old new m still r =
    cut-ran slides file n every report source left status.Done old new m still r
cut-well (plain file n) source left old new m still r = cut-beside file n source left status.Done old new m still r
cut-well (fmt file) source left old new m still r = (r.tree, r.means, r.fresh, whole-part old new _ r.wrote)
cut-well (check file) source left old new m still r = (r.tree, r.runs, r.fresh, whole-part old new _ r.wrote)
cut-well (code file) source left old new m still r = (r.tree, r.runs, r.fresh, whole-part old new _ r.wrote)
cut-well (pack file) source left old new m still r = (r.tree, r.runs, r.fresh, whole-part old new _ r.wrote)
cut-well (bulk size) source left old new m still r = cut-generated size source status.Done old new m [] still r
cut-well (exec file n every report) source left old new m still r = cut-exec file n every report source left status.Done old new m still r
cut-well (when file plan keep) source left old new m still r = absurd r

cut-stops : (c : Command) (source : Sources) (left : Option (List ℕ)) (s : Status) (old new : Option (List ℕ)) (m : Kept) (still : Type 0) →
    StopsRun c source left s old new m still → CutOff c source left old new m still
cut-stops (run slides file n every report) source left s old new m still r =
    cut-ran slides file n every report source left s old new m still r
cut-stops (plain file n) source left s old new m still r = cut-beside file n source left s old new m still r
cut-stops (fmt file) source left s old new m still r = absurd r
cut-stops (check file) source left s old new m still r = absurd r
cut-stops (code file) source left s old new m still r = absurd r
cut-stops (pack file) source left s old new m still r = absurd r
cut-stops (bulk size) source left s old new m still r = cut-generated size source s old new m [] still r
cut-stops (exec file n every report) source left s old new m still r = cut-exec file n every report source left s old new m still r
cut-stops (when file plan keep) source left s old new m still r = absurd r

no_lie : true ≡ false → ⊥
no_lie e = cc

-- one of the steps asks
asked : (t : Tree) (input : List ℕ) (n k : ℕ) (old new : Option (List ℕ)) (still : Type 0) → AsksAfter t input n k old new →
    NeverAsks t input n → still
asked t input n k old new still asks none = absurd (no_lie (sym asks.asks ∙ none k asks.before))

-- a run that was cut off by the input stands at a whole step
cut-input : (c : Command) (source : Sources) (left old new : Option (List ℕ)) (m : Kept) (still : Type 0) →
    ForInput left (λ input. CutAtInput c source input m old new) → CutOff c source left old new m still
cut-input (run slides file n every report) source left old new m still h =
    let t = h.2.0 in
    let asks = h.2.3 in (
      h.0,
      h.1,
      (
        t,
        h.2.1,
        record {
          within = omega (arith, asks.before);
          made = asks.made;
          stands = h.2.2;
          wrote = wrote-whole t h.0 m.steps old new asks.wrote;
        },
        asked (program_of t) h.0 n m.steps old new still asks,
      ),
    )
cut-input (plain file n) source left old new m still h =
    let t = h.2.0 in
    let asks = h.2.4 in (
      h.0,
      h.1,
      (
        t,
        h.2.1,
        h.2.2,
        text-part t h.0 h.2.3 n old new (omega (arith, asks.before)) asks.wrote,
        run-is-sound t h.2.1.accepted h.0 n,
        asked t h.0 n h.2.3 old new still asks,
      ),
    )
cut-input (fmt file) source left old new m still h = absurd h.2
cut-input (check file) source left old new m still h = absurd h.2
cut-input (code file) source left old new m still h = absurd h.2
cut-input (pack file) source left old new m still h = absurd h.2
cut-input (bulk size) source left old new m still h = absurd h.2
cut-input (exec file n every report) source left old new m still h =
    let t = h.2.0 in
    let asks = h.2.3 in (
      h.0,
      h.1,
      (
        t,
        h.2.1,
        record {
          within = omega (arith, asks.before);
          made = asks.made;
          stands = h.2.2;
          wrote = wrote-whole t h.0 m.steps old new asks.wrote;
        },
        asked (program_of t) h.0 n m.steps old new still asks,
      ),
    )
cut-input (when file plan keep) source left old new m still h =
    (h.0, h.1, (h.2.0, h.2.1, h.2.2, h.2.3, h.2.4, nothing-part old new _ h.2.5))

cut-at : (c : Command) (source : Sources) (left old new : Option (List ℕ)) (m : Kept) (still : Type 0) → CutOff c source left old new m still →
    ForInput left (λ input. CutOffAt c source input m old new still)
cut-at (run slides file n every report) source left old new m still h = h
cut-at (plain file n) source left old new m still h = h
cut-at (fmt file) source left old new m still h = for-input left _ (λ input. h)
cut-at (check file) source left old new m still h = for-input left _ (λ input. h)
cut-at (code file) source left old new m still h = for-input left _ (λ input. h)
cut-at (pack file) source left old new m still h = for-input left _ (λ input. h)
cut-at (bulk size) source left old new m still h = for-input left _ (λ input. h)
cut-at (exec file n every report) source left old new m still h = h
cut-at (when file plan keep) source left old new m still h = h

untouched-or : (c : Command) (source : Sources) (left old new : Option (List ℕ)) (m : Kept) (still : Type 0) →
    Untouched m old new still ⊎ CutOff c source left old new m still →
    Untouched m old new still ⊎ ForInput left (λ input. CutOffAt c source input m old new still)
untouched-or c source left old new m still (inl u) = inl u
untouched-or c source left old new m still (inr h) = inr (cut-at c source left old new m still h)

-- whatever was answered, the machine is fresh or stands at a whole step
pub cut-of : (c : Command) (source : Sources) (left : Option (List ℕ)) (s : Status) (old new : Option (List ℕ)) (m : Kept) (still : Type 0) →
    Settles c source left s old new m still → Untouched m old new still ⊎ ForInput left (λ input. CutOffAt c source input m old new still)
cut-of c source left status.Done old new m still h = inr (cut-at c source left old new m still (cut-well c source left old new m still h))
cut-of c source left (status.Refused f) old new m still h = inl h.1
cut-of c source left status.Usage old new m still h = absurd h
cut-of c source left (status.Trap kind line) old new m still h =
    inr (cut-at c source left old new m still (cut-stops c source left (status.Trap kind line) old new m still h))
cut-of c source left status.Spent old new m still h =
    inr (cut-at c source left old new m still (cut-stops c source left status.Spent old new m still h))
cut-of c source left (status.Away n) old new m still h = absurd h
cut-of c source left status.SourceFault old new m still h = absurd h
cut-of c source left status.InputFault old new m still h = inr (cut-at c source left old new m still (cut-input c source left old new m still h))
cut-of c source left status.OutputFault old new m still h = untouched-or c source left old new m still h
cut-of c source left status.Memory old new m still h = untouched-or c source left old new m still h
cut-of c source left status.Long old new m still h = inl h.1

-- what is expected where nothing was cut off
pub status-of : (c : Command) (source : Sources) (left : Option (List ℕ)) (s : Status) (old new : Option (List ℕ)) (m : Kept) (still : Type 0) →
    Settles c source left s old new m still → ForInput left (λ input. ExpectsStatus c source input s) ⊎ (is_from_outside s ≡ true)
status-of c source left s old new m still h = go s h (answers-of c source left s old new m still h)
  where
    expects : (s : Status) → ForInput left (λ input. Answers c source input s old new m still) →
        ForInput left (λ input. ExpectsStatus c source input s)
    expects s (input, is, a) = (input, is, (numbers_of m, a.text, (a.meaning, a.means, a.expects)))

    go : (s : Status) → Settles c source left s old new m still →
        OnTrue (is_answer s) (ForInput left (λ input. Answers c source input s old new m still)) →
        ForInput left (λ input. ExpectsStatus c source input s) ⊎ (is_from_outside s ≡ true)
    go status.Done h a = inl (expects status.Done a)
    go (status.Refused f) h a = inl (expects (status.Refused f) a)
    go status.Usage h a = absurd h
    go (status.Trap kind line) h a = inl (expects (status.Trap kind line) a)
    go status.Spent h a = inl (expects status.Spent a)
    go (status.Away n) h a = absurd h
    go status.SourceFault h a = inr refl
    go status.InputFault h a = inr refl
    go status.OutputFault h a = inr refl
    go status.Memory h a = inr refl
    go status.Long h a = inl (expects status.Long a)

-- what was answered to a schedule
module _ (told : Option Told) (c : Command) (left : Option (List ℕ)) (s : Status) (old new : Option (List ℕ)) (m : Kept) (still : Type 0)
    (r : RanSchedule told c left s old new m) where
  schedule-answers : Answered (schedule_answer r.tree r.plan r.images (keep_of c)) left s old new → ForInput left (λ input. Answers c r.source input s old new m still)
  schedule-answers h = (
    h.0,
    h.1,
    record {
      meaning = planned r.tree r.plan r.images;
      means = r.means;
      text = h.2.0;
      expects = h.2.1;
      wrote = h.2.2;
      leaves = r.fresh;
    },
  )

-- a schedule's plan is meant to `when`
cut-planned : (c : Command) (source : Sources) (t : Tree) (p : PlanOf) (images : List CargoList) (input : List ℕ) (m : Kept)
    (old new : Option (List ℕ)) (still : Type 0) →
    MeansFrom (origin_of c) source (planned t p images) → IsFresh m → AppendsPart old new (schedule_answer t p images (keep_of c) input).text →
    CutOffAt c source input m old new still
cut-planned (run slides file n every report) source t p images input m old new still h fresh part = absurd h
cut-planned (plain file n) source t p images input m old new still h fresh part = absurd h
cut-planned (fmt file) source t p images input m old new still h fresh part = absurd h
cut-planned (check file) source t p images input m old new still h fresh part = absurd h
cut-planned (code file) source t p images input m old new still h fresh part = absurd h
cut-planned (pack file) source t p images input m old new still h fresh part = absurd h
cut-planned (bulk size) source t p images input m old new still h fresh part = let lie : planned t p images ≡ spelt _ = h in absurd (cc)
cut-planned (exec file n every report) source t p images input m old new still h fresh part = absurd h
cut-planned (when file plan keep) source t p images input m old new still h fresh part = (t, p, images, h, fresh, part)

input-planned : (c : Command) (source : Sources) (t : Tree) (p : PlanOf) (images : List CargoList) (input : List ℕ) (m : Kept)
    (old new : Option (List ℕ)) →
    MeansFrom (origin_of c) source (planned t p images) → IsFresh m → new ≡ old → CutAtInput c source input m old new
input-planned (run slides file n every report) source t p images input m old new h fresh silent = absurd h
input-planned (plain file n) source t p images input m old new h fresh silent = absurd h
input-planned (fmt file) source t p images input m old new h fresh silent = absurd h
input-planned (check file) source t p images input m old new h fresh silent = absurd h
input-planned (code file) source t p images input m old new h fresh silent = absurd h
input-planned (pack file) source t p images input m old new h fresh silent = absurd h
input-planned (bulk size) source t p images input m old new h fresh silent = let lie : planned t p images ≡ spelt _ = h in absurd (cc)
input-planned (exec file n every report) source t p images input m old new h fresh silent = absurd h
input-planned (when file plan keep) source t p images input m old new h fresh silent = (t, p, images, h, fresh, silent)

pub schedule-of : (told : Option Told) (c : Command) (left : Option (List ℕ)) (s : Status) (old new : Option (List ℕ)) (m : Kept) (still : Type 0)
    (r : RanSchedule told c left s old new m) → OnTrue (is_answer s) (ForInput left (λ input. Answers c r.source input s old new m still))
schedule-of told c left status.Done old new m still r = schedule-answers told c left status.Done old new m still r r.settles
schedule-of told c left (status.Refused f) old new m still r = schedule-answers told c left (status.Refused f) old new m still r r.settles
schedule-of told c left status.Usage old new m still r = tt
schedule-of told c left (status.Trap kind line) old new m still r = absurd r.settles
schedule-of told c left status.Spent old new m still r = schedule-answers told c left status.Spent old new m still r r.settles
schedule-of told c left (status.Away n) old new m still r = schedule-answers told c left (status.Away n) old new m still r r.settles
schedule-of told c left status.SourceFault old new m still r = tt
schedule-of told c left status.InputFault old new m still r = tt
schedule-of told c left status.OutputFault old new m still r = tt
schedule-of told c left status.Memory old new m still r = tt
schedule-of told c left status.Long old new m still r = absurd r.settles

-- of its text a part was written, all of it or nothing
pub schedule-cut : (told : Option Told) (c : Command) (left : Option (List ℕ)) (s : Status) (old new : Option (List ℕ)) (m : Kept) (still : Type 0)
    (r : RanSchedule told c left s old new m) → ForInput left (λ input. CutOffAt c r.source input m old new still)
schedule-cut told c left s old new m still r =
    let part = go s r.settles in (part.0, part.1, cut-planned c r.source r.tree r.plan r.images part.0 m old new still r.means r.fresh part.2)
  where
    Part : Type 0
    Part = ForInput left (λ input. AppendsPart old new (schedule_answer r.tree r.plan r.images (keep_of c) input).text)

    whole : (s : Status) → Answered (schedule_answer r.tree r.plan r.images (keep_of c)) left s old new → Part
    whole s h =
        let P : List ℕ → Type 0 = λ q. AppendsPart old new q in
        (h.0, h.1, subst P (sym (ap (λ (a : Answer). a.text) h.2.1)) (whole-part old new h.2.0 h.2.2))

    go : (s : Status) → SettlesSchedule r.tree r.plan r.images (keep_of c) left s old new → Part
    go status.Done h = whole status.Done h
    go (status.Refused f) h = whole (status.Refused f) h
    go status.Usage h = absurd h
    go (status.Trap kind line) h = absurd h
    go status.Spent h = whole status.Spent h
    go (status.Away n) h = whole (status.Away n) h
    go status.SourceFault h = absurd h
    go status.InputFault h = for-input left _ (λ input. nothing-part old new _ h)
    go status.OutputFault h = h
    go status.Memory h = h
    go status.Long h = absurd h

pub schedule-input : (told : Option Told) (c : Command) (left : Option (List ℕ)) (old new : Option (List ℕ)) (m : Kept)
    (r : RanSchedule told c left status.InputFault old new m) → ForInput left (λ input. CutAtInput c r.source input m old new)
schedule-input told c left old new m r =
    for-input left _ (λ input. input-planned c r.source r.tree r.plan r.images input m old new r.means r.fresh r.settles)

-- what is expected, where nothing was cut off
pub schedule-status : (told : Option Told) (c : Command) (left : Option (List ℕ)) (s : Status) (old new : Option (List ℕ)) (m : Kept)
    (r : RanSchedule told c left s old new m) → ForInput left (λ input. ExpectsStatus c r.source input s) ⊎ (is_from_outside s ≡ true)
schedule-status told c left s old new m r = go s r.settles (schedule-of told c left s old new m (Unit {0}) r)
  where
    expects : (s : Status) → ForInput left (λ input. Answers c r.source input s old new m (Unit {0})) →
        ForInput left (λ input. ExpectsStatus c r.source input s)
    expects s (input, is, a) = (input, is, (numbers_of m, a.text, (a.meaning, a.means, a.expects)))

    go : (s : Status) → SettlesSchedule r.tree r.plan r.images (keep_of c) left s old new →
        OnTrue (is_answer s) (ForInput left (λ input. Answers c r.source input s old new m (Unit {0}))) →
        ForInput left (λ input. ExpectsStatus c r.source input s) ⊎ (is_from_outside s ≡ true)
    go status.Done h a = inl (expects status.Done a)
    go (status.Refused f) h a = inl (expects (status.Refused f) a)
    go status.Usage h a = absurd h
    go (status.Trap kind line) h a = absurd h
    go status.Spent h a = inl (expects status.Spent a)
    go (status.Away n) h a = inl (expects (status.Away n) a)
    go status.SourceFault h a = inr refl
    go status.InputFault h a = inr refl
    go status.OutputFault h a = inr refl
    go status.Memory h a = inr refl
    go status.Long h a = absurd h

-- a schedule that is refused has written nothing
pub schedule-refused : (told : Option Told) (c : Command) (left : Option (List ℕ)) (f : Fault) (old new : Option (List ℕ)) (m : Kept)
    (r : RanSchedule told c left (status.Refused f) old new m) → (is_scheduled c ≡ true) × IsBadSchedule (status.Refused f) × (new ≡ old)
schedule-refused told c left f old new m r =
    let said = schedule_of (length r.plan.behaviours) r.settles.0 in
    let bad = said-refused r.tree r.plan r.images (keep_of c) said (status.Refused f) r.settles.2.0 refl r.settles.2.1 in (
      plan-needed c r.source r.tree r.plan r.images r.means,
      bad.0,
      silent old new r.settles.2.0 bad.1 r.settles.2.2,
    )
  where
    silent : (old new : Option (List ℕ)) (bytes : List ℕ) → bytes ≡ [] → Appends old new bytes → new ≡ old
    silent None new bytes none h = h
    silent (Some xs) new bytes none h = h ∙ ap (λ q. Some (xs ++ q)) none ∙ ap Some (append-nil xs)
