-- A run of the stack machine, one step after another, beside that of the machine that never frees.
use Rattle.std.proofs.Common.{◌≡◌, ◌≢◌, ℕ, zero, suc, ◌+◌, ◌≤◌, ◌<◌, Bool, true, false, inl, inr, List, [], ◌∷◌, ◌++◌, Option}
use Rattle.std.proofs.Common.{refl, sym, subst, arith}
use Rattle.rg_base.specs.declared.outcome.Outcome.{Outcome}
use Rattle.rg_base.specs.declared.outcome.Outcome.TheVariants as outcome
use Rattle.rg_base.specs.declared.outcome.Ended.{Ended}
use Rattle.rg_base.specs.declared.outcome.Ended.TheVariants as ended
use Rattle.rg_base.specs.declared.outcome.Trap.{Trap}
use Rattle.rg_base.specs.declared.value.Val.{Val}
use Rattle.rg_base.specs.Text.{line_text}
use Rattle.rg_io.specs.Content.{Appends, AppendsPart}
use Rattle.rg_tree.specs.Tree.{Class}
use Rattle.rg_tree.specs.Rows.Tables.{Tables}
use Rattle.rg_tree.specs.Rows.RowTrees.{classes_of, program_of}
use Rattle.rg_rules.specs.Acceptance.{Accepted}
use Rattle.rg_rules.specs.Outside.Inputs.{first_asks}
use Rattle.rg_rules.specs.Items.{Item}
use Rattle.rg_rules.specs.State.{State}
use Rattle.rg_rules.specs.Steps.{Went, next}
use Rattle.rg_rules.specs.Runs.{opening}
use Rattle.rg_sound.proofs.Law.{step-keeps}
use Rattle.rg_input.specs.Numbers.{Pending, Follows, OnInput}
use Rattle.rg_input.proofs.Input.{OnInput-some}
use Rattle.rg_code.specs.Code.{Code}
use Rattle.rg_code.specs.Lowering.{Lowers}
use Rattle.rg_plain.specs.Outcomes.{EndsMain, Settles}
use Rattle.rg_plain.specs.Runs.{RunShows, NoneAsks, Whole, CutOff, begun}
use Rattle.rg_plain.proofs.Behind.{settles_by, ends_by}
use Rattle.rg_plain.proofs.Runs.Run.{RanSoFar}
use Rattle.rg_plain.proofs.Runs.Run as run
use Rattle.rg_plain.proofs.Rows.Machine.{ends-items_of}
use Rattle.rg_stack.specs.Machine.{Machine}
use Rattle.rg_stack.specs.Runs.{opening as opened}
use Rattle.rg_stack.specs.Left.{NoneLeft, SomeLeft}
use Rattle.rg_stack.proofs.Callers.Opening.{opening-shows, opening-fit}
use Rattle.rg_stack.proofs.Callers.Run.{opening_left}
use Rattle.rg_held.specs.Shown.{ShowsHeld}
use Rattle.rg_held.proofs.Callers.Opening.{opening-match}
use Rattle.rg_machine.specs.Parts.{machine_in}
use Rattle.rg_step.specs.Steps.{opening_machine}
use Rattle.rg_step.specs.Stepping.{Stepping}
use Rattle.rg_step.specs.Steps.{Leapt, Runs, IsRunning, StepsOn}
use Rattle.rg_step.specs.Steps as stepper
use Rattle.rg_step.specs.Pacers.{Asks}
use Rattle.rg_run.specs.Asked.{AskedOver}
use Rattle.rg_run.specs.Collected.{Tells}
use Rattle.rg_run.specs.Machine.{Kept, ShowsAt}
use Rattle.rg_run.specs.Runs.{Ran}
use Rattle.rg_run.specs.Inner.{IsUntold}
use Rattle.rg_run.proofs.Run.{wrote-whole}
use Rattle.rg_run.proofs.Since.{SinceOver}
use Rattle.rg_run.proofs.Sound.{run-is-sound}
use Rattle.rg_run.proofs.State.{LeadsTo, standing}

pub some-is : (items : List Item) → SomeLeft items → items ≢ []
some-is [] some e = some
some-is (i ∷ rest) some e = cc

is-some : (items : List Item) → items ≢ [] → SomeLeft items
is-some [] some = absurd (some refl)
is-some (i ∷ rest) some = tt

pub none-is : (items : List Item) → NoneLeft items → items ≡ []
none-is [] gone = refl
none-is (i ∷ rest) gone = absurd gone

pub first-is : (items : List Item) → SomeLeft items → (first : Item) × (rest : List Item) × (items ≡ first ∷ rest)
first-is [] some = absurd some
first-is (i ∷ rest) some = (i, rest, refl)

module _ (classes : List Class) (s u : State) (first : Item) (rest : List Item) (items : s.items ≡ first ∷ rest) (ends : EndsMain s.items) where
  pub printed-by : (v : Val) (its : List Item) → u.items ≡ its → next classes s ≡ Went u → u.output ≡ s.output ++ v ∷ [] →
      Settles (next classes s) s u (outcome.Printed v)
  printed-by v [] is went out =
      settles_by classes s u first rest items ends (outcome.Printed v) true (went, out) (inr tt) (λ e. is) (λ e. cc)
  printed-by v (i ∷ its) is went out =
      settles_by classes s u first rest items ends (outcome.Printed v) false (went, out) (inr tt) (λ e. cc) (λ e some. cc)

  -- what the stepper answers is what a step of the machine that never frees answers
  settles-as : (r : Outcome) → stepper.Settles (next classes s) s u r → Settles (next classes s) s u r
  settles-as outcome.Running h = (h.0, some-is u.items h.1, h.2)
  settles-as (outcome.Printed v) h = printed-by v u.items refl h.0 h.1
  settles-as outcome.Done h = (h.0, none-is u.items h.1, h.2)
  settles-as (outcome.Trap kind line) h = h
  settles-as outcome.InputFault h = h
  settles-as outcome.Memory h = h

  behind-ends : next classes s ≡ Went u → EndsMain u.items
  behind-ends went = ends_by classes s u first rest items ends outcome.Running went

-- Between two steps: the state, how it was reached, that the machine shows it, and what holds where no step so far asks.
pub record Between (t : Tables) (code : Code) (k : ℕ) (m : Machine) (old new : Option (List ℕ)) (Still : Type 0)
    (before after : List ℕ) : Type 0 where
  pub state : State
  pub so_far : RanSoFar t (opening (program_of t) before) k state old new
  pub runs : Runs (program_of t) code m state
  pub input : state.input ≡ after
  pub ends : EndsMain state.items
  pub unread : NoneAsks t (opening (program_of t) before) k → Still

-- So a run stands: how far it has come, the asks of its steps so far, those since each pacer's last yes, and the states between these steps.
pub record Turns (t : Tables) (code : Code) (k : ℕ) (st : Stepping) (old new : Option (List ℕ)) (Still : Type 0) (first now : Asks)
    (before after : List ℕ) : Type 0 where
  pub between : Between t code k (machine_in st.parts) old new Still before after
  pub asked : AskedOver (program_of t) before k first now
  pub since : SinceOver (program_of t) before k st
  pub told : Tells (program_of t) before k st.events
  pub states : LeadsTo code t.manager k first (standing st now) before after

-- a machine that has begun stands between two steps
pub begins : (t : Tables) (code : Code) (m : Machine) (content : Option (List ℕ)) (Still : Type 0) (bytes : List ℕ) → Accepted (program_of t) →
    Lowers (program_of t) code → m ≡ opening_machine code t.manager → Appends content content [] → Still →
    Between t code 0 m content content Still bytes bytes
begins t code m content Still bytes accepted lowers is nothing still =
    let p = program_of t in
    let P : Machine → Type 0 = λ q. ShowsHeld p.classes code q (opening p bytes) in
    let w = opened p code bytes in
    let left = opening_left p.body in
    record {
      state = opening p bytes;
      so_far = run.opening t (opening p bytes) content (some-is _ left) nothing;
      runs = record {
        accepted = accepted;
        lowers = lowers;
        fits = opening-fit p bytes accepted;
        shows = subst P (sym is) (record {
          grown = w.machine;
          held = (opening-match p code bytes).0;
          shows = (opening-shows p code bytes accepted lowers).shows;
          beside = (opening-match p code bytes).1.machine;
        });
        left = left;
      };
      input = refl;
      ends = ends-items_of p.body;
      unread = λ none. still;
    }

-- what a step has answered and shows, from a state
record Stepped (t : Tables) (code : Code) (new : Machine) (p : State) (r : Outcome) (after : List ℕ) : Type 0 where
  pub state : State
  pub settles : Settles (next (classes_of t) p) p state r
  pub shows : ShowsHeld (classes_of t) code new state
  pub input : state.input ≡ after

step-is : (t : Tables) (code : Code) (k : ℕ) (m new : Machine) (old out : Option (List ℕ)) (Still : Type 0) (before between after : List ℕ)
    (r : Outcome) →
    (b : Between t code k m old out Still before between) → StepsOn code m new r between after → Stepped t code new b.state r after
step-is t code k m new old out Still before between after r b step =
    let h = step (program_of t) b.state b.runs b.input in
    let first = first-is b.state.items b.runs.left in
    record {
      state = h.0;
      settles = settles-as (classes_of t) b.state h.0 first.0 first.1 first.2 b.ends r h.1;
      shows = h.2;
      input = h.3;
    }

-- the program runs on behind a step that went on
runs-on : (t : Tables) (code : Code) (m new : Machine) (p q : State) → Runs (program_of t) code m p → next (classes_of t) p ≡ Went q → q.items ≢ [] →
    ShowsHeld (classes_of t) code new q → Runs (program_of t) code new q
runs-on t code m new p q runs went some shows = record {
  accepted = runs.accepted;
  lowers = runs.lowers;
  fits = (step-keeps (program_of t) p q runs.accepted runs.fits went).fit;
  shows = shows;
  left = is-some q.items some;
}

ends-on : (t : Tables) (p q : State) → SomeLeft p.items → EndsMain p.items → next (classes_of t) p ≡ Went q → EndsMain q.items
ends-on t p q left ends went =
    let first = first-is p.items left in behind-ends (classes_of t) p q first.0 first.1 first.2 ends went

module _ (t : Tables) (code : Code) (k : ℕ) (m new : Machine) (Before After : Type 0) (before between after : List ℕ)
    (more : (p : State) → Runs (program_of t) code m p → first_asks p.items ≡ false → Before → After) where
  -- where no step asks, also not this one, what held before it holds behind it
  still-behind : (old out : Option (List ℕ)) (b : Between t code k m old out Before before between) →
      NoneAsks t (opening (program_of t) before) (k + 1) → After
  still-behind old out b =
      run.none_more t (opening (program_of t) before) k b.state old out Before After b.so_far b.unread (more b.state b.runs)

  -- a step that went on and printed nothing
  pub quiet : (old out : Option (List ℕ)) → Between t code k m old out Before before between → StepsOn code m new outcome.Running between after →
      Between t code (k + 1) new old out After before after
  quiet old out b step =
      let q = step-is t code k m new old out Before before between after outcome.Running b step in
      record {
        state = q.state;
        so_far = run.quiet t (opening (program_of t) before) k b.state q.state old out b.so_far q.settles;
        runs = runs-on t code m new b.state q.state b.runs q.settles.0 q.settles.1 q.shows;
        input = q.input;
        ends = ends-on t b.state q.state b.runs.left b.ends q.settles.0;
        unread = still-behind old out b;
      }

  -- a step that printed a value, whose line was then taken
  pub printed : (v : Val) (old middle out : Option (List ℕ)) → Between t code k m old middle Before before between →
      StepsOn code m new (outcome.Printed v) between after → Appends middle out (line_text v) → Between t code (k + 1) new old out After before after
  printed v old middle out b step line =
      let q = step-is t code k m new old middle Before before between after (outcome.Printed v) b step in
      record {
        state = q.state;
        so_far = run.printed t (opening (program_of t) before) k b.state q.state v old middle out b.so_far q.settles line;
        runs = runs-on t code m new b.state q.state b.runs q.settles.0 q.settles.1 q.shows;
        input = q.input;
        ends = ends-on t b.state q.state b.runs.left b.ends q.settles.0;
        unread = still-behind old middle b;
      }

-- so many steps that went on, printed nothing and left the input
pub leapt : (t : Tables) (code : Code) (k j : ℕ) (m new : Machine) (Before : Type 0) (before between : List ℕ) (old out : Option (List ℕ)) →
    Between t code k m old out Before before between → Leapt code j m new → Between t code (k + j) new old out Before before between
leapt t code k zero m new Before before between old out b h =
    let same : k ≡ k + 0 = omega arith in
    let P : Machine → Type 0 = λ x. Between t code (k + 0) x old out Before before between in
    let Q : ℕ → Type 0 = λ n. Between t code n m old out Before before between in
    subst P (sym h) (subst Q same b)
leapt t code k (suc j) m new Before before between old out b h =
    let same : k + j + 1 ≡ k + suc j = omega arith in
    let Q : ℕ → Type 0 = λ n. Between t code n new old out Before before between in
    subst Q same (quiet t code (k + j) h.0 new Before Before before between between (λ p runs none x. x) old out
    (leapt t code k j m h.0 Before before between old out b h.1) (h.3 between))

-- a run of k steps that nothing cut off, as one of more steps that was cut off behind them
cut-whole : (t : Tables) (before : List ℕ) (n k : ℕ) (Shows : State → Type 0) (old out : Option (List ℕ)) (whole e : Ended) → k ≤ n → IsUntold e →
    Whole t (opening (program_of t) before) k k Shows old out whole → RunShows t (opening (program_of t) before) n k Shows old out e
cut-whole t before n k Shows old out whole e within untold w = by untold
  where
    cut : CutOff t (opening (program_of t) before) n k Shows old out
    cut = record {
      stands = record { within = within; made = sym w.steps_are; shows = w.shows };
      wrote = wrote-whole t before k old out w.text_is;
    }

    by : IsUntold e → RunShows t (opening (program_of t) before) n k Shows old out e
    by (inl is) = let P : Ended → Type 0 = λ q. RunShows t (opening (program_of t) before) n k Shows old out q in subst P (sym is) cut
    by (inr is) = let P : Ended → Type 0 = λ q. RunShows t (opening (program_of t) before) n k Shows old out q in subst P (sym is) cut

module _ (t : Tables) (code : Code) (n k : ℕ) (within : k < n) (m : Machine) (new : Stepping) (Before After : Type 0) (before between after : List ℕ)
    (more : (p : State) → Runs (program_of t) code m p → first_asks p.items ≡ false → Before → After) (started : Bool) (is : started ≡ true) where
  -- the machine behind the run
  abbrev behind : ℕ → Kept
  behind steps = record { begun = started; stepper = new; steps = steps }

  shows-at : (steps : ℕ) (p q : State) → Runs (program_of t) code m p → ShowsHeld (classes_of t) code (machine_in new.parts) q → q.input ≡ after →
      ShowsAt t (behind steps) after q
  shows-at steps p q runs shows input = (record { begun = is; code = code; lowers = runs.lowers; state = shows }, input)

  ran-is : (steps : ℕ) (old mid out : Option (List ℕ)) (e : Ended) → begun e steps ≤ n → k + 1 ≡ begun e steps →
      Between t code k m old mid Before before between →
      RunShows t (opening (program_of t) before) n steps (ShowsAt t (behind steps) after) old out e →
      Ran t n old out (behind steps) e After before after
  ran-is steps old mid out e began all b h =
      record {
        begun = is;
        run = h;
        sound = run-is-sound (program_of t) b.runs.accepted before n;
        unread = λ none. still-behind t code k m (machine_in new.parts) Before After before between after more old mid b
            (λ j l. none j (omega (arith, l, all, began)));
      }

  pub done : (old out : Option (List ℕ)) → Between t code k m old out Before before between
      → StepsOn code m (machine_in new.parts) outcome.Done between after →
      Ran t n old out (behind (k + 1)) ended.Done After before after
  done old out b step =
      let q = step-is t code k m (machine_in new.parts) old out Before before between after outcome.Done b step in
      ran-is (k + 1) old out out ended.Done (omega (arith, within)) refl b
      (run.done t (opening (program_of t) before) n k b.state q.state (ShowsAt t (behind (k + 1)) after) old out within b.so_far q.settles
      (shows-at (k + 1) b.state q.state b.runs q.shows q.input))

  -- the last step was made, and its collection wasn't told
  pub done_untold : (e : Ended) → IsUntold e → (old out : Option (List ℕ)) → Between t code k m old out Before before between →
      StepsOn code m (machine_in new.parts) outcome.Done between after → Ran t n old out (behind (k + 1)) e After before after
  done_untold e untold old out b step =
      let q = step-is t code k m (machine_in new.parts) old out Before before between after outcome.Done b step in
      let less : k < k + 1 = omega arith in
      let w = run.done t (opening (program_of t) before) (k + 1) k b.state q.state (ShowsAt t (behind (k + 1)) after) old out less b.so_far q.settles
      (shows-at (k + 1) b.state q.state b.runs q.shows q.input) in
      record {
        begun = is;
        run = cut-whole t before n (k + 1) (ShowsAt t (behind (k + 1)) after) old out ended.Done e (omega (arith, within)) untold w;
        sound = run-is-sound (program_of t) b.runs.accepted before n;
        unread = λ none. still-behind t code k m (machine_in new.parts) Before After before between after more old out b
            (λ j l. none j (omega (arith, l, within)));
      }

  pub trapped : (kind : Trap) (line : ℕ) (old out : Option (List ℕ)) → Between t code k m old out Before before between →
      StepsOn code m (machine_in new.parts) (outcome.Trap kind line) between after →
      Ran t n old out (behind k) (ended.Trap kind line) After before after
  trapped kind line old out b step =
      let q = step-is t code k m (machine_in new.parts) old out Before before between after (outcome.Trap kind line) b step in
      ran-is k old out out (ended.Trap kind line) (omega (arith, within)) refl b
      (run.trapped t (opening (program_of t) before) n k b.state q.state kind line (ShowsAt t (behind k) after) old out within b.so_far q.settles
      (shows-at k b.state q.state b.runs q.shows q.input))

  pub cut_before : (old out : Option (List ℕ)) → Between t code k m old out Before before between →
      StepsOn code m (machine_in new.parts) outcome.Memory between after → Ran t n old out (behind k) ended.Memory After before after
  cut_before old out b step =
      let q = step-is t code k m (machine_in new.parts) old out Before before between after outcome.Memory b step in
      ran-is k old out out ended.Memory (omega (arith, within)) refl b
      (run.cut_before t (opening (program_of t) before) n k b.state q.state (ShowsAt t (behind k) after) old out within b.so_far q.settles
      (shows-at k b.state q.state b.runs q.shows q.input))

  pub cut_at_input : (old out : Option (List ℕ)) → ((p : State) → Runs (program_of t) code m p → first_asks p.items ≡ true) →
      Between t code k m old out Before before between → StepsOn code m (machine_in new.parts) outcome.InputFault between after →
      Ran t n old out (behind k) ended.InputFault After before after
  cut_at_input old out asks b step =
      let q = step-is t code k m (machine_in new.parts) old out Before before between after outcome.InputFault b step in
      ran-is k old out out ended.InputFault (omega (arith, within)) refl b
      (run.cut_at_input t (opening (program_of t) before) n k b.state q.state (ShowsAt t (behind k) after) old out within (asks b.state b.runs)
      b.so_far q.settles (shows-at k b.state q.state b.runs q.shows q.input))

  pub cut_behind : (v : Val) (old middle out : Option (List ℕ)) → Between t code k m old middle Before before between →
      StepsOn code m (machine_in new.parts) (outcome.Printed v) between after → AppendsPart middle out (line_text v) →
      Ran t n old out (behind (k + 1)) ended.OutputFault After before after
  cut_behind v old middle out b step part =
      let q = step-is t code k m (machine_in new.parts) old middle Before before between after (outcome.Printed v) b step in
      ran-is (k + 1) old middle out ended.OutputFault (omega (arith, within)) refl b
      (run.cut_behind t (opening (program_of t) before) n k b.state q.state v (ShowsAt t (behind (k + 1)) after) old middle out within b.so_far
      q.settles (shows-at (k + 1) b.state q.state b.runs q.shows q.input) part)

-- all steps were made
pub spent : (t : Tables) (code : Code) (n k : ℕ) (st : Stepping) (old out : Option (List ℕ)) (Still : Type 0) (before after : List ℕ) (started : Bool)
    →
    started ≡ true → k ≡ n → Between t code k (machine_in st.parts) old out Still before after →
    Ran t n old out (record { begun = started; stepper = st; steps = k }) ended.Spent Still before after
spent t code n k st old out Still before after started is all b =
    let m : Kept = record { begun = started; stepper = st; steps = k } in
    record {
      begun = is;
      run = run.spent t (opening (program_of t) before) n k b.state (ShowsAt t m after) old out all b.so_far
          (record { begun = is; code = code; lowers = b.runs.lowers; state = b.runs.shows }, b.input);
      sound = run-is-sound (program_of t) b.runs.accepted before n;
      unread = λ none. b.unread (λ j l. none j (omega (arith, l, all)));
    }

-- a step went on, and its collection wasn't told
pub untold : (t : Tables) (code : Code) (n k : ℕ) (st : Stepping) (old out : Option (List ℕ)) (Still : Type 0) (before after : List ℕ)
    (started : Bool) →
    started ≡ true → k ≤ n → (e : Ended) → IsUntold e → Between t code k (machine_in st.parts) old out Still before after →
    Ran t n old out (record { begun = started; stepper = st; steps = k }) e Still before after
untold t code n k st old out Still before after started is within e cut b =
    let m : Kept = record { begun = started; stepper = st; steps = k } in
    let w = run.spent t (opening (program_of t) before) k k b.state (ShowsAt t m after) old out refl b.so_far
    (record { begun = is; code = code; lowers = b.runs.lowers; state = b.runs.shows }, b.input) in
    record {
      begun = is;
      run = cut-whole t before n k (ShowsAt t m after) old out ended.Spent e within cut w;
      sound = run-is-sound (program_of t) b.runs.accepted before n;
      unread = λ none. b.unread (λ j l. none j (omega (arith, l, within)));
    }

-- some program runs on the machine
pub is-running : {t : Tables} {code : Code} {k : ℕ} {st : Stepping} {a b : Pending} {left behind old new : Option (List ℕ)} {Still : Type 0}
    {first now : Asks} → Follows b behind → OnInput a b left behind (Turns t code k st old new Still first now) →
    IsRunning code (machine_in st.parts)
is-running {t} {code} {k} {st} {a} {b} {left} {behind} {old} {new} {Still} {first} {now} follows h =
    let q = (OnInput-some a b left behind (Turns t code k st old new Still first now) follows h).2.between in (program_of t, q.state, q.runs)
