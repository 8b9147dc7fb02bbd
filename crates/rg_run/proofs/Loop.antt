-- A turn of the loop of a run: a step more, or the end of the run. All that is told of it is one fact on bytes of the input.
use Rattle.std.proofs.Common.{◌≡◌, ◌∙◌, ℕ, ◌+◌, ◌-◌, ◌^◌, ◌≤◌, ◌<◌, ◌⊎◌, Bool, true, false, true≢false, inl, inr, List, Option, Ok, Err, refl, sym, subst, arith}
use Rattle.rg_base.specs.declared.outcome.Ended.{Ended}
use Rattle.rg_base.specs.declared.outcome.Ended.TheVariants as ended
use Rattle.rg_base.specs.declared.outcome.Outcome.{Outcome}
use Rattle.rg_base.specs.declared.outcome.Outcome.TheVariants as outcome
use Rattle.rg_base.specs.declared.outcome.Trap.{Trap}
use Rattle.rg_base.specs.declared.value.Val.{Val}
use Rattle.rg_base.specs.Text.{line_text}
use Rattle.rg_io.specs.Content.{Appends, AppendsPart}
use Rattle.rg_tree.specs.Tree.{Tree}
use Rattle.rg_tree.specs.Rows.Tables.{Tables}
use Rattle.rg_tree.specs.Rows.RowTrees.{program_of}
use Rattle.rg_rules.specs.Outside.Inputs.{first_asks}
use Rattle.rg_rules.specs.State.{State}
use Rattle.rg_input.specs.Numbers.{Pending, OnInput}
use Rattle.rg_input.proofs.Input.{OnInput-map, OnInput-both as turn}
use Rattle.rg_code.specs.Code.{Code}
use Rattle.rg_stack.specs.Machine.{Machine}
use Rattle.rg_machine.specs.Parts.{machine_in}
use Rattle.rg_step.specs.Pacers.{Asks}
use Rattle.rg_step.specs.States.{Chain, OneStep, Standing}
use Rattle.rg_step.specs.Steps.{Leapt, Runs, StepsOn, counted_by}
use Rattle.rg_step.specs.Stepping.{Stepping}
use Rattle.rg_base.specs.declared.event.Event.{Event}
use Rattle.rg_run.specs.Asked.{AskedOver}
use Rattle.rg_run.specs.Collected.{Tells}
use Rattle.rg_run.specs.Inner.{Gives, IsUntold, behind}
use Rattle.rg_run.specs.Runs.{Ran}
use Rattle.rg_run.specs.States.{LeavesAt, RunsThrough}
use Rattle.rg_run.specs.Whole.{WholeRun}
use Rattle.rg_run.proofs.Ask.{asked-by, asked-leapt}
use Rattle.rg_run.proofs.Collected.{tells-by, tells-leapt}
use Rattle.rg_run.proofs.Run.{since-yes}
use Rattle.rg_run.proofs.Since.{SinceOver}
use Rattle.rg_run.proofs.SinceTurn.{since-by, since-leapt}
use Rattle.rg_run.proofs.State.{LeadsTo, kept, standing, led-on, runs-through, stepped-on, ended-behind, refused-at, untold-leaves}
use Rattle.rg_run.proofs.Turn.{Between, Turns, quiet, printed, leapt}
use Rattle.rg_run.proofs.Turn as run

-- with equal numbers of steps, contents of the output and ends

turns-as : {t : Tables} {code : Code} {k steps : ℕ} {st : Stepping} {a b : Pending} {la lb : Option (List ℕ)} {taken middle out : Option (List ℕ)}
    {Still : Type 0} {first now : Asks} → steps ≡ k → out ≡ middle → OnInput a b la lb (Turns t code k st taken middle Still first now) →
    OnInput a b la lb (Turns t code steps st taken out Still first now)
turns-as {t} {code} {k} {steps} {st} {a} {b} {la} {lb} {taken} {middle} {out} {Still} {first} {now} count same turns =
    let P : ℕ → Option (List ℕ) → Type 0 = λ j o. OnInput a b la lb (Turns t code j st taken o Still first now) in
    subst (λ j. P j out) (sym count) (subst (P k) (sym same) turns)

run-as : {t : Tables} {code : Code} {n k steps : ℕ} {started : Bool} {st : Stepping} {a b : Pending} {la lb : Option (List ℕ)}
    {taken middle out : Option (List ℕ)} {e f : Ended} {Still : Type 0} {first now : Asks} → steps ≡ k → out ≡ middle → f ≡ e →
    OnInput a b la lb (WholeRun t code n taken middle (kept started st k) e Still first now) →
    OnInput a b la lb (WholeRun t code n taken out (kept started st steps) f Still first now)
run-as {t} {code} {n} {k} {steps} {started} {st} {a} {b} {la} {lb} {taken} {middle} {out} {e} {f} {Still} {first} {now} count same is ran =
    let P : ℕ → Option (List ℕ) → Ended → Type 0 = λ j o q. OnInput a b la lb (WholeRun t code n taken o (kept started st j) q Still first now) in
    subst (λ j. P j out f) (sym count) (subst (λ o. P k o f) (sym same) (subst (P k middle) (sym is) ran))

-- between two turns

module _ {t : Tables} {code : Code} {k : ℕ} {a b : Pending} {la lb : Option (List ℕ)} {taken middle : Option (List ℕ)} {Still : Type 0}
    {first now : Asks} where
  -- steps that left the input were made at once
  pub turned-leapt : {old new : Stepping} (j : ℕ) → OnInput a b la lb (Turns t code k old taken middle Still first now) →
      Leapt code j (machine_in old.parts) (machine_in new.parts) → new.since ≡ old.since → new.events ≡ old.events →
      new.slides ≡ old.slides → new.steps ≡ counted_by j old.steps → k + j ≤ 2 ^ 64 - 1 →
      ((bytes : List ℕ) → Chain code j (standing old now) (standing new now) bytes bytes) →
      OnInput a b la lb (Turns t code (k + j) new taken middle Still first now)
  turned-leapt {old} {new} j turns leaps since events slides counts within chain =
      OnInput-map a b la lb (Turns t code k old taken middle Still first now) (Turns t code (k + j) new taken middle Still first now) turns
      (λ x y h. record {
        between = leapt t code k j (machine_in old.parts) (machine_in new.parts) Still x y taken middle h.between leaps;
        asked = asked-leapt t code k j (machine_in old.parts) (machine_in new.parts) Still x y taken middle first now h.between h.asked leaps;
        since = since-leapt t code k j old new Still x y taken middle h.between h.since leaps since events counts within;
        told =
            let P : List Event → Type 0 = λ es. Tells (program_of t) x (k + j) es in
            subst P (sym events)
            (tells-leapt t code k j (machine_in old.parts) (machine_in new.parts) Still x y taken middle old.events h.between leaps h.told);
        states = led-on j (standing old now) (standing new now) x y y h.states slides (chain y);
      })

  module _ {n : ℕ} {st : Stepping} {started : Bool}
      (turns : OnInput a b la lb (Turns t code k st taken middle Still first now)) where
    stops : (e : Ended) → ((bytes : List ℕ) → LeavesAt code e (standing st now) (standing st now) bytes bytes) →
        ((x y : List ℕ) → Between t code k (machine_in st.parts) taken middle Still x y → Ran t n taken middle (kept started st k) e Still x y) →
        OnInput a b la lb (WholeRun t code n taken middle (kept started st k) e Still first now)
    stops e leaves ran =
        OnInput-map a b la lb (Turns t code k st taken middle Still first now)
        (WholeRun t code n taken middle (kept started st k) e Still first now) turns
        (λ x y h. record {
          ran = inr (ran x y h.between);
          asked = h.asked;
          unasked = λ off. absurd (true≢false (sym (ran x y h.between).begun ∙ off));
          since = since-yes (program_of t) x (kept started st k) h.since;
          told = h.told;
          states = λ begun. runs-through started (standing st now) (standing st now) e x y y h.states refl (leaves y);
        })

    -- all steps were made
    pub spent : started ≡ true → k ≡ n → OnInput a b la lb (WholeRun t code n taken middle (kept started st k) ended.Spent Still first now)
    spent is all = stops ended.Spent (λ bytes. (refl, refl)) (λ x y. run.spent t code n k st taken middle Still x y started is all)

    -- a collection wasn't told
    untold : {e : Ended} → started ≡ true → k ≤ n → IsUntold e →
        OnInput a b la lb (WholeRun t code n taken middle (kept started st k) e Still first now)
    untold {e} is within cut =
        stops e (untold-leaves code (standing st now) e cut) (λ x y. run.untold t code n k st taken middle Still x y started is within e cut)

-- behind a step

-- where no step asks, the input is as it was
more : {code : Code} {m : Machine} {b c : Pending} {S : Type 0} {sb sc : S} →
    ((t : Tree) (p : State) → Runs t code m p → first_asks p.items ≡ false → (c ≡ b) × (sc ≡ sb)) → (t : Tables) (a : Pending) (sa : S) (p : State) →
    Runs (program_of t) code m p → first_asks p.items ≡ false → (b ≡ a) × (sb ≡ sa) → (c ≡ a) × (sc ≡ sa)
more reads_nothing t a sa p runs none still = let h = reads_nothing (program_of t) p runs none in (h.0 ∙ still.0, h.1 ∙ still.1)

-- what the pacers were asked behind it
asked : {t : Tables} {code : Code} {k : ℕ} {old new : Standing} {taken middle : Option (List ℕ)} {Still : Type 0} {first : Asks} {r : Outcome}
    {x y z : List ℕ} → Turns t code k old.stepper taken middle Still first old.pacers x y → OneStep code old new r y z →
    AskedOver (program_of t) x (behind k r) first new.pacers
asked {t} {code} {k} {old} {new} {taken} {middle} {Still} {first} {r} {x} {y} {z} h one =
    asked-by t code k (machine_in old.stepper.parts) taken middle Still x y first old.pacers h.between h.asked (machine_in new.stepper.parts) z
    new.pacers r one.shows one.asked

-- and how often since their last yes
since : {t : Tables} {code : Code} {k : ℕ} {old new : Standing} {taken middle : Option (List ℕ)} {Still : Type 0} {first : Asks} {r : Outcome}
    {x y z : List ℕ} → k < 2 ^ 64 - 1 → Turns t code k old.stepper taken middle Still first old.pacers x y → OneStep code old new r y z →
    SinceOver (program_of t) x (behind k r) new.stepper
since {t} {code} {k} {old} {new} {taken} {middle} {Still} {first} {r} {x} {y} {z} room h one =
    since-by t code k old new taken middle Still x y h.between h.since room z r one

-- and the collections that it told
told : {t : Tables} {code : Code} {k : ℕ} {old new : Standing} {taken middle : Option (List ℕ)} {Still : Type 0} {first : Asks} {r : Outcome}
    {x y z : List ℕ} → k < 2 ^ 64 - 1 → Turns t code k old.stepper taken middle Still first old.pacers x y → OneStep code old new r y z →
    Tells (program_of t) x (behind k r) new.stepper.events
told {t} {code} {k} {old} {new} {taken} {middle} {Still} {first} {r} {x} {y} {z} room h one =
    tells-by t code k old new taken middle Still x y h.between h.told h.since.steps room z r one

module _ {t : Tables} {code : Code} {k : ℕ} {old new : Stepping} {a b c : Pending} {la lb lc : Option (List ℕ)} {S : Type 0} {sa sb sc : S}
    {taken middle : Option (List ℕ)} {first before after : Asks}
    (turns : OnInput a b la lb (Turns t code k old taken middle ((b ≡ a) × (sb ≡ sa)) first before))
    (reads_nothing : (t : Tree) (p : State) → Runs t code (machine_in old.parts) p → first_asks p.items ≡ false → (c ≡ b) × (sc ≡ sb))
    (room : k < 2 ^ 64 - 1) where
  goes : {out : Option (List ℕ)} (r : Outcome) → OnInput b c lb lc (OneStep code (standing old before) (standing new after) r) →
      ((x y z : List ℕ) → Between t code k (machine_in old.parts) taken middle ((b ≡ a) × (sb ≡ sa)) x y →
      StepsOn code (machine_in old.parts) (machine_in new.parts) r y z →
      Between t code (behind k r) (machine_in new.parts) taken out ((c ≡ a) × (sc ≡ sa)) x z) →
      ((x y z : List ℕ) → LeadsTo code t.manager k first (standing old before) x y → OneStep code (standing old before) (standing new after) r y z →
      LeadsTo code t.manager (behind k r) first (standing new after) x z) →
      OnInput a c la lc (Turns t code (behind k r) new taken out ((c ≡ a) × (sc ≡ sa)) first after)
  goes {out} r did on leads =
      turn a b c la lb lc (Turns t code k old taken middle ((b ≡ a) × (sb ≡ sa)) first before)
      (OneStep code (standing old before) (standing new after) r)
      (Turns t code (behind k r) new taken out ((c ≡ a) × (sc ≡ sa)) first after) turns did
      (λ x y z h one. record {
        between = on x y z h.between one.shows;
        asked = asked h one;
        since = since room h one;
        told = told room h one;
        states = leads x y z h.states one;
      })

  -- a step went on and printed nothing
  went-on : OnInput b c lb lc (OneStep code (standing old before) (standing new after) outcome.Running) →
      OnInput a c la lc (Turns t code (k + 1) new taken middle ((c ≡ a) × (sc ≡ sa)) first after)
  went-on did =
      goes outcome.Running did
      (λ x y z. quiet t code k (machine_in old.parts) (machine_in new.parts) ((b ≡ a) × (sb ≡ sa)) ((c ≡ a) × (sc ≡ sa)) x y z
      (more reads_nothing t a sa) taken middle) (λ x y z h one. stepped-on h one refl)

  -- a step printed a value, whose line was then taken
  printed-on : {out : Option (List ℕ)} (v : Val) →
      OnInput b c lb lc (OneStep code (standing old before) (standing new after) (outcome.Printed v)) → Appends middle out (line_text v) →
      OnInput a c la lc (Turns t code (k + 1) new taken out ((c ≡ a) × (sc ≡ sa)) first after)
  printed-on {out} v did line =
      goes (outcome.Printed v) did
      (λ x y z h step. printed t code k (machine_in old.parts) (machine_in new.parts) ((b ≡ a) × (sb ≡ sa)) ((c ≡ a) × (sc ≡ sa)) x y z
      (more reads_nothing t a sa) v taken middle out h step line) (λ x y z h one. stepped-on h one refl)

  -- a step was made, its lines were taken, and the run goes on
  pub goes-on : {A : Type 0} (x : A) {steps : ℕ} {out : Option (List ℕ)} (r : Outcome) →
      OnInput b c lb lc (OneStep code (standing old before) (standing new after) r) → steps ≡ behind k r → Gives r (Ok x) middle out →
      OnInput a c la lc (Turns t code steps new taken out ((c ≡ a) × (sc ≡ sa)) first after)
  goes-on x outcome.Running did count gives = turns-as count gives.0 (went-on did)
  goes-on x (outcome.Printed v) did count (inl gives) = turns-as count refl (printed-on v did gives.0)
  goes-on x (outcome.Printed v) did count (inr cut) = absurd cut.1
  goes-on x outcome.Done did count gives = absurd gives.1
  goes-on x (outcome.Trap kind line) did count gives = absurd gives.1
  goes-on x outcome.InputFault did count gives = absurd gives.1
  goes-on x outcome.Memory did count gives = absurd gives.1

  module _ {n : ℕ} {started : Bool} (is : started ≡ true) (within : k < n) where
    ends : {out : Option (List ℕ)} (r : Outcome) (e : Ended) → OnInput b c lb lc (OneStep code (standing old before) (standing new after) r) →
        ((x y z : List ℕ) → Between t code k (machine_in old.parts) taken middle ((b ≡ a) × (sb ≡ sa)) x y →
        StepsOn code (machine_in old.parts) (machine_in new.parts) r y z →
        Ran t n taken out (kept started new (behind k r)) e ((c ≡ a) × (sc ≡ sa)) x z) →
        ((x y z : List ℕ) → LeadsTo code t.manager k first (standing old before) x y → OneStep code (standing old before) (standing new after) r y z →
        RunsThrough code t.manager (kept started new (behind k r)) e first after x z) →
        OnInput a c la lc (WholeRun t code n taken out (kept started new (behind k r)) e ((c ≡ a) × (sc ≡ sa)) first after)
    ends {out} r e did ran through =
        turn a b c la lb lc (Turns t code k old taken middle ((b ≡ a) × (sb ≡ sa)) first before)
        (OneStep code (standing old before) (standing new after) r)
        (WholeRun t code n taken out (kept started new (behind k r)) e ((c ≡ a) × (sc ≡ sa)) first after) turns did
        (λ x y z h one. record {
          ran = inr (ran x y z h.between one.shows);
          asked = asked h one;
          unasked = λ off. absurd (true≢false (sym (ran x y z h.between one.shows).begun ∙ off));
          since = since-yes (program_of t) x (kept started new (behind k r)) (since room h one);
          told = told room h one;
          states = λ begun. through x y z h.states one;
        })

    done : OnInput b c lb lc (OneStep code (standing old before) (standing new after) outcome.Done) →
        OnInput a c la lc (WholeRun t code n taken middle (kept started new (k + 1)) ended.Done ((c ≡ a) × (sc ≡ sa)) first after)
    done did =
        ends outcome.Done ended.Done did
        (λ x y z. run.done t code n k within (machine_in old.parts) new ((b ≡ a) × (sb ≡ sa)) ((c ≡ a) × (sc ≡ sa)) x y z
        (more reads_nothing t a sa) started is taken middle) (λ x y z h one. ended-behind h one ended.Done refl (refl, refl))

    -- the last step was made, and its collection wasn't told
    done-untold : {e : Ended} → OnInput b c lb lc (OneStep code (standing old before) (standing new after) outcome.Done) → IsUntold e →
        OnInput a c la lc (WholeRun t code n taken middle (kept started new (k + 1)) e ((c ≡ a) × (sc ≡ sa)) first after)
    done-untold {e} did cut =
        ends outcome.Done e did
        (λ x y z. run.done_untold t code n k within (machine_in old.parts) new ((b ≡ a) × (sb ≡ sa)) ((c ≡ a) × (sc ≡ sa)) x y z
        (more reads_nothing t a sa) started is e cut taken middle)
        (λ x y z h one. ended-behind h one e refl (untold-leaves code (standing new after) e cut z))

    done-so : {steps : ℕ} {e : Ended} {out : Option (List ℕ)} →
        OnInput b c lb lc (OneStep code (standing old before) (standing new after) outcome.Done) → steps ≡ k + 1 → out ≡ middle →
        (e ≡ ended.Done) ⊎ IsUntold e →
        OnInput a c la lc (WholeRun t code n taken out (kept started new steps) e ((c ≡ a) × (sc ≡ sa)) first after)
    done-so did count same (inl end) = run-as count same end (done did)
    done-so did count same (inr cut) = run-as count same refl (done-untold did cut)

    trapped : (kind : Trap) (line : ℕ) →
        OnInput b c lb lc (OneStep code (standing old before) (standing new after) (outcome.Trap kind line)) →
        OnInput a c la lc (WholeRun t code n taken middle (kept started new k) (ended.Trap kind line) ((c ≡ a) × (sc ≡ sa)) first after)
    trapped kind line did =
        ends (outcome.Trap kind line) (ended.Trap kind line) did
        (λ x y z. run.trapped t code n k within (machine_in old.parts) new ((b ≡ a) × (sb ≡ sa)) ((c ≡ a) × (sc ≡ sa)) x y z
        (more reads_nothing t a sa) started is kind line taken middle) (λ x y z h one. refused-at h one (ended.Trap kind line) one)

    -- no memory was found for a step
    cut-before : OnInput b c lb lc (OneStep code (standing old before) (standing new after) outcome.Memory) →
        OnInput a c la lc (WholeRun t code n taken middle (kept started new k) ended.Memory ((c ≡ a) × (sc ≡ sa)) first after)
    cut-before did =
        ends outcome.Memory ended.Memory did
        (λ x y z. run.cut_before t code n k within (machine_in old.parts) new ((b ≡ a) × (sb ≡ sa)) ((c ≡ a) × (sc ≡ sa)) x y z
        (more reads_nothing t a sa) started is taken middle) (λ x y z h one. refused-at h one ended.Memory (inr one))

    -- the input failed
    cut-at-input : OnInput b c lb lc (OneStep code (standing old before) (standing new after) outcome.InputFault) →
        ((p : State) → Runs (program_of t) code (machine_in old.parts) p → first_asks p.items ≡ true) →
        OnInput a c la lc (WholeRun t code n taken middle (kept started new k) ended.InputFault ((c ≡ a) × (sc ≡ sa)) first after)
    cut-at-input did asks =
        ends outcome.InputFault ended.InputFault did
        (λ x y z. run.cut_at_input t code n k within (machine_in old.parts) new ((b ≡ a) × (sb ≡ sa)) ((c ≡ a) × (sc ≡ sa)) x y z
        (more reads_nothing t a sa) started is taken middle asks) (λ x y z h one. refused-at h one ended.InputFault one)

    -- the output failed behind a step that printed a value
    cut-behind : {out : Option (List ℕ)} (v : Val) →
        OnInput b c lb lc (OneStep code (standing old before) (standing new after) (outcome.Printed v)) → AppendsPart middle out (line_text v) →
        OnInput a c la lc (WholeRun t code n taken out (kept started new (k + 1)) ended.OutputFault ((c ≡ a) × (sc ≡ sa)) first after)
    cut-behind {out} v did part =
        ends (outcome.Printed v) ended.OutputFault did
        (λ x y z h step. run.cut_behind t code n k within (machine_in old.parts) new ((b ≡ a) × (sb ≡ sa)) ((c ≡ a) × (sc ≡ sa)) x y z
        (more reads_nothing t a sa) started is v taken middle out h step part) (λ x y z h one. ended-behind h one ended.OutputFault refl (refl, refl))

    -- a step was made or refused, and the run ended so
    pub ends-so : (A : Type 0) {steps : ℕ} {e : Ended} {out : Option (List ℕ)} (r : Outcome) →
        OnInput b c lb lc (OneStep code (standing old before) (standing new after) r) →
        (r ≡ outcome.InputFault → (t : Tree) (p : State) → Runs t code (machine_in old.parts) p → first_asks p.items ≡ true) →
        steps ≡ behind k r → Gives {A = A} r (Err e) middle out →
        OnInput a c la lc (WholeRun t code n taken out (kept started new steps) e ((c ≡ a) × (sc ≡ sa)) first after)
    ends-so A outcome.Running did asks count gives = run-as count gives.0 refl (untold (went-on did) is (omega (arith, within)) gives.1)
    ends-so A (outcome.Printed v) did asks count (inl gives) =
        run-as count refl refl (untold (printed-on v did gives.0) is (omega (arith, within)) gives.1)
    ends-so A (outcome.Printed v) did asks count (inr cut) = run-as count refl cut.1 (cut-behind v did cut.0)
    ends-so A outcome.Done did asks count gives = done-so did count gives.0 gives.1
    ends-so A (outcome.Trap kind line) did asks count gives = run-as count gives.0 gives.1 (trapped kind line did)
    ends-so A outcome.InputFault did asks count gives = run-as count gives.0 gives.1 (cut-at-input did (asks refl (program_of t)))
    ends-so A outcome.Memory did asks count gives = run-as count gives.0 gives.1 (cut-before did)
