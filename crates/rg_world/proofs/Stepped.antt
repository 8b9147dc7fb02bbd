-- What a step of the machine of a behaviour says of its run.
use Rattle.std.proofs.Common.{◌≡◌, ℕ, ◌+◌, ◌⊎◌, inl, inr, Bool, true, false, List, [], ◌∷◌, ◌++◌, Some, refl, sym, ap, ◌∙◌, subst, arith}
use Rattle.rg_base.specs.declared.outcome.Outcome.{Outcome}
use Rattle.rg_base.specs.declared.outcome.Outcome.TheVariants as outcome
use Rattle.rg_base.specs.declared.outcome.Trap.{Trap}
use Rattle.rg_base.specs.declared.value.Val.{Val}
use Rattle.rg_io.specs.Content.{Rose}
use Rattle.rg_input.specs.Numbers.{Pending, OnInput}
use Rattle.rg_tree.specs.Tree.{Tree}
use Rattle.rg_rules.specs.Items.{Item}
use Rattle.rg_rules.specs.Outside.Inputs.{first_asks}
use Rattle.rg_rules.specs.Runs.{Running, Done, Stopped, Ran, ending_of}
use Rattle.rg_rules.specs.State.{State}
use Rattle.rg_rules.specs.Steps.{Went, Trapped, next}
use Rattle.rg_rules.proofs.Run.{one_more-went, one_more-trapped}
use Rattle.rg_sound.proofs.Law.{step-keeps}
use Rattle.rg_first.specs.First.{IsFirst}
use Rattle.rg_code.specs.Code.{Code}
use Rattle.rg_stack.specs.Left.{NoneLeft, SomeLeft}
use Rattle.rg_held.specs.Shown.{ShowsHeld}
use Rattle.rg_machine.specs.Parts.{machine_in}
use Rattle.rg_plain.specs.Outcomes.{EndsMain}
use Rattle.rg_plain.proofs.Behind.{settles_by, ends_by}
use Rattle.rg_sched_atomic.specs.Events.{one_more}
use Rattle.rg_step.specs.Behaviours.{HoldsFirst}
use Rattle.rg_step.specs.Sound.{IsSound}
use Rattle.rg_step.specs.States.{OneStep, Standing}
use Rattle.rg_step.specs.Stepping.{Stepping}
use Rattle.rg_step.specs.Steps.{Settles, UnlessAsking}
use Rattle.rg_lasting.specs.Lasting.{FirstLasts}
use Rattle.rg_world.specs.Standing.{RunsAs}
use Rattle.rg_world.specs.Inner.Steps.{EndsAs, Tells}
use Rattle.rg_world.proofs.Empty.{asking-input}

pub first-is : (items : List Item) → SomeLeft items → (first : Item) × (rest : List Item) × (items ≡ first ∷ rest)
first-is [] some = absurd some
first-is (i ∷ rest) some = (i, rest, refl)

some-is : (items : List Item) → (items ≡ [] → ⊥) → SomeLeft items
some-is [] some = absurd (some refl)
some-is (i ∷ rest) some = tt

runs-on : (items : List Item) → SomeLeft items → ending_of items ≡ Running
runs-on [] some = absurd some
runs-on (i ∷ rest) some = refl

is-done : (items : List Item) → NoneLeft items → ending_of items ≡ Done
is-done [] gone = refl
is-done (i ∷ rest) gone = absurd gone

module _ (t : Tree) (code : Code) (r : Ran) (old new : Stepping) (h : RunsAs t code r old) (q : State) where
  first : (i : Item) × (rest : List Item) × (r.state.items ≡ i ∷ rest)
  first = first-is r.state.items h.runs.left

  -- the run, a step further
  went-on : next t.classes r.state ≡ Went q → one_more t.classes r ≡ record { state = q; steps = r.steps + 1; ending = ending_of q.items }
  went-on went = one_more-went t.classes r.steps r.state q first.0 first.1 first.2 went

  ends-on : next t.classes r.state ≡ Went q → EndsMain q.items
  ends-on went = ends_by t.classes r.state q first.0 first.1 first.2 h.ends outcome.Running went

  module _ (sound : IsSound new.parts.heap new.parts.frames) (holds : HoldsFirst new.parts)
      (shows : ShowsHeld t.classes code (machine_in new.parts) q) (input : q.input ≡ []) where
    goes-on : next t.classes r.state ≡ Went q → SomeLeft q.items → RunsAs t code (one_more t.classes r) new
    goes-on went left = subst (λ (z : Ran). RunsAs t code z new) (sym (went-on went)) (record {
      ending = runs-on q.items left;
      runs = record {
        accepted = h.runs.accepted;
        lowers = h.runs.lowers;
        fits = (step-keeps t r.state q h.runs.accepted h.runs.fits went).fit;
        shows = shows;
        left = left;
      };
      sound = sound;
      first = holds;
      input = input;
      ends = ends-on went;
    })

    -- a value was printed, so something is left
    left-printed : (v : Val) (empty : Bool) → next t.classes r.state ≡ Went q → q.output ≡ r.state.output ++ v ∷ []
        → (empty ≡ true → q.items ≡ []) → (empty ≡ false → q.items ≡ [] → ⊥) → SomeLeft q.items
    left-printed v empty went out gone left =
        some-is q.items (settles_by t.classes r.state q first.0 first.1 first.2 h.ends (outcome.Printed v) empty (went, out) (inr tt) gone left).1

    printed-left : (v : Val) (items : List Item) → q.items ≡ items → next t.classes r.state ≡ Went q → q.output ≡ r.state.output ++ v ∷ []
        → SomeLeft q.items
    printed-left v [] is went out = left-printed v true went out (λ e. is) (λ e. cc)
    printed-left v (i ∷ items) is went out = left-printed v false went out (λ e. cc) (λ e none. cc)

    output-of : (o : List Val) → next t.classes r.state ≡ Went q → q.output ≡ o → (one_more t.classes r).state.output ≡ o
    output-of o went out = ap (λ (z : Ran). z.state.output) (went-on went) ∙ out

    ends-as : next t.classes r.state ≡ Went q → NoneLeft q.items → EndsAs t code (one_more t.classes r) new
    ends-as went gone = subst (λ (z : Ran). EndsAs t code z new) (sym (went-on went)) (record {
      ending = is-done q.items gone;
      shows = shows;
      first = holds;
    })

  trapped : (kind : Trap) (line : ℕ) → next t.classes r.state ≡ Trapped kind line
      → ((one_more t.classes r).ending ≡ Stopped kind line) × ((one_more t.classes r).state.output ≡ r.state.output)
  trapped kind line step =
      let is = one_more-trapped t.classes r.steps r.state kind line step in
      (ap (λ (z : Ran). z.ending) is, ap (λ (z : Ran). z.state.output) is)

-- what a step answers, from a state without input to one without
pub tells : (t : Tree) (code : Code) (r : Ran) (old new : Stepping) (h : RunsAs t code r old) (q : State) (result : Outcome)
    → IsSound new.parts.heap new.parts.frames → HoldsFirst new.parts → ShowsHeld t.classes code (machine_in new.parts) q
    → (next t.classes r.state ≡ Went q → q.input ≡ []) → (result ≡ outcome.InputFault → ⊥)
    → Settles (next t.classes r.state) r.state q result → Tells t code r.state.output (one_more t.classes r) new result
tells t code r old new h q outcome.Running sound holds shows input fault s =
    (goes-on t code r old new h q sound holds shows (input s.0) s.0 s.1, output-of t code r old new h q sound holds shows (input s.0) r.state.output s.0 s.2)
tells t code r old new h q (outcome.Printed v) sound holds shows input fault s = (
  goes-on t code r old new h q sound holds shows (input s.0) s.0 (printed-left t code r old new h q sound holds shows (input s.0) v q.items refl s.0 s.1),
  output-of t code r old new h q sound holds shows (input s.0) (r.state.output ++ v ∷ []) s.0 s.1,
)
tells t code r old new h q outcome.Done sound holds shows input fault s =
    (ends-as t code r old new h q sound holds shows (input s.0) s.0 s.1, output-of t code r old new h q sound holds shows (input s.0) r.state.output s.0 s.2)
tells t code r old new h q (outcome.Trap kind line) sound holds shows input fault s = trapped t code r old new h q kind line s.0
tells t code r old new h q outcome.InputFault sound holds shows input fault s = absurd (fault refl)
tells t code r old new h q outcome.Memory sound holds shows input fault s = tt

-- the input of a step: nothing is left of a source without bytes

pub not-risen : Rose 0 0 → ⊥
not-risen (inl l) = omega (arith, l)
not-risen (inr l) = omega (arith, l)

nothing-left : (xs ys : List ℕ) → [] ≡ xs ++ ys → xs ≡ []
nothing-left [] ys e = refl
nothing-left (x ∷ xs) ys e = absurd (cc)

-- all of the step is said of the input that is there
pub on-nothing : (code : Code) (r : Ran) (old new : Standing) (result : Outcome) (before after : Pending) → r.state.input ≡ [] → before.held ≡ []
    → OnInput before after (Some []) (Some []) (OneStep code old new result)
    → (input : List ℕ) × (r.state.input ≡ input) × OneStep code old new result input (after.held ++ [])
on-nothing code r old new result before after none empty fact =
    let read-none = nothing-left fact.0 fact.1.0 fact.1.1 in
    let start : before.held ++ (fact.0 ++ []) ≡ [] = ap (λ z. z ++ (fact.0 ++ [])) empty ∙ ap (λ z. z ++ []) read-none in
    (before.held ++ (fact.0 ++ []), none ∙ sym start, (fact.2 [] (record { told = refl; ended = λ e. refl })).1)

asks-or-not : (b : Bool) → (b ≡ true) ⊎ (b ≡ false)
asks-or-not true = inl refl
asks-or-not false = inr refl

pub step-tells : (t : Tree) (code : Code) (r : Ran) (class : ℕ) (old new : Standing) (result : Outcome) (before after : Pending)
    → FirstLasts → RunsAs t code r old.stepper → IsFirst t.classes class r.state → before.held ≡ []
    → OnInput before after (Some []) (Some []) (OneStep code old new result)
    → UnlessAsking code (machine_in old.stepper.parts) (after ≡ before) → (result ≡ outcome.InputFault → Rose 0 0)
    → Tells t code r.state.output (one_more t.classes r) new.stepper result
step-tells t code r class old new result before after lasts h is-first fresh fact unasked fault =
    let here = on-nothing code r old new result before after h.input fresh fact in
    let step = here.2.shows t r.state h.runs here.1 in
    let q = step.0 in
    tells t code r old.stepper new.stepper h q result here.2.sound
    (lasts t code old new result _ _ class r.state h.runs here.1 is-first h.sound h.first here.2)
    step.2 (λ went. by q went step.3 (asks-or-not (first_asks r.state.items))) (λ e. not-risen (fault e)) step.1
  where
    by : (q : State) → next t.classes r.state ≡ Went q → q.input ≡ after.held ++ []
        → (first_asks r.state.items ≡ true) ⊎ (first_asks r.state.items ≡ false) → q.input ≡ []
    by q went is (inl asks) = asking-input t.classes r.state q asks h.input went
    by q went is (inr quiet) = is ∙ ap (λ (z : Pending). z.held ++ []) (unasked t r.state h.runs quiet) ∙ ap (λ z. z ++ []) fresh

-- nothing is left in the input behind a step

same-input : (r q : State) → r.input ≡ [] → q ≡ r → q.input ≡ []
same-input r q none same = ap (λ (z : State). z.input) same ∙ none

none-asked : (t : Tree) (r q : State) (result : Outcome) → first_asks r.items ≡ true → r.input ≡ [] → Settles (next t.classes r) r q result
    → q.input ≡ []
none-asked t r q outcome.Running asks none s = asking-input t.classes r q asks none s.0
none-asked t r q (outcome.Printed v) asks none s = asking-input t.classes r q asks none s.0
none-asked t r q outcome.Done asks none s = asking-input t.classes r q asks none s.0
none-asked t r q (outcome.Trap kind line) asks none s = same-input r q none s.1
none-asked t r q outcome.InputFault asks none s = same-input r q none s
none-asked t r q outcome.Memory asks none s = same-input r q none s

pub still-empty : (t : Tree) (code : Code) (r : Ran) (old new : Standing) (result : Outcome) (before after : Pending)
    → RunsAs t code r old.stepper → before.held ≡ [] → OnInput before after (Some []) (Some []) (OneStep code old new result)
    → UnlessAsking code (machine_in old.stepper.parts) (after ≡ before) → after.held ≡ []
still-empty t code r old new result before after h empty fact unasked = by (asks-or-not (first_asks r.state.items))
  where
    by : (first_asks r.state.items ≡ true) ⊎ (first_asks r.state.items ≡ false) → after.held ≡ []
    by (inl asks) =
        let here = on-nothing code r old new result before after h.input empty fact in
        let step = here.2.shows t r.state h.runs here.1 in
        nothing-left after.held [] (sym (sym step.3 ∙ none-asked t r.state step.0 result asks h.input step.1))
    by (inr quiet) = ap (λ (z : Pending). z.held) (unasked t r.state h.runs quiet) ∙ empty
