-- An accepted program between two steps of the stepper.
use Rattle.std.proofs.Common.{◌≡◌, ◌≢◌, Bool, true, false, true≢false, inr, List, [], ◌∷◌, ◌++◌, ℕ, Option}
use Rattle.std.proofs.Common.{refl, sym, ap, subst, ◌∙◌}
use Rattle.rg_base.specs.declared.event.Event.{Event}
use Rattle.rg_base.specs.declared.outcome.Outcome.{Outcome}
use Rattle.rg_base.specs.declared.outcome.Outcome.TheVariants as outcome
use Rattle.rg_base.specs.declared.value.Val.{Val}
use Rattle.rg_tree.specs.Tree.{Tree, Class}
use Rattle.rg_rules.specs.Acceptance.{Accepted}
use Rattle.rg_rules.specs.Items.{Item}
use Rattle.rg_rules.specs.Runs.{opening}
use Rattle.rg_rules.specs.State.{State}
use Rattle.rg_rules.specs.Steps.{Went, next}
use Rattle.rg_sound.proofs.Law.{step-keeps}
use Rattle.rg_input.specs.Numbers.{Follows, OnInput, Pending}
use Rattle.rg_input.proofs.Input.{OnInput-both, OnInput-some, OnInput-still}
use Rattle.rg_code.specs.Code.{Code}
use Rattle.rg_code.specs.Lowering.{Lowers}
use Rattle.rg_plain.specs.Outcomes.{EndsMain, Settles}
use Rattle.rg_plain.proofs.Behind.{ends_by, settles_by}
use Rattle.rg_plain.proofs.Rows.Machine.{ends-items_of}
use Rattle.rg_stack.specs.Machine.{Machine}
use Rattle.rg_stack.specs.Runs.{opening as opened}
use Rattle.rg_stack.specs.Left.{SomeLeft}
use Rattle.rg_stack.proofs.Callers.Opening.{opening-fit, opening-shows}
use Rattle.rg_stack.proofs.Callers.Run.{opening_left}
use Rattle.rg_held.specs.Shown.{ShowsHeld}
use Rattle.rg_held.proofs.Callers.Opening.{opening-match}
use Rattle.rg_base.specs.declared.words.Manager.{Manager}
use Rattle.rg_machine.specs.Parts.{Parts, machine_in}
use Rattle.rg_step.specs.States.{OneStep, Opens, Standing}
use Rattle.rg_step.specs.Stepping.{Since, Stepping}
use Rattle.rg_step.specs.Steps.{IsRunning, Runs, StepsOn, opening_machine}
use Rattle.rg_step.specs.Steps as stepper
use Rattle.rg_trail.specs.Goes.{goes_on}

-- some state of the program runs on the machine, with these bytes of the input left
pub record StandsAt (t : Tree) (code : Code) (m : Machine) (before after : List ℕ) : Type 0 where
  pub state : State
  pub runs : Runs t code m state
  pub input : state.input ≡ after
  pub ends : EndsMain state.items

is-some : (items : List Item) → items ≢ [] → SomeLeft items
is-some [] some = absurd (some refl)
is-some (i ∷ rest) some = tt

first-is : (items : List Item) → SomeLeft items → (first : Item) × (rest : List Item) × (items ≡ first ∷ rest)
first-is [] some = absurd some
first-is (i ∷ rest) some = (i, rest, refl)

-- where it begins
pub begins : (t : Tree) (code : Code) (m : Machine) (bytes : List ℕ) → Accepted t → Lowers t code → m ≡ opening_machine code t.manager →
    StandsAt t code m bytes bytes
begins t code m bytes accepted lowers is =
    let P : Machine → Type 0 = λ q. ShowsHeld t.classes code q (opening t bytes) in
    let w = opened t code bytes in
    record {
      state = opening t bytes;
      runs = record {
        accepted = accepted;
        lowers = lowers;
        fits = opening-fit t bytes accepted;
        shows = subst P (sym is) (record {
          grown = w.machine;
          held = (opening-match t code bytes).0;
          shows = (opening-shows t code bytes accepted lowers).shows;
          beside = (opening-match t code bytes).1.machine;
        });
        left = opening_left t.body;
      };
      input = refl;
      ends = ends-items_of t.body;
    }

module _ (classes : List Class) (s u : State) (first : Item) (rest : List Item) (items : s.items ≡ first ∷ rest) (ends : EndsMain s.items) where
  -- behind a step that printed something is left
  printed-by : (v : Val) (its : List Item) → u.items ≡ its → next classes s ≡ Went u → u.output ≡ s.output ++ v ∷ [] →
      Settles (next classes s) s u (outcome.Printed v)
  printed-by v [] is went out =
      settles_by classes s u first rest items ends (outcome.Printed v) true (went, out) (inr tt) (λ e. is) (λ e. cc)
  printed-by v (i ∷ its) is went out =
      settles_by classes s u first rest items ends (outcome.Printed v) false (went, out) (inr tt) (λ e. cc) (λ e some. cc)

  went-left : (r : Outcome) → goes_on r ≡ true → stepper.Settles (next classes s) s u r → (next classes s ≡ Went u) × SomeLeft u.items
  went-left outcome.Running made h = (h.0, h.1)
  went-left (outcome.Printed v) made h = (h.0, is-some u.items (printed-by v u.items refl h.0 h.1).1)
  went-left outcome.Done made h = absurd (true≢false (sym made))
  went-left (outcome.Trap kind line) made h = absurd (true≢false (sym made))
  went-left outcome.InputFault made h = absurd (true≢false (sym made))
  went-left outcome.Memory made h = absurd (true≢false (sym made))

  ends-on : next classes s ≡ Went u → EndsMain u.items
  ends-on went = ends_by classes s u first rest items ends outcome.Running went

-- it stands behind a step that goes on
pub goes : (t : Tree) (code : Code) (m new : Machine) (r : Outcome) → goes_on r ≡ true → (before between after : List ℕ) →
    StandsAt t code m before between → StepsOn code m new r between after → StandsAt t code new before after
goes t code m new r made before between after b step =
    let q = step t b.state b.runs b.input in
    let f = first-is b.state.items b.runs.left in
    let w = went-left t.classes b.state q.0 f.0 f.1 f.2 b.ends r made q.1 in
    record {
      state = q.0;
      runs = record {
        accepted = b.runs.accepted;
        lowers = b.runs.lowers;
        fits = (step-keeps t b.state q.0 b.runs.accepted b.runs.fits w.0).fit;
        shows = q.2;
        left = w.1;
      };
      input = q.3;
      ends = ends-on t.classes b.state q.0 f.0 f.1 f.2 b.ends w.0;
    }

-- where a program has begun, it stands
pub has-begun : (t : Tree) (code : Code) (steps : ℕ) (since : Since) (slides : Bool) (events : List Event) (new : Stepping) (manager : Manager) →
    Accepted t → Lowers t code → manager ≡ t.manager → (p : Parts) × Opens code manager p
    × (new ≡ record { parts = p; steps = steps; since = since; slides = slides; events = events }) → (a : Pending) (left : Option (List ℕ)) →
    OnInput a a left left (StandsAt t code (machine_in new.parts))
has-begun t code steps since slides events new manager accepted lowers is begun a left =
    let opens : Opens code t.manager begun.0 = subst (λ m. Opens code m begun.0) is begun.1 in
    let there : machine_in new.parts ≡ opening_machine code t.manager = ap (λ (s : Stepping). machine_in s.parts) begun.2 ∙ opens.shows in
    OnInput-still a a left left (StandsAt t code (machine_in new.parts)) refl refl
    (λ bytes. begins t code (machine_in new.parts) bytes accepted lowers there)

-- so a step may be made
pub is-running : (t : Tree) (code : Code) (m : Machine) (a b : Pending) (left behind : Option (List ℕ)) → Follows b behind →
    OnInput a b left behind (StandsAt t code m) → IsRunning code m
is-running t code m a b left behind follows h = let q = (OnInput-some a b left behind (StandsAt t code m) follows h).2 in (t, q.state, q.runs)

-- and behind a step that goes on so it stands
pub stands-on : {t : Tree} {code : Code} {old new : Standing} {r : Outcome} {a b c : Pending} {la lb lc : Option (List ℕ)} → goes_on r ≡ true →
    OnInput a b la lb (StandsAt t code (machine_in old.stepper.parts)) → OnInput b c lb lc (OneStep code old new r) →
    OnInput a c la lc (StandsAt t code (machine_in new.stepper.parts))
stands-on {t} {code} {old} {new} {r} {a} {b} {c} {la} {lb} {lc} made stands step =
    OnInput-both a b c la lb lc (StandsAt t code (machine_in old.stepper.parts)) (OneStep code old new r)
    (StandsAt t code (machine_in new.stepper.parts)) stands step
    (λ before between after s one. goes t code _ _ r made before between after s one.shows)
