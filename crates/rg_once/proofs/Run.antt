-- A run is determined, but for what pacers say: two runs in which the same steps tell of collections, side by side.
use Rattle.std.proofs.Common.{◌≡◌, ◌≤◌, ◌+◌, inl, inr, ℕ, zero, suc, true, List, [], ◌∷◌, ◌++◌, refl, sym, ap, ◌∙◌, subst, arith}
use Rattle.rg_base.specs.declared.event.Event.{Event}
use Rattle.rg_base.specs.declared.outcome.Outcome.{Outcome}
use Rattle.rg_tree.specs.Tree.{Class, Tree}
use Rattle.rg_rules.specs.Acceptance.{Accepted}
use Rattle.rg_rules.specs.Items.{Item}
use Rattle.rg_rules.specs.Runs.{Ran, opening, plain, plain_from}
use Rattle.rg_rules.specs.State.{State}
use Rattle.rg_rules.specs.Steps.{Stepped, Trapped, Went, next}
use Rattle.rg_rules.proofs.Run.{one_more, one_more-done, one_more-trapped, one_more-went, plain_from-suc}
use Rattle.rg_sound.specs.Fit.{Fit}
use Rattle.rg_sound.proofs.Law.{step-keeps}
use Rattle.rg_code.specs.Code.{Code}
use Rattle.rg_code.specs.Lowering.{Lowers}
use Rattle.rg_stack.specs.Left.{SomeLeft}
use Rattle.rg_stack.specs.Machine.{Machine}
use Rattle.rg_stack.specs.Runs.{opening as opened}
use Rattle.rg_stack.proofs.Callers.Opening.{opening-fit, opening-shows}
use Rattle.rg_held.specs.Shown.{ShowsHeld}
use Rattle.rg_held.proofs.Callers.Opening.{opening-match}
use Rattle.rg_machine.specs.Parts.{Parts, machine_in}
use Rattle.rg_step.specs.States.{OneStep, Opens, Standing}
use Rattle.rg_step.specs.Steps.{Runs, is_made}
use Rattle.rg_step.proofs.Callers.Reached.{went-is}
use Rattle.rg_step.proofs.Callers.Serve.{made-went}
use Rattle.rg_once.specs.Once.{BothTell, HoldTheSame, IsAlike, IsOnce, RunsOnce, SideBySide}
use Rattle.rg_once.proofs.Law.{steps-once}

-- One step more of the machine that never frees

-- it makes a step more, or none
record GoesBy (classes : List Class) (r : Ran) : Type 0 where
  pub within : (one_more classes r).steps ≤ r.steps + 1
  pub went : (one_more classes r).steps ≡ r.steps + 1 → SomeLeft r.state.items × (next classes r.state ≡ Went (one_more classes r).state)

goes-by : (classes : List Class) (r : Ran) (its : List Item) → r.state.items ≡ its → (d : Stepped) → next classes r.state ≡ d → GoesBy classes r
goes-by classes r [] none d is =
    let e : (one_more classes r).steps ≡ r.steps = ap (λ (x : Ran). x.steps) (one_more-done classes r.steps r.state none) in
    record { within = omega (arith, e); went = λ more. absurd (omega (arith, e, more)) }
goes-by classes r (i ∷ rest) some (Went u) is =
    let e = one_more-went classes r.steps r.state u i rest some is in
    let n : (one_more classes r).steps ≡ r.steps + 1 = ap (λ (x : Ran). x.steps) e in
    record {
      within = omega (arith, n);
      went = λ more. (subst SomeLeft (sym some) tt, is ∙ ap Went (sym (ap (λ (x : Ran). x.state) e)));
    }
goes-by classes r (i ∷ rest) some (Trapped kind line) is =
    let e : (one_more classes r).steps ≡ r.steps = ap (λ (x : Ran). x.steps) (one_more-trapped classes r.steps r.state kind line is) in
    record { within = omega (arith, e); went = λ more. absurd (omega (arith, e, more)) }

goes : (classes : List Class) (r : Ran) → GoesBy classes r
goes classes r = goes-by classes r r.state.items refl (next classes r.state) refl

none-made : (classes : List Class) (s : State) → (plain_from classes zero 0 s).steps ≡ 0
unfolding plain_from
none-made classes s = refl

none-state : (classes : List Class) (s : State) → (plain_from classes zero 0 s).state ≡ s
unfolding plain_from
none-state classes s = refl

-- no more steps are made than there may be
steps-within : (classes : List Class) (k : ℕ) (s : State) → (plain_from classes k 0 s).steps ≤ k
steps-within classes zero s = let e = none-made classes s in omega (arith, e)
steps-within classes (suc k) s =
    let so_far = steps-within classes k s in
    let more = (goes classes (plain_from classes k 0 s)).within in
    let e : (plain_from classes (suc k) 0 s).steps ≡ (one_more classes (plain_from classes k 0 s)).steps =
    ap (λ (x : Ran). x.steps) (plain_from-suc classes k 0 s) in
    omega (arith, so_far, more, e)

-- where so many were made, one less was made before the last, which went on
record Last (t : Tree) (input : List ℕ) (k : ℕ) : Type 0 where
  pub made : (plain t input k).steps ≡ k
  pub left : SomeLeft (plain t input k).state.items
  pub went : next t.classes (plain t input k).state ≡ Went (plain t input (suc k)).state

last : (t : Tree) (input : List ℕ) (k : ℕ) → (plain t input (suc k)).steps ≡ suc k → Last t input k
last t input k made =
    let r = plain t input k in
    let is = plain_from-suc t.classes k 0 (opening t input) in
    let n : (plain t input (suc k)).steps ≡ (one_more t.classes r).steps = ap (λ (x : Ran). x.steps) is in
    let s : (plain t input (suc k)).state ≡ (one_more t.classes r).state = ap (λ (x : Ran). x.state) is in
    let so_far = steps-within t.classes k (opening t input) in
    let g = goes t.classes r in
    let within = g.within in
    let here : r.steps ≡ k = omega (arith, made, n, so_far, within) in
    let more : (one_more t.classes r).steps ≡ r.steps + 1 = omega (arith, made, n, here) in
    let h = g.went more in
    record { made = here; left = h.0; went = h.1 ∙ ap Went (sym s) }

-- Where a program opens

opens-shown : (t : Tree) (code : Code) (p : Parts) (input : List ℕ) → Accepted t → Lowers t code → Opens code t.manager p →
    ShowsHeld t.classes code (machine_in p) (opening t input)
opens-shown t code p input accepted lowers o =
    let P : Machine → Type 0 = λ q. ShowsHeld t.classes code q (opening t input) in
    subst P (sym o.shows) (record {
      grown = (opened t code input).machine;
      held = (opening-match t code input).0;
      shows = (opening-shows t code input accepted lowers).shows;
      beside = (opening-match t code input).1.machine;
    })

-- Runs

-- both show the same state of the program, and have told the same
record Together (t : Tree) (code : Code) (input : List ℕ) (k : ℕ) (one two : Standing) (left more : List ℕ) : Type 0 where
  pub shows : ShowsHeld t.classes code (machine_in one.stepper.parts) (plain t input k).state
  pub also_shows : ShowsHeld t.classes code (machine_in two.stepper.parts) (plain t input k).state
  pub fits : Fit t (plain t input k).state
  pub input_is : (plain t input k).state.input ≡ left
  pub also_input : (plain t input k).state.input ≡ more
  pub alike : IsAlike one two
  pub events : one.stepper.events ≡ two.stepper.events

module _ (t : Tree) (code : Code) (before : List ℕ) (accepted : Accepted t) (lowers : Lowers t code) where
  -- a step more
  module _ (k : ℕ) (m n these those : Standing) (left more after rest : List ℕ) (h : Together t code before k m n left more) (l : Last t before k)
      (x y : Outcome) (made : is_made x ≡ true) (step : OneStep code m these x left after) (also_made : is_made y ≡ true)
      (also : OneStep code n those y more rest) (tell : BothTell m these n those) where
    abbrev p : State
    p = (plain t before k).state

    abbrev q : State
    q = (plain t before (suc k)).state

    runs : Runs t code (machine_in m.stepper.parts) p
    runs = record { accepted = accepted; lowers = lowers; fits = h.fits; shows = h.shows; left = l.left }

    also_runs : Runs t code (machine_in n.stepper.parts) p
    also_runs = record { accepted = accepted; lowers = lowers; fits = h.fits; shows = h.also_shows; left = l.left }

    same_input : more ≡ left
    same_input = sym h.also_input ∙ h.input_is

    once : (also : OneStep code n those y left rest) → (after ≡ rest) × IsAlike these those × (these.stepper.events ≡ those.stepper.events)
    once also = (o.input, record { held = held.0; steps = o.steps }, held.1)
      where
        o : IsOnce t code m n these those left (record {
          alike = h.alike;
          state = p;
          runs = runs;
          also_runs = also_runs;
          input = h.input_is;
          result = x;
          after = after;
          made = made;
          step = step;
          other = y;
          rest = rest;
          also_made = also_made;
          also = also;
        })
        o = steps-once t code m n these those left _

        held : HoldTheSame these.stepper.parts those.stepper.parts × (these.stepper.events ≡ those.stepper.events)
        held = elim tell [
          | inl none ↦ (o.left none.0 none.1, none.0 ∙ h.events ∙ sym none.1)
          | inr (e, d, here, there) ↦ (
            (o.collected e d here there).1,
            here ∙ ap (λ (es : List Event). es ++ e ∷ []) h.events
                ∙ ap (λ (x : Event). n.stepper.events ++ x ∷ []) (o.collected e d here there).0 ∙ sym there,
          )
        ]

    shown : ShowsHeld t.classes code (machine_in these.stepper.parts) q × (q.input ≡ after)
    shown =
        let s = step.shows t p runs h.input_is in
        let same : s.0 ≡ q = went-is (next t.classes p) s.0 q (made-went (next t.classes p) p s.0 x made s.1) l.went in
        (subst (λ (u : State). ShowsHeld t.classes code (machine_in these.stepper.parts) u) same s.2, ap (λ (u : State). u.input) (sym same) ∙ s.3)

    also_shown : ShowsHeld t.classes code (machine_in those.stepper.parts) q × (q.input ≡ rest)
    also_shown =
        let s = also.shows t p also_runs h.also_input in
        let same : s.0 ≡ q = went-is (next t.classes p) s.0 q (made-went (next t.classes p) p s.0 y also_made s.1) l.went in
        (subst (λ (u : State). ShowsHeld t.classes code (machine_in those.stepper.parts) u) same s.2, ap (λ (u : State). u.input) (sym same) ∙ s.3)

    stepped : Together t code before (suc k) these those after rest
    stepped =
        let o = once (subst (λ (bytes : List ℕ). OneStep code n those y bytes rest) same_input also) in record {
          shows = shown.0;
          also_shows = also_shown.0;
          fits = (step-keeps t p q accepted h.fits l.went).fit;
          input_is = shown.1;
          also_input = also_shown.1;
          alike = o.1;
          events = o.2;
        }

  together : (k : ℕ) (first these beside_first those : Standing) (after rest : List ℕ) → Together t code before 0 first beside_first before before →
      (plain t before k).steps ≡ k → SideBySide code k first these beside_first those before after rest →
      Together t code before k these those after rest
  together zero first these beside_first those after rest start made c =
      let P : Standing → Type 0 = λ a. Together t code before 0 a those after rest in
      let Q : Standing → Type 0 = λ b. Together t code before 0 first b after rest in
      let R : List ℕ → Type 0 = λ l. Together t code before 0 first beside_first l rest in
      let S : List ℕ → Type 0 = λ l. Together t code before 0 first beside_first before l in
      subst P (sym c.0) (subst Q (sym c.1) (subst R (sym c.2) (subst S (sym c.3) start)))
  together (suc k) first these beside_first those after rest start made (m, n, left, more, x, y, c, x_made, step, y_made, also, tell) =
      let l = last t before k made in
      stepped k m n these those left more after rest (together k first m beside_first n left more start l.made c) l x y x_made step y_made also tell

pub runs-once : RunsOnce
runs-once t code k first these beside_first those before after rest accepted lowers opens also_opens steps events made c =
    let shows = opens-shown t code first.stepper.parts before accepted lowers opens in
    let also_shows = opens-shown t code beside_first.stepper.parts before accepted lowers also_opens in
    let at : (plain t before 0).state ≡ opening t before = none-state t.classes (opening t before) in
    let P : Standing → State → Type 0 = λ a s. ShowsHeld t.classes code (machine_in a.stepper.parts) s in
    let h = together t code before accepted lowers k first these beside_first those after rest (record {
      shows = subst (P first) (sym at) shows;
      also_shows = subst (P beside_first) (sym at) also_shows;
      fits = subst (Fit t) (sym at) (opening-fit t before accepted);
      input_is = ap (λ (s : State). s.input) at;
      also_input = ap (λ (s : State). s.input) at;
      alike = record { held = ap (λ (m : Machine). m.store) (opens.shows ∙ sym also_opens.shows); steps = steps };
      events = events;
    }) made c in
    record { alike = h.alike; events = h.events; input = sym h.input_is ∙ h.also_input }
