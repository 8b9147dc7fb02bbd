-- Many steps of a behaviour that were made at once leave its object held.
use Rattle.std.proofs.Common.{◌≡◌, ◌<◌, inl, inr, ℕ, zero, suc, List, refl, sym, ap, ◌∙◌, subst, arith}
use Rattle.std.proofs.lemmas.Bool.{cases_eq}
use Rattle.rg_tree.specs.Tree.{Class, Tree}
use Rattle.rg_rules.specs.State.{State}
use Rattle.rg_rules.specs.Steps.{Went, next}
use Rattle.rg_sound.specs.Fit.{Fit}
use Rattle.rg_code.specs.Code.{Code}
use Rattle.rg_stack.specs.Left.{SomeLeft}
use Rattle.rg_stack.specs.Machine.{Machine}
use Rattle.rg_held.specs.Shown.{ShowsHeld}
use Rattle.rg_machine.specs.Parts.{machine_in}
use Rattle.rg_first.specs.First.{IsFirst}
use Rattle.rg_first.specs.Laws.{FirstStays}
use Rattle.rg_step.specs.Behaviours.{HoldsFirst}
use Rattle.rg_step.specs.Sound.{IsSound}
use Rattle.rg_step.specs.States.{Chain, Standing}
use Rattle.rg_base.specs.declared.outcome.Outcome.TheVariants.{Running}
use Rattle.rg_step.specs.Steps.{Leapt, Runs}
use Rattle.rg_step.proofs.Callers.Reached.{went-is}
use Rattle.rg_step.proofs.Callers.Serve.{fits-behind, made-went}
use Rattle.rg_lasting.specs.Lasting.{FirstLastsAlong}
use Rattle.rg_lasting.proofs.Lasts.{first-lasts}

-- the state behind so many plain steps
abbrev After : List Class → ℕ → (p q : State) → Type 0
After classes zero p q = q ≡ p
After classes (suc k) p q = (r : State) × After classes k p r × (next classes r ≡ Went q)

after-one : (classes : List Class) (k : ℕ) (p q r : State) → After classes k p q → After classes k p r → q ≡ r
after-one classes zero p q r x y = x ∙ sym y
after-one classes (suc k) p q r x y =
    let same = after-one classes k p x.0 y.0 x.1 y.1 in
    went-is (next classes x.0) q r x.2 (ap (next classes) same ∙ y.2)

module _ (t : Tree) (code : Code) (p : State) where
  -- behind steps that go on the program still runs
  leapt-runs : (k : ℕ) (a b : Machine) → Runs t code a p → Leapt code k a b → (q : State) × After t.classes k p q × Runs t code b q
  leapt-runs zero a b runs l = (p, refl, subst (λ m. Runs t code m p) (sym l) runs)
  leapt-runs (suc k) a b runs (m, l, due, on) =
      let x = leapt-runs k a m runs l in
      let s = on x.0.input t x.0 x.2 refl in (
        s.0,
        (x.0, x.1, s.1.0),
        record {
          accepted = x.2.accepted;
          lowers = x.2.lowers;
          fits = fits-behind t code m x.0 s.0 Running x.2 refl s.1;
          shows = s.2;
          left = s.1.1;
        },
      )

  -- so in front of each of them something is left to do
  left-at : (k : ℕ) (a b : Machine) → Runs t code a p → Leapt code k a b → (j : ℕ) (q : State) → j < k → After t.classes j p q → SomeLeft q.items
  left-at zero a b runs l j q lt at = absurd (omega (arith, lt))
  left-at (suc k) a b runs (m, l, due, on) j q lt at = elim (cases_eq j k) [
    | inl is ↦
        let x = leapt-runs k a m runs l in
        let same = after-one t.classes k p x.0 q x.1 (subst (λ n. After t.classes n p q) is at) in
        subst (λ (s : State). SomeLeft s.items) same x.2.left
    | inr d ↦ left-at k a m runs l j q (omega (arith, lt, d)) at
  ]

  -- a state behind so many steps, which the machine shows, with the behaviour's object, which is held
  abbrev Reaches : (class k : ℕ) → Standing → List ℕ → Type 0
  Reaches class k last after =
      (q : State) × After t.classes k p q × (q.input ≡ after) × IsFirst t.classes class q × Fit t q
      × ShowsHeld t.classes code (machine_in last.stepper.parts) q
      × IsSound last.stepper.parts.heap last.stepper.parts.frames × HoldsFirst last.stepper.parts

  module _ (stays : FirstStays) (class : ℕ) (first : Standing) (before : List ℕ) (runs : Runs t code (machine_in first.stepper.parts) p)
      (input : p.input ≡ before) (is : IsFirst t.classes class p) (sound : IsSound first.stepper.parts.heap first.stepper.parts.frames)
      (held : HoldsFirst first.stepper.parts) where
    along : (k : ℕ) (last : Standing) (after : List ℕ) → ((j : ℕ) (q : State) → j < k → After t.classes j p q → SomeLeft q.items)
        → Chain code k first last before after → Reaches class k last after
    along zero last after left c =
        let here : Reaches class 0 first before = (p, refl, input, is, runs.fits, runs.shows, sound, held) in
        subst (λ l. Reaches class 0 l after) (sym c.0) (subst (λ bytes. Reaches class 0 first bytes) (sym c.1) here)
    along (suc k) last after left (m, rest, result, c, made, one) =
        let x = along k m rest (λ j q lt at. left j q (omega (arith, lt)) at) c in
        let q = x.0 in
        let now : Runs t code (machine_in m.stepper.parts) q = record {
          accepted = runs.accepted;
          lowers = runs.lowers;
          fits = x.4;
          shows = x.5;
          left = left k q (omega arith) x.1;
        } in
        let s = one.shows t q now x.2 in
        let went = made-went (next t.classes q) q s.0 result made s.1 in (
          s.0,
          (q, x.1, went),
          s.3,
          stays t class q s.0 runs.accepted x.4 x.3 went,
          fits-behind t code (machine_in m.stepper.parts) q s.0 result now made s.1,
          s.2,
          one.sound,
          first-lasts stays t code m last result rest after class q now x.2 x.3 x.6 x.7 one,
        )

pub first-lasts-along : FirstStays → FirstLastsAlong
first-lasts-along stays t code k first last input class p runs at is sound held leapt chain =
    let x = along t code p stays class first input runs at is sound held k last input
    (left-at t code p k (machine_in first.stepper.parts) (machine_in last.stepper.parts) runs leapt) chain in
    x.7
