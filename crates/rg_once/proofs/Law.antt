-- A step is determined.
use Rattle.std.proofs.Common.{◌≡◌, inl, ℕ, Bool as Truth, true, false, true≢false, List, [], ◌∷◌, ◌++◌, length, Some, slice_get}
use Rattle.std.proofs.Common.{refl, sym, ap, ◌∙◌, subst, arith}
use Rattle.std.proofs.lemmas.List.{length-append}
use Rattle.std.proofs.lemmas.Option.{same_Some}
use Rattle.rg_base.specs.declared.value.Val.{Val}
use Rattle.rg_rules.specs.Items.{Item}
use Rattle.rg_tree.proofs.TreesFrom.{slice_get-push}
use Rattle.rg_base.specs.declared.event.Cause.TheVariants.{Asked}
use Rattle.rg_base.specs.declared.event.Event.{Event}
use Rattle.rg_base.specs.declared.outcome.Outcome.{Outcome}
use Rattle.rg_base.specs.declared.outcome.Outcome.TheVariants as outcome
use Rattle.rg_base.specs.declared.words.Manager.{Manager}
use Rattle.rg_base.specs.declared.words.Manager.TheVariants.{Arena, Count, Trace}
use Rattle.rg_tree.specs.Tree.{Tree}
use Rattle.rg_rules.specs.State.{State}
use Rattle.rg_rules.specs.Steps.{Went, next}
use Rattle.rg_code.specs.Code.{Code}
use Rattle.rg_code.specs.Dues.{due_at}
use Rattle.rg_stack.specs.Dues.{first_due}
use Rattle.rg_stack.specs.Left.{NoneLeft, SomeLeft}
use Rattle.rg_stack.proofs.Callers.Due.{steps-due}
use Rattle.rg_machine.specs.Parts.{Parts, machine_in}
use Rattle.rg_step.specs.Collections.{CollectsAsked, Serves, event_of}
use Rattle.rg_step.specs.States.{Standing}
use Rattle.rg_step.specs.Steps.{Counts, Settles, counted, is_made}
use Rattle.rg_step.proofs.Callers.Active.{shown-manager}
use Rattle.rg_step.proofs.Callers.Reached.{longer, went-is}
use Rattle.rg_step.proofs.Callers.Serve.{made-went}
use Rattle.rg_once.proofs.Moves.{moves}
use Rattle.rg_once.specs.Once.{HoldTheSame, IsAlike, StepsOnce, Tells}
use Rattle.rg_once.proofs.Answer.{Answer, does, mid, none-told, rest-is, shown}
use Rattle.rg_once.proofs.Comes.{step-comes}
use Rattle.rg_once.proofs.Held.{mid-same}
use Rattle.rg_once.proofs.Once.{collected-same}
use Rattle.rg_once.proofs.Seen.{seen-held}
use Rattle.rg_once.proofs.Shifted.{shifts-same, step-shifts}

made-counts : (old new : ℕ) (result : Outcome) → is_made result ≡ true → Counts old new result → new ≡ counted old
made-counts old new outcome.Running made c = c
made-counts old new (outcome.Printed v) made c = c
made-counts old new outcome.Done made c = c
made-counts old new (outcome.Trap kind line) made c = absurd (true≢false (sym made))
made-counts old new outcome.InputFault made c = absurd (true≢false (sym made))
made-counts old new outcome.Memory made c = absurd (true≢false (sym made))

one-more : (xs : List Val) (v : Val) → xs ≡ xs ++ v ∷ [] → ⊥
one-more xs v is = let n = ap length is ∙ length-append xs (v ∷ []) in omega (arith, n)

last-same-value : (xs : List Val) (v u : Val) → xs ++ v ∷ [] ≡ xs ++ u ∷ [] → v ≡ u
last-same-value xs v u is = same_Some v u (sym (slice_get-push xs v) ∙ ap (λ l. slice_get l (length xs)) is ∙ slice_get-push xs u)

left-not : (items : List Item) → SomeLeft items → NoneLeft items → ⊥
left-not [] some none = some
left-not (i ∷ items) some none = none

-- what is due is due to the first thing to do
due-first : {t : Tree} {code : Code} {old : Standing} {p q : State} {new : Standing} (w : Answer t code old p q new) →
    due_at code.ops old.stepper.parts.at ≡ first_due t.classes p.items
due-first {t} {code} {p = p} w =
    let r = w.runs in
    ap (due_at code.ops) r.shows.beside.at ∙ steps-due t code r.shows.grown p r.accepted r.fits r.shows.shows r.left

module _ {t : Tree} {code : Code} {old beside_old : Standing} {p q : State} {new other : Standing} (w : Answer t code old p q new)
    (u : Answer t code beside_old p q other) (alike : IsAlike old beside_old) where
  same-steps : new.stepper.steps ≡ other.stepper.steps
  same-steps =
      made-counts old.stepper.steps new.stepper.steps w.result w.made w.step.counts ∙ ap counted alike.steps
      ∙ sym (made-counts beside_old.stepper.steps other.stepper.steps u.result u.made u.step.counts)

  -- of a collection that was asked for both tell
  both-tell : due_at code.ops old.stepper.parts.at ≡ Some Asked → (e : Event) → Tells old new e → (d : Event) × Tells beside_old other d
  both-tell due e more = by s.0.0.manager same s.0.2
    where
      s : Serves (Some Asked) beside_old.stepper (mid u) other.stepper beside_old.pacers other.pacers
      s = subst (λ x. Serves x beside_old.stepper (mid u) other.stepper beside_old.pacers other.pacers)
          (due-first u ∙ sym (due-first w) ∙ due) (does u)

      r : Serves (Some Asked) old.stepper (mid w) new.stepper old.pacers new.pacers
      r = subst (λ x. Serves x old.stepper (mid w) new.stepper old.pacers new.pacers) due (does w)

      same : r.0.0.manager ≡ s.0.0.manager
      same =
          same_Some r.0.0.manager s.0.0.manager
          (sym (shown-manager t code (mid w) q r.0.0 w.step.serves.sound.stands (shown w) r.0.1)
          ∙ shown-manager t code (mid u) q s.0.0 u.step.serves.sound.stands (shown u) s.0.1)

      arena : CollectsAsked Arena (mid w) old.stepper.events new.stepper → ⊥
      arena c = longer old.stepper.events e (sym c.events_are ∙ more)

      by : (m : Manager) → r.0.0.manager ≡ m → CollectsAsked m (mid u) beside_old.stepper.events other.stepper →
          (d : Event) × Tells beside_old other d
      by Arena is c =
          absurd (arena (subst (λ m. CollectsAsked m (mid w) old.stepper.events new.stepper) is r.0.2))
      by Count is c = (event_of other.stepper.steps Asked c.told, c.events_are)
      by Trace is c = (event_of other.stepper.steps Asked c.told, c.events_are)

  -- the instructions leave the same held: what a step makes is seen behind it, and what it freezes or merges stays
  all-same : HoldTheSame (mid w) (mid u)
  all-same = by (moves p.items) refl
    where
      by : (b : Truth) → moves p.items ≡ b → HoldTheSame (mid w) (mid u)
      by true moved = shifts-same w u alike.held (step-shifts t w.runs.accepted p q w.runs.fits w.went moved)
      by false quiet =
          let c = step-comes t w.runs.accepted p q w.runs.fits w.went quiet in
          mid-same w u alike.held (λ a o v e g stood some. inl (c.labels a o v e g)) (λ a o v e g stood some. inl (c.labels a o v e g))
          (λ a le lt. seen-held w a (c.fresh a le lt)) (λ a le lt. seen-held u a (c.fresh a le lt))

  -- the answer tells what is left to do, and what was printed
  same-answer : (x y : Outcome) → is_made x ≡ true → is_made y ≡ true → Settles (next t.classes p) p q x → Settles (next t.classes p) p q y → x ≡ y
  same-answer outcome.Running outcome.Running a b s r = refl
  same-answer outcome.Running (outcome.Printed v) a b s r = absurd (one-more p.output v (sym s.2 ∙ r.1))
  same-answer outcome.Running outcome.Done a b s r = absurd (left-not q.items s.1 r.1)
  same-answer (outcome.Printed v) outcome.Running a b s r = absurd (one-more p.output v (sym r.2 ∙ s.1))
  same-answer (outcome.Printed v) (outcome.Printed u) a b s r = ap outcome.Printed (last-same-value p.output v u (sym s.1 ∙ r.1))
  same-answer (outcome.Printed v) outcome.Done a b s r = absurd (one-more p.output v (sym r.2 ∙ s.1))
  same-answer outcome.Done outcome.Running a b s r = absurd (left-not q.items r.1 s.1)
  same-answer outcome.Done (outcome.Printed v) a b s r = absurd (one-more p.output v (sym s.2 ∙ r.1))
  same-answer outcome.Done outcome.Done a b s r = refl
  same-answer (outcome.Trap kind line) y a b s r = absurd (true≢false (sym a))
  same-answer outcome.InputFault y a b s r = absurd (true≢false (sym a))
  same-answer outcome.Memory y a b s r = absurd (true≢false (sym a))
  same-answer outcome.Running (outcome.Trap kind line) a b s r = absurd (true≢false (sym b))
  same-answer outcome.Running outcome.InputFault a b s r = absurd (true≢false (sym b))
  same-answer outcome.Running outcome.Memory a b s r = absurd (true≢false (sym b))
  same-answer (outcome.Printed v) (outcome.Trap kind line) a b s r = absurd (true≢false (sym b))
  same-answer (outcome.Printed v) outcome.InputFault a b s r = absurd (true≢false (sym b))
  same-answer (outcome.Printed v) outcome.Memory a b s r = absurd (true≢false (sym b))
  same-answer outcome.Done (outcome.Trap kind line) a b s r = absurd (true≢false (sym b))
  same-answer outcome.Done outcome.InputFault a b s r = absurd (true≢false (sym b))
  same-answer outcome.Done outcome.Memory a b s r = absurd (true≢false (sym b))

pub steps-once : StepsOnce
steps-once t code old beside_old these those before w = record {
  answer = same-answer one two w.alike w.result w.other w.made w.also_made (w.step.serves.shows t w.state w.runs w.input).1
      (subst (λ (x : State). Settles (next t.classes w.state) w.state x w.other)
      (went-is (next t.classes w.state) other q also-went went) (w.also.serves.shows t w.state w.also_runs w.input).1);
  input = sym (rest-is one) ∙ rest-is two;
  steps = same-steps one two w.alike;
  held = all-same one two w.alike;
  left = λ none also. ap (λ (p : Parts). (machine_in p).store) (none-told one none) ∙ all-same one two w.alike
      ∙ ap (λ (p : Parts). (machine_in p).store) (sym (none-told two also));
  both = both-tell one two w.alike;
  collected = collected-same one two (same-steps one two w.alike) (all-same one two w.alike);
}
  where
    q : State
    q = (w.step.serves.shows t w.state w.runs w.input).0

    went : next t.classes w.state ≡ Went q
    went = made-went (next t.classes w.state) w.state q w.result w.made (w.step.serves.shows t w.state w.runs w.input).1

    one : Answer t code old w.state q these
    one = record {
      result = w.result;
      before = before;
      after = w.after;
      made = w.made;
      step = w.step;
      runs = w.runs;
      input = w.input;
      went = went;
    }

    other : State
    other = (w.also.serves.shows t w.state w.also_runs w.input).0

    also-went : next t.classes w.state ≡ Went other
    also-went =
        made-went (next t.classes w.state) w.state other w.other w.also_made (w.also.serves.shows t w.state w.also_runs w.input).1

    two : Answer t code beside_old w.state q those
    two = record {
      result = w.other;
      before = before;
      after = w.rest;
      made = w.also_made;
      step = w.also;
      runs = w.also_runs;
      input = w.input;
      went = went;
    }
