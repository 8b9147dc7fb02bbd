-- A step asks a pacer exactly where it makes an object by `new C` while the active region has its manager.
use Rattle.std.proofs.Common.{◌≡◌, ℕ, true, false, true≢false, ◌&&◌, List, Option, Some, None, slice_get, refl, sym, ap, ◌∙◌}
use Rattle.rg_base.specs.declared.event.Cause.{Cause}
use Rattle.rg_base.specs.declared.event.Cause.TheVariants.{Asked, Paced}
use Rattle.rg_base.specs.declared.outcome.Outcome.{Outcome}
use Rattle.rg_base.specs.declared.outcome.Outcome.TheVariants as outcome
use Rattle.rg_base.specs.declared.words.Manager.{Manager}
use Rattle.rg_base.specs.declared.words.Manager.TheVariants.{Arena, Count, Trace}
use Rattle.rg_tree.specs.Tree.{Tree}
use Rattle.rg_rules.specs.Outside.Asks.{is_managed, managed_by, paced_as}
use Rattle.rg_rules.specs.State.{State, active}
use Rattle.rg_rules.specs.Steps.{next}
use Rattle.rg_code.specs.Code.{Code}
use Rattle.rg_heap.specs.declared.answers.Active.{Active}
use Rattle.rg_code.specs.Dues.{due_at}
use Rattle.rg_stack.specs.Machine.{Machine}
use Rattle.rg_stack.proofs.Callers.Due.{steps-due}
use Rattle.rg_machine.specs.Active.{IsActive}
use Rattle.rg_machine.specs.Parts.{Parts, machine_in}
use Rattle.rg_machine.specs.Stands.{Stands}
use Rattle.rg_step.specs.Asking.{AsksFrom, AsksOn, first_makes, raised_if}
use Rattle.rg_step.specs.Collections.{Paces, Serves}
use Rattle.rg_step.specs.Pacers.{Asks}
use Rattle.rg_step.specs.Steps.{Runs, StepsOn, is_made}
use Rattle.rg_step.specs.Stepping.{Stepping}
use Rattle.rg_step.proofs.Callers.Active.{shown-manager}
use Rattle.rg_step.proofs.Pacing.Paced.{first-paced, is_pace, next-stays}
use Rattle.rg_step.proofs.Walking.Run.{with-input}
use Rattle.rg_step.proofs.Callers.Serve.{made-went}

-- By what was answered

asks-made : (code : Code) (was : Machine) (result : Outcome) (before after : Asks) → is_made result ≡ true
    → ((t : Tree) (s : State) → Runs t code was s → AsksFrom t.classes s before after) → AsksOn code was result before after
asks-made code was outcome.Running before after made from = from
asks-made code was (outcome.Printed v) before after made from = from
asks-made code was outcome.Done before after made from = from
asks-made code was (outcome.Trap kind line) before after made from = absurd (true≢false (sym made))
asks-made code was outcome.InputFault before after made from = absurd (true≢false (sym made))
asks-made code was outcome.Memory before after made from = absurd (true≢false (sym made))

-- a step that was refused
pub asks-refused : (code : Code) (was : Machine) (result : Outcome) (before after : Asks) → is_made result ≡ false → after ≡ before
    → AsksOn code was result before after
asks-refused code was outcome.Running before after made same = absurd (true≢false made)
asks-refused code was (outcome.Printed v) before after made same = absurd (true≢false made)
asks-refused code was outcome.Done before after made same = absurd (true≢false made)
asks-refused code was (outcome.Trap kind line) before after made same = same
asks-refused code was outcome.InputFault before after made same = same
asks-refused code was outcome.Memory before after made same = same

-- From a state

-- whether an object is made is seen from the code
makes-is : (t : Tree) (code : Code) (was : Machine) (s : State) → Runs t code was s → first_makes t.classes s.items ≡ is_pace (due_at code.ops was.at)
makes-is t code was s r =
    first-paced t.classes s.items
    ∙ ap is_pace (sym (steps-due t code r.shows.grown s r.accepted r.fits r.shows.shows r.left))
    ∙ ap (λ n. is_pace (due_at code.ops n)) (sym r.shows.beside.at)

pub makes-due : (t : Tree) (code : Code) (was : Machine) (s : State) (due : Option Cause) → Runs t code was s → due_at code.ops was.at ≡ due
    → first_makes t.classes s.items ≡ is_pace due
makes-due t code was s due r is = makes-is t code was s r ∙ ap is_pace is

-- none is made
unasked-from : (t : Tree) (s : State) (before after : Asks) → first_makes t.classes s.items ≡ false → after ≡ before
    → AsksFrom t.classes s before after
unasked-from t s before after none same = record {
  count = ap (λ (x : Asks). x.count.asks) same ∙ ap (λ b. raised_if (b && is_managed Count s) before.count.asks) (sym none);
  trace = ap (λ (x : Asks). x.trace.asks) same ∙ ap (λ b. raised_if (b && is_managed Trace s) before.trace.asks) (sym none);
}

-- one is made, in a region of a manager
paces-count : (m : Manager) (held : ℕ) (old : Stepping) (mid : Parts) (new : Stepping) (before after : Asks)
    → Paces m held old mid new before after → after.count.asks ≡ raised_if (paced_as Count m) before.count.asks
paces-count Arena held old mid new before after p = ap (λ (x : Asks). x.count.asks) p.1.pacers
paces-count Count held old mid new before after p = ap (λ (x : Asks). x.count.asks) p.3
paces-count Trace held old mid new before after p = ap (λ (x : Asks). x.count.asks) p.3

paces-trace : (m : Manager) (held : ℕ) (old : Stepping) (mid : Parts) (new : Stepping) (before after : Asks)
    → Paces m held old mid new before after → after.trace.asks ≡ raised_if (paced_as Trace m) before.trace.asks
paces-trace Arena held old mid new before after p = ap (λ (x : Asks). x.trace.asks) p.1.pacers
paces-trace Count held old mid new before after p = ap (λ (x : Asks). x.trace.asks) p.3
paces-trace Trace held old mid new before after p = ap (λ (x : Asks). x.trace.asks) p.3

asks-is : (t : Tree) (s : State) (m k : Manager) (old new : ℕ) → first_makes t.classes s.items ≡ true
    → slice_get s.managers (active s.windows) ≡ Some k → new ≡ raised_if (paced_as m k) old
    → new ≡ raised_if (first_makes t.classes s.items && is_managed m s) old
asks-is t s m k old new makes manager is =
    is ∙ ap (λ o. raised_if (managed_by m o) old) (sym manager) ∙ ap (λ b. raised_if (b && is_managed m s) old) (sym makes)

-- what was due was done
module _ (t : Tree) (code : Code) (was : Machine) (old : Stepping) (mid : Parts) (new : Stepping) (before after : Asks) (result : Outcome)
    (made : is_made result ≡ true) (stands : Stands mid.heap mid.frames) (bytes left : List ℕ)
    (steps : StepsOn code was (machine_in mid) result bytes left) (s : State) (r : Runs t code was s) where
  -- an object is made in a region whose manager is told
  pub paced-in : due_at code.ops was.at ≡ Some Paced → (a : Active) → IsActive mid a
      → (first_makes t.classes s.items ≡ true) × (slice_get s.managers (active s.windows) ≡ Some a.manager)
  paced-in is a tells =
      let makes : first_makes t.classes s.items ≡ true = makes-due t code was s (Some Paced) r is in
      let p : State = record s { input = bytes } in
      let step = steps t p (with-input t code was s bytes r) refl in
      let stays = next-stays t.classes p step.0 makes (made-went (next t.classes p) p step.0 result made step.1) in (
        makes,
        ap (λ ms. slice_get ms (active s.windows)) (sym stays.managers) ∙ ap (λ ws. slice_get step.0.managers (active ws)) (sym stays.windows)
            ∙ shown-manager t code mid step.0 a stands step.2 tells,
      )

  serves-ask : (due : Option Cause) → due_at code.ops was.at ≡ due → Serves due old mid new before after → AsksFrom t.classes s before after
  serves-ask None is serves = unasked-from t s before after (makes-due t code was s None r is) serves.1.pacers
  serves-ask (Some Asked) is serves = unasked-from t s before after (makes-due t code was s (Some Asked) r is) serves.1.pacers
  serves-ask (Some Paced) is serves =
      let here = paced-in is serves.0 serves.1 in
      record {
        count = asks-is t s Count serves.0.manager _ _ here.0 here.1
            (paces-count serves.0.manager serves.0.held old mid new before after serves.2);
        trace = asks-is t s Trace serves.0.manager _ _ here.0 here.1
            (paces-trace serves.0.manager serves.0.held old mid new before after serves.2);
      }

-- A step that was made

-- nothing was due
pub asks-undue : (code : Code) (was : Machine) (result : Outcome) (before after : Asks) → is_made result ≡ true → due_at code.ops was.at ≡ None
    → after ≡ before → AsksOn code was result before after
asks-undue code was result before after made none same =
    asks-made code was result before after made (λ t s r. unasked-from t s before after (makes-due t code was s None r none) same)

-- what was due was done
pub asks-served : (code : Code) (was : Machine) (due : Option Cause) (old : Stepping) (mid : Parts) (new : Stepping) (before after : Asks)
    (result : Outcome) (bytes left : List ℕ) → is_made result ≡ true → due_at code.ops was.at ≡ due → Serves due old mid new before after
    → Stands mid.heap mid.frames → StepsOn code was (machine_in mid) result bytes left → AsksOn code was result before after
asks-served code was due old mid new before after result bytes left made is serves stands steps =
    asks-made code was result before after made
    (λ t s r. serves-ask t code was old mid new before after result made stands bytes left steps s r due is serves)
