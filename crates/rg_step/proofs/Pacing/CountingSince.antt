-- How often a pacer was asked since its last yes: a step that asks it counts one more, or none behind a collection of its own.
use Rattle.std.proofs.Common.{◌≡◌, ℕ, Bool as Truth, true, false, true≢false, ◌&&◌, ◌||◌, List, [], ◌++◌, append-nil, Some, None, slice_get}
use Rattle.std.proofs.Common.{refl, sym, ap, ◌∙◌}
use Rattle.std.proofs.lemmas.List.{append_cancel_left}
use Rattle.std.specs.List.{list_any}
use Rattle.rg_base.specs.declared.event.Cause.{Cause}
use Rattle.rg_base.specs.declared.event.Cause.TheVariants.{Asked, Paced}
use Rattle.rg_base.specs.declared.event.Event.{Event}
use Rattle.rg_base.specs.declared.outcome.Outcome.{Outcome}
use Rattle.rg_base.specs.declared.outcome.Outcome.TheVariants as outcome
use Rattle.rg_base.specs.declared.words.Manager.{Manager}
use Rattle.rg_base.specs.declared.words.Manager.TheVariants.{Arena, Count, Trace}
use Rattle.rg_tree.specs.Tree.{Tree}
use Rattle.rg_rules.specs.Outside.Asks.{is_managed, managed_by, paced_as}
use Rattle.rg_rules.specs.State.{State, active}
use Rattle.rg_code.specs.Code.{Code}
use Rattle.rg_heap.specs.declared.answers.Active.{Active}
use Rattle.rg_code.specs.Dues.{due_at}
use Rattle.rg_stack.specs.Machine.{Machine}
use Rattle.rg_stack.proofs.Basics.{and-right}
use Rattle.rg_machine.specs.Active.{IsActive}
use Rattle.rg_machine.specs.Parts.{Parts, machine_in}
use Rattle.rg_machine.specs.Stands.{Stands}
use Rattle.rg_step.specs.Asking.{SinceFrom, SinceOn, asks_at, first_makes, since_behind}
use Rattle.rg_step.specs.Yeses.{paced_by}
use Rattle.rg_step.specs.Collections.{CollectsAsked, CollectsOn, Paces, Serves, since_then}
use Rattle.rg_step.specs.Pacers.{Asks}
use Rattle.rg_step.specs.Steps.{Runs, StepsOn, is_made}
use Rattle.rg_step.specs.Stepping.{Since, Stepping}
use Rattle.rg_step.proofs.Callers.Active.{collected-manager}
use Rattle.rg_step.proofs.Pacing.Asked.{makes-due, paced-in}

-- By what was answered

since-made : (code : Code) (was : Machine) (result : Outcome) (behind : List Event) (before after : Since) → is_made result ≡ true
    → ((t : Tree) (s : State) → Runs t code was s → SinceFrom t.classes s behind before after) → SinceOn code was result behind before after
since-made code was outcome.Running behind before after made from = from
since-made code was (outcome.Printed v) behind before after made from = from
since-made code was outcome.Done behind before after made from = from
since-made code was (outcome.Trap kind line) behind before after made from = absurd (true≢false (sym made))
since-made code was outcome.InputFault behind before after made from = absurd (true≢false (sym made))
since-made code was outcome.Memory behind before after made from = absurd (true≢false (sym made))

-- a step that was refused
pub since-refused : (code : Code) (was : Machine) (result : Outcome) (behind : List Event) (before after : Since) → is_made result ≡ false
    → after ≡ before → SinceOn code was result behind before after
since-refused code was outcome.Running behind before after made same = absurd (true≢false made)
since-refused code was (outcome.Printed v) behind before after made same = absurd (true≢false made)
since-refused code was outcome.Done behind before after made same = absurd (true≢false made)
since-refused code was (outcome.Trap kind line) behind before after made same = same
since-refused code was outcome.InputFault behind before after made same = same
since-refused code was outcome.Memory behind before after made same = same

-- From a state

-- no object is made, and no pacer said yes
still-since : (t : Tree) (s : State) (behind : List Event) (before after : Since) → first_makes t.classes s.items ≡ false → after ≡ before
    → ((m : Manager) → list_any (paced_by m) behind ≡ false) → SinceFrom t.classes s behind before after
still-since t s behind before after makes same none = record {
  count = ap (λ (x : Since). x.count) same
      ∙ ap (λ b. since_behind (b && is_managed Count s) (list_any (paced_by Count) behind) before.count) (sym makes);
  trace = ap (λ (x : Since). x.trace) same
      ∙ ap (λ b. since_behind (b && is_managed Trace s) (list_any (paced_by Trace) behind) before.trace) (sym makes);
  said = λ m is. absurd (true≢false (sym is ∙ none m));
}

-- one is made, in a region of a manager
since-in : (t : Tree) (s : State) (m k : Manager) (said : Truth) (old new : ℕ) → first_makes t.classes s.items ≡ true
    → slice_get s.managers (active s.windows) ≡ Some k → new ≡ since_behind (paced_as m k) said old
    → new ≡ since_behind (asks_at t.classes m s) said old
since-in t s m k said old new makes manager is =
    is ∙ ap (λ o. since_behind (managed_by m o) said old) (sym manager) ∙ ap (λ b. since_behind (b && is_managed m s) said old) (sym makes)

-- What the collections behind it tell

-- there are none
pub none-said : (events behind new : List Event) → new ≡ events ++ behind → new ≡ events → (m : Manager) → list_any (paced_by m) behind ≡ false
none-said events behind new more same m =
    ap (list_any (paced_by m)) (append_cancel_left events behind [] (sym more ∙ same ∙ sym (append-nil events)))

-- a collection that was asked for is no pacer's
asked-said : (k : Manager) (mid : Parts) (events behind : List Event) (new : Stepping) → new.events ≡ events ++ behind
    → CollectsAsked k mid events new → (m : Manager) → list_any (paced_by m) behind ≡ false
asked-said Arena mid events behind new more c m = none-said events behind new.events more c.events_are m
asked-said Count mid events behind new more c m = ap (list_any (paced_by m)) (append_cancel_left events _ _ (sym more ∙ c.events_are))
asked-said Trace mid events behind new more c m = ap (list_any (paced_by m)) (append_cancel_left events _ _ (sym more ∙ c.events_are))

-- what a pacer answered is told by the collections behind it
said-so : (k : Manager) (answer : Truth) (mid : Parts) (events behind : List Event) (new : Stepping) (a : Active)
    → Stands mid.heap mid.frames → IsActive mid a → a.manager ≡ k → new.events ≡ events ++ behind
    → CollectsOn answer mid events new → (m : Manager) → list_any (paced_by m) behind ≡ answer && paced_as m k
said-so k true mid events behind new a stands tells is more c m =
    let manager : c.told.manager ≡ k = collected-manager Paced mid events new a tells c ∙ is in
    ap (list_any (paced_by m)) (append_cancel_left events _ _ (sym more ∙ c.events_are)) ∙ ap (λ x. paced_as m x || false) manager
    ∙ or-false (paced_as m k)
  where
    or-false : (b : Truth) → (b || false) ≡ b
    or-false true = refl
    or-false false = refl
said-so k false mid events behind new a stands tells is more c m = none-said events behind new.events more c.events_are m

and-true : (answer : Truth) → (answer && true) ≡ answer
and-true true = refl
and-true false = refl

since-said : (answer said : Truth) (n : ℕ) → said ≡ answer → since_then answer n ≡ since_behind true said n
since-said true true n is = refl
since-said true false n is = cc
since-said false true n is = cc
since-said false false n is = refl

module _ (mid : Parts) (old new : Stepping) (before after : Asks) (behind : List Event) (more : new.events ≡ old.events ++ behind) (a : Active)
    (stands : Stands mid.heap mid.frames) (tells : IsActive mid a) where
  since-count : (k : Manager) → a.manager ≡ k → Paces k a.held old mid new before after
      → new.since.count ≡ since_behind (paced_as Count k) (list_any (paced_by Count) behind) old.since.count
  since-count Arena is p = ap (λ (x : Since). x.count) p.1.since
  since-count Count is p =
      ap (λ (x : Since). x.count) p.2
      ∙ since-said p.0 _ old.since.count (said-so Count p.0 mid old.events behind new a stands tells is more p.1 Count ∙ and-true p.0)
  since-count Trace is p = ap (λ (x : Since). x.count) p.2

  since-trace : (k : Manager) → a.manager ≡ k → Paces k a.held old mid new before after
      → new.since.trace ≡ since_behind (paced_as Trace k) (list_any (paced_by Trace) behind) old.since.trace
  since-trace Arena is p = ap (λ (x : Since). x.trace) p.1.since
  since-trace Count is p = ap (λ (x : Since). x.trace) p.2
  since-trace Trace is p =
      ap (λ (x : Since). x.trace) p.2
      ∙ since-said p.0 _ old.since.trace (said-so Trace p.0 mid old.events behind new a stands tells is more p.1 Trace ∙ and-true p.0)

  only-asked : (k : Manager) → a.manager ≡ k → Paces k a.held old mid new before after → (m : Manager)
      → list_any (paced_by m) behind ≡ true → paced_as m k ≡ true
  only-asked Arena is p m said = absurd (true≢false (sym said ∙ none-said old.events behind new.events more p.0.events_are m))
  only-asked Count is p m said =
      and-right p.0 (paced_as m Count) (sym (said-so Count p.0 mid old.events behind new a stands tells is more p.1 m) ∙ said)
  only-asked Trace is p m said =
      and-right p.0 (paced_as m Trace) (sym (said-so Trace p.0 mid old.events behind new a stands tells is more p.1 m) ∙ said)

-- A step that was made

-- nothing was due
pub since-undue : (code : Code) (was : Machine) (result : Outcome) (behind : List Event) (before after : Since) → is_made result ≡ true
    → due_at code.ops was.at ≡ None → after ≡ before → ((m : Manager) → list_any (paced_by m) behind ≡ false)
    → SinceOn code was result behind before after
since-undue code was result behind before after made none same unsaid =
    since-made code was result behind before after made
    (λ t s r. still-since t s behind before after (makes-due t code was s None r none) same unsaid)

-- what was due was done
pub since-served : (code : Code) (was : Machine) (why : Cause) (old : Stepping) (mid : Parts) (new : Stepping) (before after : Asks)
    (result : Outcome) (bytes left : List ℕ) → is_made result ≡ true → due_at code.ops was.at ≡ Some why
    → Serves (Some why) old mid new before after → Stands mid.heap mid.frames → StepsOn code was (machine_in mid) result bytes left
    → (behind : List Event) → new.events ≡ old.events ++ behind → SinceOn code was result behind old.since new.since
since-served code was Asked old mid new before after result bytes left made is serves stands steps behind more =
    let none = asked-said serves.0.0.manager mid old.events behind new more serves.0.2 in
    since-made code was result behind old.since new.since made
    (λ t s r. still-since t s behind old.since new.since (makes-due t code was s (Some Asked) r is) serves.1.since none)
since-served code was Paced old mid new before after result bytes left made is serves stands steps behind more =
    let a = serves.0 in
    since-made code was result behind old.since new.since made (λ t s r.
    let here = paced-in t code was old mid new before after result made stands bytes left steps s r is a serves.1 in
    record {
      count = since-in t s Count a.manager _ _ _ here.0 here.1
          (since-count mid old new before after behind more a stands serves.1 a.manager refl serves.2);
      trace = since-in t s Trace a.manager _ _ _ here.0 here.1
          (since-trace mid old new before after behind more a stands serves.1 a.manager refl serves.2);
      said = λ m said. ap (λ b. b && is_managed m s) here.0 ∙ ap (managed_by m) here.1
          ∙ only-asked mid old new before after behind more a stands serves.1 a.manager refl serves.2 m said;
    })
