-- One answer to a step: what its instructions left shows the state behind the step, and how a collection that it told came about.
use Rattle.std.proofs.Common.{◌≡◌, ◌≤◌, ◌-◌, ◌^◌, ℕ, Bool as Truth, true, false, true≢false, List, [], ◌∷◌, ◌++◌, Option, Some, None, sym, ap, ◌∙◌}
use Rattle.std.proofs.Common.{subst}
use Rattle.rg_base.specs.declared.event.Cause.{Cause}
use Rattle.rg_base.specs.declared.event.Cause.TheVariants.{Asked, Paced}
use Rattle.rg_base.specs.declared.event.Event.{Event}
use Rattle.rg_base.specs.declared.outcome.Outcome.{Outcome}
use Rattle.rg_base.specs.declared.outcome.Outcome.TheVariants as outcome
use Rattle.rg_base.specs.declared.words.Manager.{Manager}
use Rattle.rg_base.specs.declared.words.Manager.TheVariants.{Arena, Count, Trace}
use Rattle.rg_tree.specs.Tree.{Tree}
use Rattle.rg_rules.specs.State.{State, active as active_region}
use Rattle.rg_rules.specs.Steps.{Went, next}
use Rattle.rg_sound.proofs.Law.{step-keeps}
use Rattle.rg_code.specs.Code.{Code}
use Rattle.rg_code.specs.Dues.{due_at}
use Rattle.rg_stack.specs.Tops.{top_region}
use Rattle.rg_held.specs.Gather.{Gathered}
use Rattle.rg_held.specs.Shown.{ShowsHeld}
use Rattle.rg_machine.specs.Collects.{holds}
use Rattle.rg_machine.specs.Parts.{Parts, machine_in}
use Rattle.rg_machine.proofs.Callers.Collect.{Active, active}
use Rattle.rg_machine.proofs.Callers.Part.{shown-part}
use Rattle.rg_machine.proofs.Callers.ReachShown.{Beside}
use Rattle.rg_step.specs.Pacers.{Asks}
use Rattle.rg_step.specs.Collections.{CollectsAsked, CollectsOn, GathersBy, IsCollected, Paces, Serves, ServesBy, event_of}
use Rattle.rg_step.specs.States.{OneStep, Standing}
use Rattle.rg_step.specs.Steps.{Runs, is_made}
use Rattle.rg_step.specs.Stepping.{Stepping}
use Rattle.rg_step.proofs.Callers.Active.{active-of}
use Rattle.rg_step.proofs.Callers.Reached.{last-is, longer, serves-told, went-is}
use Rattle.rg_step.proofs.Callers.Serve.{made-went}
use Rattle.rg_once.specs.Once.{Tells, TellsNone}
use Rattle.rg_once.proofs.Kept.{Collecting, collecting}

-- a step that was made, from a state that the machine showed to the next one
pub record Answer (t : Tree) (code : Code) (old : Standing) (p q : State) (new : Standing) : Type 0 where
  pub result : Outcome
  pub before : List ℕ
  pub after : List ℕ
  pub made : is_made result ≡ true
  pub step : OneStep code old new result before after
  pub runs : Runs t code (machine_in old.stepper.parts) p
  pub input : p.input ≡ before
  pub went : next t.classes p ≡ Went q

serves-of : (due : Option Cause) (old : Stepping) (mid : Parts) (new : Stepping) (before after : Asks) (result : Outcome) → is_made result ≡ true
    → ServesBy due old mid new before after result → Serves due old mid new before after
serves-of due old mid new before after outcome.Running made s = s
serves-of due old mid new before after (outcome.Printed v) made s = s
serves-of due old mid new before after outcome.Done made s = s
serves-of due old mid new before after (outcome.Trap kind line) made s = absurd (true≢false (sym made))
serves-of due old mid new before after outcome.InputFault made s = absurd (true≢false (sym made))
serves-of due old mid new before after outcome.Memory made s = absurd (true≢false (sym made))

-- what was collected is told
collected-not : (why : Cause) (mid : Parts) (events : List Event) (new : Stepping) → IsCollected why mid events new → new.events ≡ events → ⊥
collected-not why mid events new c none = longer events (event_of new.steps why c.told) (sym none ∙ c.events_are)

-- where nothing is told, nothing was collected
serves-left : (due : Option Cause) (old : Stepping) (mid : Parts) (new : Stepping) (before after : Asks) → Serves due old mid new before after
    → new.events ≡ old.events → new.parts ≡ mid
serves-left None old mid new before after s none = s.0.parts
serves-left (Some Asked) old mid new before after s none = by s.0.0.manager s.0.2
  where
    by : (m : Manager) → CollectsAsked m mid old.events new → new.parts ≡ mid
    by Arena c = c.parts
    by Count c = absurd (collected-not Asked mid old.events new c none)
    by Trace c = absurd (collected-not Asked mid old.events new c none)
serves-left (Some Paced) old mid new before after s none = by s.0.manager s.2
  where
    on : (answer : Truth) → CollectsOn answer mid old.events new → new.parts ≡ mid
    on true c = absurd (collected-not Paced mid old.events new c none)
    on false c = c.parts

    by : (m : Manager) → Paces m s.0.held old mid new before after → new.parts ≡ mid
    by Arena c = c.0.parts
    by Count c = on c.0 c.1
    by Trace c = on c.0 c.1

-- where a collection is told, it was made
pub record Made (mid : Parts) (events : List Event) (new : Stepping) (e : Event) : Type 0 where
  pub why : Cause
  pub did : IsCollected why mid events new
  pub event : e ≡ event_of new.steps why did.told

serves-made : (due : Option Cause) (old : Stepping) (mid : Parts) (new : Stepping) (before after : Asks) → Serves due old mid new before after
    → (e : Event) → new.events ≡ old.events ++ e ∷ [] → Made mid old.events new e
serves-made None old mid new before after s e more = absurd (longer old.events e (sym s.0.events_are ∙ more))
serves-made (Some why) old mid new before after s e more =
    let c = serves-told why old mid new before after s e more in
    record { why = why; did = c; event = last-is old.events e (event_of new.steps why c.told) (sym more ∙ c.events_are) }

-- what goes with a collection, whether what is kept moves or not
gathered-by : (slides : Truth) (mid new : Parts) → GathersBy slides mid new
    → Gathered (holds mid.heap.cells.heap) (holds new.heap.cells.heap) (machine_in mid) (machine_in new) (machine_in mid)
gathered-by false mid new g = g.gathered
gathered-by true mid new g = g.gathered

module _ {t : Tree} {code : Code} {old : Standing} {p q : State} {new : Standing} (w : Answer t code old p q new) where
  abbrev pub mid : Parts
  mid = w.step.serves.mid

  abbrev pub last : Parts
  last = new.stepper.parts

  pub does : Serves (due_at code.ops old.stepper.parts.at) old.stepper mid new.stepper old.pacers new.pacers
  does = serves-of _ old.stepper mid new.stepper old.pacers new.pacers w.result w.made w.step.serves.does

  -- the state behind the step is shown by what its instructions left
  pub shown : ShowsHeld t.classes code (machine_in mid) q
  shown =
      let s = w.step.serves.shows t p w.runs w.input in
      let same : s.0 ≡ q = went-is (next t.classes p) s.0 q (made-went (next t.classes p) p s.0 w.result w.made s.1) w.went in
      subst (λ (u : State). ShowsHeld t.classes code (machine_in mid) u) same s.2

  -- the rest of the input is the state's
  pub rest-is : q.input ≡ w.after
  rest-is =
      let s = w.step.serves.shows t p w.runs w.input in
      let same : s.0 ≡ q = went-is (next t.classes p) s.0 q (made-went (next t.classes p) p s.0 w.result w.made s.1) w.went in
      ap (λ (u : State). u.input) (sym same) ∙ s.3

  pub beside : Beside mid.heap mid.frames mid.at t code q shown.grown
  beside = record {
    serials = w.step.serves.sound.serials;
    grove = w.step.serves.sound.forest;
    stands = w.step.serves.sound.stands;
    fit = (step-keeps t p q w.runs.accepted w.runs.fits w.went).fit;
    shows = shown.shows;
    part = shown-part mid shown.grown shown.held w.step.serves.sound.serials w.step.serves.sound.stands w.step.serves.sound.windows shown.beside;
  }

  -- the active region is that of the state
  pub top : Active mid.heap mid.frames
  top = active mid.heap mid.frames w.step.serves.sound.stands.opened

  pub top-is : top_region (machine_in mid).windows ≡ active_region q.windows
  top-is = ap top_region shown.beside.windows ∙ sym (active-of _ shown.grown.windows q.windows shown.shows.windows)

  pub region-is : top.rec.number ≡ active_region q.windows
  region-is = sym top.shown ∙ top-is

  -- as many windows were made
  pub windows-made : mid.frames.next ≡ q.windows_made
  windows-made = shown.beside.windows_made ∙ shown.shows.windows_made

  pub none-told : TellsNone old new → last ≡ mid
  none-told none = serves-left _ old.stepper mid new.stepper old.pacers new.pacers does none

  pub made-of : (e : Event) → Tells old new e → Made mid old.stepper.events new.stepper e
  made-of e more = serves-made _ old.stepper mid new.stepper old.pacers new.pacers does e more

  module _ {e : Event} (c : Made mid old.stepper.events new.stepper e) where
    pub gathered : Gathered (holds mid.heap.cells.heap) (holds last.heap.cells.heap) (machine_in mid) (machine_in last) (machine_in mid)
    gathered = gathered-by new.stepper.slides mid last c.did.gathers

    pub collects-so : Collecting mid.heap last.heap mid.frames mid.at t code q shown.grown beside top c.did.told
    collects-so = collecting t code q mid last shown.grown beside w.step.sound.forest top c.did.told new.stepper.slides c.did.collects

    pub few-behind : last.frames.next ≤ 2 ^ 64 - 1
    few-behind = subst (λ n. n ≤ 2 ^ 64 - 1) (sym gathered.windows_made) w.step.serves.sound.windows
