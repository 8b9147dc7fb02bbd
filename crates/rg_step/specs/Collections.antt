-- What a step that was made does for its `collect` or its `pace`, behind its other instructions (docs/architecture.md, "The stepper").
use Rattle.std.specs.Prelude.{◌≡◌, ℕ, Bool, true, false, List, [], ◌∷◌, ◌++◌, Option, Some, None, drop, length, if◌then◌else◌}
use Rattle.rg_base.specs.declared.words.Manager.{Manager}
use Rattle.rg_base.specs.declared.words.Manager.TheVariants.{Arena, Count, Trace}
use Rattle.rg_base.specs.declared.event.Cause.{Cause}
use Rattle.rg_base.specs.declared.event.Cause.TheVariants as cause
use Rattle.rg_base.specs.declared.event.Event.{Event}
use Rattle.rg_base.specs.declared.outcome.Outcome.{Outcome}
use Rattle.rg_base.specs.declared.outcome.Outcome.TheVariants as outcome
use Rattle.rg_tree.specs.Tree.{Tree}
use Rattle.rg_rules.specs.Reach.{plain_reach}
use Rattle.rg_rules.specs.State.{State}
use Rattle.rg_rules.specs.Steps.{Went, next}
use Rattle.rg_code.specs.Code.{Code}
use Rattle.rg_stack.specs.Machine.{Machine}
use Rattle.rg_regions.specs.Collection.{roots_of}
use Rattle.rg_heap.specs.declared.answers.Active.{Active}
use Rattle.rg_heap.specs.declared.answers.Collected.{Collected}
use Rattle.rg_heap.specs.Collects.{CollectsBy}
use Rattle.rg_heap.specs.Ends.{top_temps}
use Rattle.rg_heap.specs.Slides.{Slides, SlidesBy}
use Rattle.rg_pace.specs.Asked.{one_more, with_ask}
use Rattle.rg_machine.specs.Active.{IsActive, OnActive}
use Rattle.rg_machine.specs.Collects.{Gathers, GathersSliding}
use Rattle.rg_machine.specs.Parts.{Parts, machine_in}
use Rattle.rg_step.specs.Steps.{Runs}
use Rattle.rg_step.specs.Stepping.{Stepping}
use Rattle.rg_step.specs.Pacers.{Asks}

-- what is told of a collection that a step made
abbrev pub event_of : (step : ℕ) → Cause → Collected → Event
event_of step why told = record {
  step = step;
  region = told.region;
  manager = told.manager;
  cause = why;
  held = told.held;
  kept = told.kept;
  released = told.released;
}

-- what a collection leaves of the machine, which moves what it keeps or doesn't
abbrev pub GathersBy : (slides : Bool) → (old new : Parts) → Type 0
GathersBy false old new = Gathers old new
GathersBy true old new = GathersSliding old new

-- the collection of the active region by its manager; of a traced one what is kept moves or stays
abbrev pub CollectsTop : (slides : Bool) → (old new : Parts) → Option Collected → Type 0
CollectsTop false old new told = OnActive old (λ top r.
    CollectsBy r.manager old.heap new.heap top.region r (roots_of r.bridge (drop top.base old.frames.slots) (top_temps old.frames)) told)
CollectsTop true old new told =
    OnActive old (λ top r. SlidesBy r.manager old.heap new.heap top.region r old.frames new.frames told)

-- the active region was collected by its manager, which is told; all else is as it was behind the step's instructions
pub record IsCollected (why : Cause) (mid : Parts) (events : List Event) (new : Stepping) : Type 0 where
  pub told : Collected
  pub gathers : GathersBy new.slides mid new.parts
  pub collects : CollectsTop new.slides mid new.parts (Some told)
  pub events_are : new.events ≡ events ++ event_of new.steps why told ∷ []

-- nothing was collected
pub record IsLeft (mid : Parts) (events : List Event) (new : Stepping) : Type 0 where
  pub parts : new.parts ≡ mid
  pub events_are : new.events ≡ events

-- the active region is collected on a yes
abbrev pub CollectsOn : (answer : Bool) → (mid : Parts) → (events : List Event) → (new : Stepping) → Type 0
CollectsOn true mid events new = IsCollected cause.Paced mid events new
CollectsOn false mid events new = IsLeft mid events new

-- how often a pacer was asked since its last yes, behind one more answer
abbrev pub since_then : (answer : Bool) → ℕ → ℕ
since_then answer n = if answer then 0 else one_more n

-- no pacer was asked
pub record Unasked (old new : Stepping) (before after : Asks) : Type 0 where
  pub since : new.since ≡ old.since
  pub pacers : after ≡ before

-- A region of a manager that has a pacer asks it, with how many cells the region has, and how often that pacer was asked since its last yes, this
-- time included; an arena asks nobody.
abbrev pub Paces : Manager → (held : ℕ) → (old : Stepping) → (mid : Parts) → (new : Stepping) → (before after : Asks) → Type 0
Paces Arena held old mid new before after = IsLeft mid old.events new × Unasked old new before after
Paces Count held old mid new before after =
    (answer : Bool) × CollectsOn answer mid old.events new × (new.since ≡ record old.since { count = since_then answer old.since.count })
    × (after ≡ record before { count = with_ask before.count (record { held = held; since = one_more old.since.count }) answer })
Paces Trace held old mid new before after =
    (answer : Bool) × CollectsOn answer mid old.events new × (new.since ≡ record old.since { trace = since_then answer old.since.trace })
    × (after ≡ record before { trace = with_ask before.trace (record { held = held; since = one_more old.since.trace }) answer })

-- a region is collected that was asked for, unless it is an arena
abbrev pub CollectsAsked : Manager → (mid : Parts) → (events : List Event) → (new : Stepping) → Type 0
CollectsAsked Arena mid events new = IsLeft mid events new
CollectsAsked Count mid events new = IsCollected cause.Asked mid events new
CollectsAsked Trace mid events new = IsCollected cause.Asked mid events new

-- what holds of the active region: of its number, its manager and how many cells it has
abbrev pub ForActive : Parts → (Active → Type 0) → Type 0
ForActive mid P = (a : Active) × IsActive mid a × P a

-- what is done for the cause for which a step may collect
abbrev pub Serves : Option Cause → (old : Stepping) → (mid : Parts) → (new : Stepping) → (before after : Asks) → Type 0
Serves None old mid new before after = IsLeft mid old.events new × Unasked old new before after
Serves (Some cause.Asked) old mid new before after =
    ForActive mid (λ a. CollectsAsked a.manager mid old.events new) × Unasked old new before after
Serves (Some cause.Paced) old mid new before after = ForActive mid (λ a. Paces a.manager a.held old mid new before after)

-- a step that was refused leaves the machine that is shown, and neither collects nor asks
pub record IsRefused (old new : Stepping) (before after : Asks) : Type 0 where
  pub shown : machine_in new.parts ≡ machine_in old.parts
  pub events_are : new.events ≡ old.events
  pub unasked : Unasked old new before after

-- what a step did that may collect for a cause; behind its instructions it left `mid`
abbrev pub ServesBy : Option Cause → (old : Stepping) → (mid : Parts) → (new : Stepping) → (before after : Asks) → Outcome → Type 0
ServesBy due old mid new before after outcome.Running = Serves due old mid new before after
ServesBy due old mid new before after (outcome.Printed v) = Serves due old mid new before after
ServesBy due old mid new before after outcome.Done = Serves due old mid new before after
ServesBy due old mid new before after (outcome.Trap kind line) = IsRefused old new before after
ServesBy due old mid new before after outcome.InputFault = IsRefused old new before after
ServesBy due old mid new before after outcome.Memory = IsRefused old new before after

-- where a step has told of a collection by mark and sweep, what was kept are as many objects as the roots of the window reach in a state
abbrev pub KeepsReached : (old new : List Event) → State → Type 0
KeepsReached old new q = (e : Event) → new ≡ old ++ e ∷ [] → e.manager ≡ Trace → e.kept ≡ length (plain_reach q)

-- so it is in the state behind the step, whatever state of an accepted program the machine showed
abbrev pub ReachesOn : Code → (old : Machine) → (events behind : List Event) → (before after : List ℕ) → Type 0
ReachesOn code old events behind before after =
    (t : Tree) (p q : State) → Runs t code old p → p.input ≡ before → next t.classes p ≡ Went q → KeepsReached events behind q

-- Where what is kept moves, and a step told of a traced region that was asked to be collected: from the heap and the frames before the step to
-- those behind it the cells of that region that are in reach have moved to its lowest slots, all words that led to them lead there, the others of it
-- are gone, and the regions that lost their owner with these have been released. Nothing else differs.
abbrev pub SlidesAsked : (old new : Stepping) → Type 0
SlidesAsked old new =
    old.slides ≡ true → (e : Event) → new.events ≡ old.events ++ e ∷ [] → e.cause ≡ cause.Asked → e.manager ≡ Trace →
    OnActive old.parts (λ top r. (e.region ≡ r.number)
    × Slides old.parts.heap new.parts.heap top.region r old.parts.frames new.parts.frames)
