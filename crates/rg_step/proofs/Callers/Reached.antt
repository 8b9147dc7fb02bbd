-- What a collection by mark and sweep keeps is as much as the state behind the step reaches.
use Rattle.std.proofs.Common.{◌≡◌, ◌≤◌, ◌-◌, ◌^◌, ◌+◌, ℕ, true, false, Bool, List, [], ◌∷◌, ◌++◌, Some, length, sym, ap, ◌∙◌}
use Rattle.std.proofs.Common.{arith}
use Rattle.std.proofs.lemmas.List.{length-append}
use Rattle.rg_base.specs.declared.event.Cause.{Cause}
use Rattle.rg_base.specs.declared.event.Cause.TheVariants.{Asked, Paced}
use Rattle.rg_base.specs.declared.event.Event.{Event}
use Rattle.rg_base.specs.declared.outcome.Outcome.{Outcome}
use Rattle.rg_base.specs.declared.words.Manager.{Manager}
use Rattle.rg_base.specs.declared.words.Manager.TheVariants.{Arena, Count, Trace}
use Rattle.rg_tree.specs.Tree.{Tree}
use Rattle.rg_rules.specs.Reach.{plain_reach}
use Rattle.rg_rules.specs.State.{State}
use Rattle.rg_rules.specs.Steps.{Stepped as Plain, Went, next}
use Rattle.rg_sound.specs.Fit.{Fit}
use Rattle.rg_cells.specs.Table.{Serials}
use Rattle.rg_code.specs.Code.{Code}
use Rattle.rg_regions.specs.Grove.{Grove}
use Rattle.rg_stack.specs.Machine.{Machine}
use Rattle.rg_stack.specs.Shows.{Shows}
use Rattle.rg_heap.specs.declared.answers.Collected.{Collected}
use Rattle.rg_held.specs.Part.{Part}
use Rattle.rg_machine.specs.Collects.{holds}
use Rattle.rg_machine.specs.Parts.{Parts, machine_in}
use Rattle.rg_machine.specs.Stands.{Stands}
use Rattle.rg_machine.proofs.Callers.Active.{on-each}
use Rattle.rg_machine.proofs.Callers.Part.{shown-part}
use Rattle.rg_machine.proofs.Callers.Reach.{kept-traced}
use Rattle.rg_machine.proofs.Callers.SlidReach.{slid-traced}
use Rattle.rg_step.specs.Collections.{CollectsAsked, CollectsOn, CollectsTop, IsCollected, IsLeft, KeepsReached, Paces, ReachesOn, Serves}
use Rattle.rg_step.specs.Pacers.{Asks}
use Rattle.rg_step.specs.Collections.{event_of}
use Rattle.rg_step.specs.Steps.{StepsOn, is_made}
use Rattle.rg_step.specs.Stepping.{Stepping}
use Rattle.rg_step.proofs.Callers.Serve.{fits-behind, made-went}

-- Events

pub longer : (xs : List Event) (e : Event) → xs ≡ xs ++ e ∷ [] → ⊥
longer xs e is =
    let n : length xs ≡ length xs + 1 = ap length is ∙ length-append xs (e ∷ []) in
    omega (arith, n)

pub last-is : (xs : List Event) (e d : Event) → xs ++ e ∷ [] ≡ xs ++ d ∷ [] → e ≡ d
last-is [] e d is = cc
last-is (x ∷ xs) e d is = last-is xs e d (ap tail is)
  where
    tail : List Event → List Event
    tail [] = []
    tail (y ∷ ys) = ys

-- where nothing was told, nothing is said
pub none-reached : (old new : List Event) (q : State) → new ≡ old → KeepsReached old new q
none-reached old new q same e more trace = absurd (longer old e (sym same ∙ more))

left-not : (old : Stepping) (mid : Parts) (new : Stepping) (e : Event) → IsLeft mid old.events new → new.events ≡ old.events ++ e ∷ [] → ⊥
left-not old mid new e left more = longer old.events e (sym left.events_are ∙ more)

-- what is told is what was collected
pub serves-told : (why : Cause) (old : Stepping) (mid : Parts) (new : Stepping) (before after : Asks) → Serves (Some why) old mid new before after
    → (e : Event) → new.events ≡ old.events ++ e ∷ [] → IsCollected why mid old.events new
serves-told Asked old mid new before after s e more = by s.0.0.manager s.0.2
  where
    by : (m : Manager) → CollectsAsked m mid old.events new → IsCollected Asked mid old.events new
    by Arena c = absurd (left-not old mid new e c more)
    by Count c = c
    by Trace c = c
serves-told Paced old mid new before after s e more = by s.0.manager s.2
  where
    on : (answer : Bool) → CollectsOn answer mid old.events new → IsCollected Paced mid old.events new
    on true c = c
    on false c = absurd (left-not old mid new e c more)

    by : (m : Manager) → Paces m s.0.held old mid new before after → IsCollected Paced mid old.events new
    by Arena c = absurd (left-not old mid new e c.0 more)
    by Count c = on c.0 c.1
    by Trace c = on c.0 c.1

pub went-is : (d : Plain) (q r : State) → d ≡ Went q → d ≡ Went r → q ≡ r
went-is d q r e f = same (sym e ∙ f)
  where
    same : Went q ≡ Went r → q ≡ r
    same is = cc

-- what is told of a collection of a traced region, whether what is kept moves or not
kept-behind : (slides : Bool) (t : Tree) (code : Code) (s : State) (mid new : Parts) (m : Machine) (told : Collected)
    → Fit t s → Shows t.classes code m s → Part (holds mid.heap.cells.heap) [] (machine_in mid) m []
    → Serials mid.heap.cells.heap → Grove mid.heap.cells mid.heap.regions → Grove new.heap.cells new.heap.regions
    → Stands mid.heap mid.frames → CollectsTop slides mid new (Some told) → told.manager ≡ Trace → told.kept ≡ length (plain_reach s)
kept-behind false t code s mid new m told fit shows part serials grove grown stands collects is =
    kept-traced t code s mid new m told fit shows part serials grove grown stands (on-each mid _ collects) is
kept-behind true t code s mid new m told fit shows part serials grove grown stands collects is =
    slid-traced t code s mid new m told fit shows part serials grove grown stands (on-each mid _ collects) is

-- what is told of a collection behind a step
pub serves-reached : (code : Code) (why : Cause) (old : Stepping) (mid : Parts) (new : Stepping) (asks told : Asks) (result : Outcome)
    → is_made result ≡ true → Serves (Some why) old mid new asks told → Stands mid.heap mid.frames → Serials mid.heap.cells.heap
    → mid.frames.next ≤ 2 ^ 64 - 1 → Grove mid.heap.cells mid.heap.regions → Grove new.parts.heap.cells new.parts.heap.regions
    → (was : Machine) (events : List Event) → events ≡ old.events → (before after : List ℕ) → StepsOn code was (machine_in mid) result before after
    → ReachesOn code was events new.events before after
serves-reached code why old mid new asks told result made serves stands serials windows grove grown was events same before after steps t p q r e went
    d more trace =
    let s = steps t p r e in
    let is : s.0 ≡ q = went-is (next t.classes p) s.0 q (made-went (next t.classes p) p s.0 result made s.1) went in
    let c = serves-told why old mid new asks told serves d (more ∙ ap (λ es. es ++ d ∷ []) same) in
    let event : d ≡ event_of new.steps why c.told =
    last-is old.events d (event_of new.steps why c.told) (ap (λ es. es ++ d ∷ []) (sym same) ∙ sym more ∙ c.events_are) in
    let fit = fits-behind t code was p s.0 result r made s.1 in
    let kept = kept-behind new.slides t code s.0 mid new.parts s.2.grown c.told fit s.2.shows
    (shown-part mid s.2.grown s.2.held serials stands windows s.2.beside) serials grove grown stands c.collects
    (ap (λ (x : Event). x.manager) (sym event) ∙ trace) in
    ap (λ (x : Event). x.kept) event ∙ kept ∙ ap (λ n. length (plain_reach n)) is
