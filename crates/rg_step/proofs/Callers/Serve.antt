-- Behind the instructions of a step that was made: at most one place leads into each closed region, and a collection keeps what is shown.
use Rattle.std.proofs.Common.{◌≡◌, ◌≤◌, ◌-◌, ◌^◌, ◌⊎◌, inl, inr, ℕ, true, false, List, [], Option, Some, None, refl, sym, ap, ◌∙◌, subst}
use Rattle.std.proofs.Common.{Bool, true≢false, option_map}
use Rattle.std.proofs.lemmas.Option.{none-some}
use Rattle.rg_base.specs.declared.event.Cause.{Cause}
use Rattle.rg_base.specs.declared.event.Cause.TheVariants.{Asked, Paced}
use Rattle.rg_base.specs.declared.event.Event.{Event}
use Rattle.rg_base.specs.declared.outcome.Outcome.{Outcome}
use Rattle.rg_base.specs.declared.outcome.Outcome.TheVariants as outcome
use Rattle.rg_base.specs.declared.words.Manager.{Manager}
use Rattle.rg_base.specs.declared.words.Manager.TheVariants.{Arena, Count, Trace}
use Rattle.rg_tree.specs.Tree.{Tree}
use Rattle.rg_rules.specs.Acceptance.{Accepted}
use Rattle.rg_rules.specs.State.{State}
use Rattle.rg_rules.specs.Steps.{Stepped as Plain, Went, next}
use Rattle.rg_sound.specs.Fit.{Fit}
use Rattle.rg_sound.proofs.Law.{step-keeps}
use Rattle.rg_input.specs.Numbers.{Follows, OnInput, Pending}
use Rattle.rg_input.proofs.Input.{OnInput-some}
use Rattle.rg_cells.specs.Table.{Serials}
use Rattle.rg_code.specs.Code.{Code}
use Rattle.rg_frames.specs.declared.rows.Window.{Window as WindowRow}
use Rattle.rg_frames.specs.Stack.{IsTop, Stack}
use Rattle.rg_heap.specs.Collects.{CollectsBy}
use Rattle.rg_heap.specs.Slides.{SlidesBy}
use Rattle.rg_regions.specs.Reach.{Roots}
use Rattle.rg_regions.specs.Table.{HasNumber, Record, RegionTable, record_at}
use Rattle.rg_stack.specs.Machine.{Machine}
use Rattle.rg_stack.specs.Needs.{owned_once}
use Rattle.rg_stack.specs.Shows.{Shows}
use Rattle.rg_held.specs.Part.{Part}
use Rattle.rg_held.specs.Shown.{ShowsHeld}
use Rattle.rg_held.proofs.Gather.Told.{held-as, part-as}
use Rattle.rg_machine.specs.Collects.{holds}
use Rattle.rg_machine.specs.Parts.{Parts, machine_in}
use Rattle.rg_machine.specs.Stands.{Stands}
use Rattle.rg_machine.proofs.Callers.Active.{on-each}
use Rattle.rg_machine.proofs.Callers.Part.{gathers-part, gone-shown, held-shown, once-held, slides-part}
use Rattle.rg_step.specs.Collections.{CollectsAsked, CollectsOn, CollectsTop, ForActive, GathersBy, IsLeft, IsRefused, Paces, Serves, ServesBy}
use Rattle.rg_step.specs.Pacers.{Asks}
use Rattle.rg_step.specs.Collections.{Unasked}
use Rattle.rg_step.specs.Steps.{IsRunning, Runs, Settles, StepsOn, is_made}
use Rattle.rg_step.specs.Stepping.{Stepping}
use Rattle.rg_step.proofs.Walking.Run.{with-input}

-- Behind a step that was made

pub made-went : (d : Plain) (p q : State) (result : Outcome) → is_made result ≡ true → Settles d p q result → d ≡ Went q
made-went d p q outcome.Running made s = s.0
made-went d p q (outcome.Printed v) made s = s.0
made-went d p q outcome.Done made s = s.0
made-went d p q (outcome.Trap kind line) made s = absurd (true≢false (sym made))
made-went d p q outcome.InputFault made s = absurd (true≢false (sym made))
made-went d p q outcome.Memory made s = absurd (true≢false (sym made))

pub fits-behind : (t : Tree) (code : Code) (m : Machine) (p q : State) (result : Outcome) → Runs t code m p → is_made result ≡ true
    → Settles (next t.classes p) p q result → Fit t q
fits-behind t code m p q result r made s =
    (step-keeps t p q r.accepted r.fits (made-went (next t.classes p) p q result made s)).fit

pub once-stepped : (code : Code) (old mid : Machine) (result : Outcome) (before after : List ℕ) → IsRunning code old → is_made result ≡ true
    → StepsOn code old mid result before after → owned_once mid ≡ true
once-stepped code old mid result before after (t, p, r) made steps =
    let here = with-input t code old p before r in
    let s = steps t (record p { input = before }) here refl in
    let fit = fits-behind t code old (record p { input = before }) s.0 result here made s.1 in
    once-held t code s.0 s.2.held mid s.2.grown fit s.2.shows s.2.beside

pub once-behind : (code : Code) (old mid : Machine) (result : Outcome) (before after : Pending) (left still : Option (List ℕ))
    → IsRunning code old → is_made result ≡ true → Follows after still → OnInput before after left still (StepsOn code old mid result)
    → owned_once mid ≡ true
once-behind code old mid result before after left still runs made follows on =
    let s = OnInput-some before after left still (StepsOn code old mid result) follows on in
    once-stepped code old mid result s.0 s.1 runs made s.2

-- Behind a collection

-- the machine is still beside the one over a growing store, whether what is kept moves or not
part-behind : (slides : Bool) (t : Tree) (code : Code) (q : State) (mid new : Parts) (m : Machine) → Accepted t → Fit t q
    → Shows t.classes code m q → Part (holds mid.heap.cells.heap) [] (machine_in mid) m [] → GathersBy slides mid new
    → Part (holds new.heap.cells.heap) [] (machine_in new) m []
part-behind false t code q mid new m accepted fit shows p g = gathers-part t code q mid new m accepted fit shows p g
part-behind true t code q mid new m accepted fit shows p g = slides-part t code q mid new m accepted fit shows p g

module _ (slides : Bool) (mid new : Parts) (stands : Stands mid.heap mid.frames) (serials : Serials mid.heap.cells.heap)
    (windows : mid.frames.next ≤ 2 ^ 64 - 1) (gathers : GathersBy slides mid new) where
  shown-gathered : (t : Tree) (code : Code) (q : State) → Accepted t → Fit t q → ShowsHeld t.classes code (machine_in mid) q
      → ShowsHeld t.classes code (machine_in new) q
  shown-gathered t code q accepted fit h =
      let also = holds mid.heap.cells.heap in
      let few : h.grown.windows_made ≤ 2 ^ 64 - 1 = subst (λ n. n ≤ 2 ^ 64 - 1) h.beside.windows_made windows in
      let same = held-as h.held also [] (machine_in mid) h.grown [] h.beside few (held-shown mid.heap mid.frames serials stands windows)
      (gone-shown mid.heap mid.frames serials stands) in
      record {
        grown = h.grown;
        held = holds new.heap.cells.heap;
        shows = h.shows;
        beside = part-behind slides t code q mid new h.grown accepted fit h.shows
            (part-as h.held also [] (machine_in mid) h.grown [] h.beside same) gathers;
      }

  pub steps-gathered : (code : Code) (old : Machine) (result : Outcome) (before after : List ℕ) → is_made result ≡ true
      → StepsOn code old (machine_in mid) result before after → StepsOn code old (machine_in new) result before after
  steps-gathered code old result before after made steps t p r e =
      let s = steps t p r e in (
        s.0,
        s.1,
        shown-gathered t code s.0 r.accepted (fits-behind t code old p s.0 result r made s.1) s.2,
        s.3,
      )

-- What is done

-- what is done leaves the machine, or collects
pub serves-keeps : (why : Cause) (old : Stepping) (mid : Parts) (new : Stepping) (before after : Asks) → Serves (Some why) old mid new before after
    → (new.parts ≡ mid) ⊎ GathersBy new.slides mid new.parts
serves-keeps Asked old mid new before after s = by s.0.0.manager s.0.2
  where
    by : (m : Manager) → CollectsAsked m mid old.events new → (new.parts ≡ mid) ⊎ GathersBy new.slides mid new.parts
    by Arena c = inl c.parts
    by Count c = inr c.gathers
    by Trace c = inr c.gathers
serves-keeps Paced old mid new before after s = by s.0.manager s.2
  where
    on : (answer : Bool) → CollectsOn answer mid old.events new → (new.parts ≡ mid) ⊎ GathersBy new.slides mid new.parts
    on true c = inr c.gathers
    on false c = inl c.parts

    by : (m : Manager) → Paces m s.0.held old mid new before after → (new.parts ≡ mid) ⊎ GathersBy new.slides mid new.parts
    by Arena c = inl c.0.parts
    by Count c = on c.0 c.1
    by Trace c = on c.0 c.1

module _ (code : Code) (start : Machine) (result : Outcome) (made : is_made result ≡ true) where
  pub serves-shows : (why : Cause) (old : Stepping) (mid : Parts) (new : Stepping) (first last : Asks) → Serves (Some why) old mid new first last
      → Stands mid.heap mid.frames → Serials mid.heap.cells.heap → mid.frames.next ≤ 2 ^ 64 - 1 → (before after : List ℕ)
      → StepsOn code start (machine_in mid) result before after → StepsOn code start (machine_in new.parts) result before after
  serves-shows why old mid new first last serves stands serials windows before after steps = elim (serves-keeps why old mid new first last serves) [
    | inl same ↦ subst (λ p. StepsOn code start (machine_in p) result before after) (sym same) steps
    | inr gathers ↦ steps-gathered new.slides mid new.parts stands serials windows gathers code start result before after made steps
  ]

-- By what was answered

pub serves-made : (due : Option Cause) (old : Stepping) (mid : Parts) (new : Stepping) (before after : Asks) (result : Outcome)
    → is_made result ≡ true → Serves due old mid new before after → ServesBy due old mid new before after result
serves-made due old mid new before after outcome.Running made s = s
serves-made due old mid new before after (outcome.Printed v) made s = s
serves-made due old mid new before after outcome.Done made s = s
serves-made due old mid new before after (outcome.Trap kind line) made s = absurd (true≢false (sym made))
serves-made due old mid new before after outcome.InputFault made s = absurd (true≢false (sym made))
serves-made due old mid new before after outcome.Memory made s = absurd (true≢false (sym made))

-- nothing was due
pub serves-none : (due : Option Cause) (old : Stepping) (mid : Parts) (new : Stepping) (before after : Asks) (result : Outcome)
    → is_made result ≡ true → due ≡ None → IsLeft mid old.events new → Unasked old new before after
    → ServesBy due old mid new before after result
serves-none due old mid new before after result made none left unasked =
    serves-made due old mid new before after result made (subst (λ d. Serves d old mid new before after) (sym none) (left, unasked))

-- what was due was done
pub serves-some : (due : Option Cause) (why : Cause) (old : Stepping) (events : List Event) (mid : Parts) (new : Stepping) (before after : Asks)
    (result : Outcome) → is_made result ≡ true → due ≡ Some why → events ≡ old.events
    → Serves (Some why) (record old { events = events }) mid new before after → ServesBy due old mid new before after result
serves-some due why old events mid new before after result made some same serves =
    let there : Serves (Some why) old mid new before after =
    subst (λ es. Serves (Some why) (record old { events = es }) mid new before after) same serves in
    serves-made due old mid new before after result made (subst (λ d. Serves d old mid new before after) (sym some) there)

pub serves-refused : (due : Option Cause) (old : Stepping) (mid : Parts) (new : Stepping) (before after : Asks) (result : Outcome)
    → is_made result ≡ false → IsRefused old new before after → ServesBy due old mid new before after result
serves-refused due old mid new before after outcome.Running made s = absurd (true≢false made)
serves-refused due old mid new before after (outcome.Printed v) made s = absurd (true≢false made)
serves-refused due old mid new before after outcome.Done made s = absurd (true≢false made)
serves-refused due old mid new before after (outcome.Trap kind line) made s = s
serves-refused due old mid new before after outcome.InputFault made s = s
serves-refused due old mid new before after outcome.Memory made s = s

-- nothing was done
pub steps-nowhere : (code : Code) (m : Machine) (bytes : List ℕ) → StepsOn code m m outcome.Memory bytes bytes
steps-nowhere code m bytes t p r e = (p, refl, r.shows, e)

-- The region that is collected

pub has-record : (t : RegionTable) (key n : ℕ) → HasNumber t key n → (r : Record) × (record_at t key ≡ Some r)
has-record t key n h = by (record_at t key) refl
  where
    by : (o : Option Record) → record_at t key ≡ o → (r : Record) × (record_at t key ≡ Some r)
    by None e = absurd (none-some n (sym (ap (option_map (λ (r : Record). r.number)) e) ∙ h))
    by (Some r) e = (r, e)

-- a region that isn't an arena tells of its collection
pub told-some : (slides : Bool) (mid new : Parts) → ForActive mid (λ a. a.manager ≡ Arena → ⊥) → CollectsTop slides mid new None → ⊥
told-some slides mid new a by = none slides by
  where
    stayed : (m : Manager) (key : ℕ) (r : Record) (roots : Roots) → (m ≡ Arena → ⊥) → CollectsBy m mid.heap new.heap key r roots None → ⊥
    stayed Arena key r roots never c = never refl
    stayed Count key r roots never c = none-some c.0 c.1
    stayed Trace key r roots never c = none-some c.0 c.1

    moved : (m : Manager) (key : ℕ) (r : Record) (before after : Stack) → (m ≡ Arena → ⊥)
        → SlidesBy m mid.heap new.heap key r before after None → ⊥
    moved Arena key r before after never c = never refl
    moved Count key r before after never c = none-some c.0.0 c.0.1
    moved Trace key r before after never c = none-some c.0 c.1

    -- its record has the manager that is told
    manager : (top : WindowRow) (r : Record) → IsTop mid.frames top → record_at mid.heap.regions top.region ≡ Some r → r.manager ≡ Arena → ⊥
    manager top r is known e = a.2 ((on-each mid _ a.1 top is r known).1 ∙ e)

    none : (slides : Bool) → CollectsTop slides mid new None → ⊥
    none false (top, r, is, known, c) = stayed r.manager _ _ _ (manager top r is known) c
    none true (top, r, is, known, c) = moved r.manager _ _ _ _ (manager top r is known) c
