-- A `collect` of a traced region of which what is kept moves: what the step's state was before it has moved behind it.
use Rattle.std.proofs.Common.{◌≡◌, Bool, true, false, [], ◌∷◌, ◌++◌, Some, refl, sym, ap, ◌∙◌, subst}
use Rattle.std.proofs.lemmas.Option.{none-some, same_Some}
use Rattle.rg_base.specs.declared.event.Cause.{Cause}
use Rattle.rg_base.specs.declared.event.Cause.TheVariants.{Asked}
use Rattle.rg_base.specs.declared.event.Event.{Event}
use Rattle.rg_base.specs.declared.words.Manager.{Manager}
use Rattle.rg_base.specs.declared.words.Manager.TheVariants.{Arena, Count, Trace}
use Rattle.rg_heap.specs.declared.answers.Collected.{Collected}
use Rattle.rg_heap.specs.Slides.{Slides, SlidesBy}
use Rattle.rg_machine.specs.Active.{OnActive}
use Rattle.rg_machine.specs.Parts.{Parts}
use Rattle.rg_step.specs.Collections.{CollectsTop, Serves, SlidesAsked, event_of}
use Rattle.rg_step.specs.Pacers.{Asks}
use Rattle.rg_step.specs.Stepping.{Stepping}
use Rattle.rg_step.proofs.Callers.Reached.{last-is, longer, serves-told}

-- where nothing was told, nothing is said
pub none-slid : (old new : Stepping) → new.events ≡ old.events → SlidesAsked old new
none-slid old new same slides e more asked trace = absurd (longer old.events e (sym same ∙ more))

-- the region that is told of
abbrev Moves : (old new : Parts) → (told : Collected) → Type 0
Moves old new told = OnActive old (λ top r. (told.region ≡ r.number) × Slides old.heap new.heap top.region r old.frames new.frames)

moves-traced : (slides : Bool) (mid new : Parts) (told : Collected) → slides ≡ true → CollectsTop slides mid new (Some told)
    → told.manager ≡ Trace → Moves mid new told
moves-traced false mid new told is by trace = absurd cc
moves-traced true mid new told is (top, r, at, known, by) trace = (top, r, at, known, one r.manager refl by)
  where
    counts : Trace ≡ Count → ⊥
    counts e = cc

    one : (m : Manager) → r.manager ≡ m → SlidesBy m mid.heap new.heap top.region r mid.frames new.frames (Some told)
        → (told.region ≡ r.number) × Slides mid.heap new.heap top.region r mid.frames new.frames
    one Arena e s = absurd (none-some told (sym s.0))
    one Count e s =
        absurd (counts (sym trace ∙ ap (λ (x : Collected). x.manager) (same_Some told s.0.0 s.0.1) ∙ s.0.2.manager ∙ e))
    one Trace e s = (ap (λ (x : Collected). x.region) (same_Some told s.0 s.1) ∙ s.2.region, s.3)

-- what is due was done, behind instructions which, where it was asked for, left the heap and the frames
pub serves-slid : (why : Cause) (start old : Stepping) (mid : Parts) (new : Stepping) (before after : Asks)
    → Serves (Some why) old mid new before after → old.events ≡ start.events → new.slides ≡ start.slides
    → (why ≡ Asked → (mid.heap ≡ start.parts.heap) × (mid.frames ≡ start.parts.frames)) → SlidesAsked start new
serves-slid why start old mid new before after serves told slides still moving e more asked trace =
    let c = serves-told why old mid new before after serves e (more ∙ ap (λ es. es ++ e ∷ []) (sym told)) in
    let event : e ≡ event_of new.steps why c.told =
    last-is old.events e (event_of new.steps why c.told)
    (ap (λ es. es ++ e ∷ []) told ∙ sym more ∙ c.events_are) in
    let same = still (ap (λ (x : Event). x.cause) (sym event) ∙ asked) in
    let moved : Moves mid new.parts c.told =
    moves-traced new.slides mid new.parts c.told (slides ∙ moving) c.collects (ap (λ (x : Event). x.manager) (sym event) ∙ trace) in
    let here : Moves (record mid { heap = start.parts.heap; frames = start.parts.frames }) new.parts c.told =
    subst (λ h. Moves (record mid { heap = h; frames = start.parts.frames }) new.parts c.told) same.0
    (subst (λ f. Moves (record mid { frames = f }) new.parts c.told) same.1 moved) in
    (here.0, here.1, here.2, here.3, (ap (λ (x : Event). x.region) event ∙ here.4.0, here.4.1))
