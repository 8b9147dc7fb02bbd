-- The active region: its number and its manager, as a collection tells them, and as a state that is shown has them.
use Rattle.std.proofs.Common.{◌≡◌, ℕ, Bool, true, false, List, [], ◌∷◌, Some, slice_get, refl, sym, ap, ◌∙◌}
use Rattle.std.proofs.lemmas.Option.{none-some, same_Some}
use Rattle.rg_base.specs.declared.event.Cause.{Cause}
use Rattle.rg_base.specs.declared.event.Event.{Event}
use Rattle.rg_base.specs.declared.words.Manager.{Manager}
use Rattle.rg_base.specs.declared.words.Manager.TheVariants.{Arena, Count, Trace}
use Rattle.rg_tree.specs.Tree.{Tree}
use Rattle.rg_rules.specs.State.{State, Window as Opened, active}
use Rattle.rg_code.specs.Code.{Code}
use Rattle.rg_regions.specs.Reach.{Roots}
use Rattle.rg_regions.specs.Table.{Record}
use Rattle.rg_frames.specs.Stack.{Stack}
use Rattle.rg_heap.specs.declared.answers.Active.{Active}
use Rattle.rg_heap.specs.declared.answers.Collected.{Collected}
use Rattle.rg_heap.specs.Collects.{CollectsBy}
use Rattle.rg_heap.specs.Parts.{Parts as HeapParts}
use Rattle.rg_heap.specs.Slides.{SlidesBy}
use Rattle.rg_stack.specs.Tops.{top_region}
use Rattle.rg_stack.specs.Machine.{Window}
use Rattle.rg_stack.specs.Shows.{ShowsWindows}
use Rattle.rg_view.specs.View.{number_in}
use Rattle.rg_view.proofs.Callers.Manager.{manager-at}
use Rattle.rg_view.proofs.Callers.Window.{active-region}
use Rattle.rg_held.specs.Shown.{ShowsHeld}
use Rattle.rg_held.proofs.Places.{top-open}
use Rattle.rg_machine.specs.Active.{IsActive, OnActive}
use Rattle.rg_machine.proofs.Callers.Active.{on-each}
use Rattle.rg_machine.specs.Parts.{Parts, machine_in}
use Rattle.rg_machine.specs.Stands.{Stands}
use Rattle.rg_step.specs.Collections.{CollectsTop, IsCollected}
use Rattle.rg_step.specs.Stepping.{Stepping}

-- What is told of a collection

told-manager : (m : Manager) (old new : HeapParts) (key : ℕ) (rec : Record) (roots : Roots) (told : Collected)
    → CollectsBy m old new key rec roots (Some told) → told.manager ≡ rec.manager
told-manager Arena old new key rec roots told c = absurd (none-some told (sym c.0))
told-manager Count old new key rec roots told c = ap (λ (x : Collected). x.manager) (same_Some told c.0 c.1) ∙ c.2.manager
told-manager Trace old new key rec roots told c = ap (λ (x : Collected). x.manager) (same_Some told c.0 c.1) ∙ c.2.manager

slid-manager : (m : Manager) (old new : HeapParts) (key : ℕ) (rec : Record) (before after : Stack) (told : Collected)
    → SlidesBy m old new key rec before after (Some told) → told.manager ≡ rec.manager
slid-manager Arena old new key rec before after told c = absurd (none-some told (sym c.0))
slid-manager Count old new key rec before after told c = told-manager Count old new key rec _ told c.0
slid-manager Trace old new key rec before after told c = ap (λ (x : Collected). x.manager) (same_Some told c.0 c.1) ∙ c.2.manager

told-region : (m : Manager) (old new : HeapParts) (key : ℕ) (rec : Record) (roots : Roots) (told : Collected)
    → CollectsBy m old new key rec roots (Some told) → told.region ≡ rec.number
told-region Arena old new key rec roots told c = absurd (none-some told (sym c.0))
told-region Count old new key rec roots told c = ap (λ (x : Collected). x.region) (same_Some told c.0 c.1) ∙ c.2.region
told-region Trace old new key rec roots told c = ap (λ (x : Collected). x.region) (same_Some told c.0 c.1) ∙ c.2.region

slid-region : (m : Manager) (old new : HeapParts) (key : ℕ) (rec : Record) (before after : Stack) (told : Collected)
    → SlidesBy m old new key rec before after (Some told) → told.region ≡ rec.number
slid-region Arena old new key rec before after told c = absurd (none-some told (sym c.0))
slid-region Count old new key rec before after told c = told-region Count old new key rec _ told c.0
slid-region Trace old new key rec before after told c = ap (λ (x : Collected). x.region) (same_Some told c.0 c.1) ∙ c.2.region

-- the number and the manager of the active region are told
pub collected-of : (slides : Bool) (mid new : Parts) (told : Collected) → CollectsTop slides mid new (Some told)
    → OnActive mid (λ w r. (told.region ≡ r.number) × (told.manager ≡ r.manager))
collected-of false mid new told (w, r, is, known, c) = (
  w,
  r,
  is,
  known,
  (told-region r.manager mid.heap new.heap w.region r _ told c, told-manager r.manager mid.heap new.heap w.region r _ told c),
)
collected-of true mid new told (w, r, is, known, c) = (
  w,
  r,
  is,
  known,
  (
    slid-region r.manager mid.heap new.heap w.region r mid.frames new.frames told c,
    slid-manager r.manager mid.heap new.heap w.region r mid.frames new.frames told c,
  ),
)

pub collected-manager : (why : Cause) (mid : Parts) (events : List Event) (new : Stepping) (a : Active) → IsActive mid a
    → (c : IsCollected why mid events new) → c.told.manager ≡ a.manager
collected-manager why mid events new a tells c =
    let x = collected-of new.slides mid new.parts c.told c.collects in
    x.4.1 ∙ sym (on-each mid _ tells x.0 x.2 x.1 x.3).1

pub collected-region : (why : Cause) (mid : Parts) (events : List Event) (new : Stepping) (a : Active) → IsActive mid a
    → (c : IsCollected why mid events new) → c.told.region ≡ a.region
collected-region why mid events new a tells c =
    let x = collected-of new.slides mid new.parts c.told c.collects in
    x.4.0 ∙ sym (on-each mid _ tells x.0 x.2 x.1 x.3).0

-- The manager in a state that is shown

pub active-of : (sizes : List ℕ) (ws : List Window) (ps : List Opened) → ShowsWindows sizes ws ps → active ps ≡ top_region ws
active-of sizes [] [] h = refl
active-of sizes [] (p ∷ ps) h = absurd h
active-of sizes (w ∷ ws) [] h = absurd h
active-of sizes (w ∷ ws) (p ∷ ps) h = sym h.0.region

-- the active region in a state that is shown is the one that is told
pub shown-region : (t : Tree) (code : Code) (mid : Parts) (q : State) (a : Active) → ShowsHeld t.classes code (machine_in mid) q → IsActive mid a
    → active q.windows ≡ a.region
shown-region t code mid q a h (w, r, is, known, tells) =
    active-of _ h.grown.windows q.windows h.shows.windows
    ∙ ap top_region (sym h.beside.windows)
    ∙ active-region mid.heap.regions mid.frames w is ∙ ap number_in known
    ∙ sym tells.0

pub shown-manager : (t : Tree) (code : Code) (mid : Parts) (q : State) (a : Active) → Stands mid.heap mid.frames
    → ShowsHeld t.classes code (machine_in mid) q → IsActive mid a → slice_get q.managers (active q.windows) ≡ Some a.manager
shown-manager t code mid q a stands h (w, r, is, known, tells) =
    let m = machine_in mid in
    ap (λ ms. slice_get ms (active q.windows)) (sym h.shows.managers)
    ∙ ap (slice_get h.grown.managers) (active-of _ h.grown.windows q.windows h.shows.windows)
    ∙ sym (h.beside.open_managers (top_region h.grown.windows) (top-open h.grown.windows h.beside.tidy.some_window))
    ∙ ap (λ ws. slice_get m.managers (top_region ws)) (sym h.beside.windows)
    ∙ ap (slice_get m.managers) (active-region mid.heap.regions mid.frames w is ∙ ap number_in known)
    ∙ manager-at mid.heap.regions w.region r stands.numbers known
    ∙ ap Some (sym tells.1)
