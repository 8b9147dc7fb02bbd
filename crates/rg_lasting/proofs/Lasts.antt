-- A step of a behaviour leaves its object held, and region 0 an arena.
use Rattle.std.proofs.Common.{◌≡◌, inl, inr, ℕ, Bool as Truth, true, false, List, [], Option, Some, None, option_map, slice_get, refl, sym, ap, ◌∙◌}
use Rattle.std.proofs.Common.{subst}
use Rattle.std.proofs.lemmas.Option.{same_Some}
use Rattle.rg_base.specs.declared.event.Cause.{Cause}
use Rattle.rg_base.specs.declared.event.Cause.TheVariants as cause
use Rattle.rg_base.specs.declared.event.Event.{Event}
use Rattle.rg_base.specs.declared.object.Label.TheVariants.{Region, Temp}
use Rattle.rg_base.specs.declared.object.Seen.{Seen}
use Rattle.rg_base.specs.declared.outcome.Outcome.{Outcome}
use Rattle.rg_base.specs.declared.outcome.Outcome.TheVariants as outcome
use Rattle.rg_base.specs.declared.words.Manager.{Manager}
use Rattle.rg_base.specs.declared.words.Manager.TheVariants.{Arena, Count, Trace}
use Rattle.rg_base.proofs.Callers.Labels.{region-number}
use Rattle.rg_tree.specs.Tree.{Tree}
use Rattle.rg_rules.specs.Acceptance.{Accepted}
use Rattle.rg_rules.specs.State.{State, active}
use Rattle.rg_rules.specs.Steps.{Went, next}
use Rattle.rg_sound.specs.Fit.{Fit}
use Rattle.rg_code.specs.Code.{Code}
use Rattle.rg_code.specs.Dues.{due_at}
use Rattle.rg_regions.specs.Table.{InTable}
use Rattle.rg_heap.specs.declared.answers.Active.{Active}
use Rattle.rg_stack.specs.Tops.{top_region}
use Rattle.rg_stack.specs.Machine.{Machine}
use Rattle.rg_held.specs.Gather.{Gathered, LinkOut, Loses, first, further}
use Rattle.rg_held.specs.Gone.{gone}
use Rattle.rg_held.specs.Part.{Part}
use Rattle.rg_held.specs.Shown.{Finds, ShowsHeld}
use Rattle.rg_view.proofs.Callers.Link.{link-at, link-parent}
use Rattle.rg_machine.specs.Active.{IsActive}
use Rattle.rg_machine.specs.Collects.{holds}
use Rattle.rg_machine.specs.Parts.{Parts, machine_in}
use Rattle.rg_machine.proofs.Callers.Part.{shown-part}
use Rattle.rg_first.specs.First.{IsFirst}
use Rattle.rg_first.specs.Laws.{FirstStays}
use Rattle.rg_step.specs.Behaviours.{HoldsFirst}
use Rattle.rg_step.specs.Collections.{CollectsAsked, CollectsOn, GathersBy, IsCollected, IsLeft, IsRefused, Paces, Serves, ServesBy}
use Rattle.rg_step.specs.Frees.{FreesOnly}
use Rattle.rg_step.specs.Pacers.{Asks}
use Rattle.rg_step.specs.Sound.{IsSound}
use Rattle.rg_step.specs.Stepping.{Stepping}
use Rattle.rg_step.specs.Steps.{Settles}
use Rattle.rg_step.proofs.Callers.Active.{active-of, shown-manager}
use Rattle.rg_lasting.specs.Lasting.{FirstLasts}
use Rattle.rg_lasting.proofs.Managers.{managers-stay}
use Rattle.rg_lasting.proofs.Shown.{InArena, Shows, first-in, gone-not, held-shows, holds-first, shows-held}

-- The state

-- what is held of the first object is in the state, and its region has the same manager
state-of : (t : Tree) (code : Code) (w : Parts) (p : State) → IsSound w.heap w.frames → ShowsHeld t.classes code (machine_in w) p
    → HoldsFirst w → InArena p.store p.managers
state-of t code w p sound shown f =
    let x = held-shows w sound f in
    let here = holds-first w sound f in
    let part = shown-part w shown.grown shown.held sound.serials sound.stands sound.windows shown.beside in
    let there : slice_get shown.grown.store 0 ≡ Some x.object = sym (part.same 0 here) ∙ x.there in
    let managed = part.held_managers 0 x.object 0 here there x.lies in
    record {
      object = x.object;
      there = ap (λ (s : List Seen). slice_get s 0) (sym shown.shows.store) ∙ there;
      lies = x.lies;
      arena = ap (λ (ms : List Manager). slice_get ms 0) (sym shown.shows.managers) ∙ sym managed ∙ x.arena;
    }

-- so it is behind a plain step
state-on : (t : Tree) (class : ℕ) (p q : State) → FirstStays → Accepted t → Fit t p → IsFirst t.classes class p → InArena p.store p.managers
    → next t.classes p ≡ Went q → InArena q.store q.managers
state-on t class p q stays accepted fit is x went =
    let y = stays t class p q accepted fit is went in
    record { object = y.object; there = y.there; lies = y.label_is; arena = managers-stay t.classes p q went 0 Arena x.arena }

-- Behind the instructions

mid-shows : (t : Tree) (code : Code) (old mid : Parts) (q : State) → IsSound mid.heap mid.frames → Shows old
    → ShowsHeld t.classes code (machine_in mid) q → InArena q.store q.managers → FreesOnly old mid → Shows mid
mid-shows t code old mid q sound x shown y frees = by (holds mid.heap.cells.heap 0) refl
  where
    part : Part (holds mid.heap.cells.heap) [] (machine_in mid) shown.grown []
    part = shown-part mid shown.grown shown.held sound.serials sound.stands sound.windows shown.beside

    there : slice_get shown.grown.store 0 ≡ Some y.object
    there = ap (λ (s : List Seen). slice_get s 0) shown.shows.store ∙ y.there

    by : (b : Truth) → holds mid.heap.cells.heap 0 ≡ b → Shows mid
    by true here = record {
      object = y.object;
      there = part.same 0 here ∙ there;
      lies = y.lies;
      arena = part.held_managers 0 y.object 0 here there y.lies ∙ ap (λ (ms : List Manager). slice_get ms 0) shown.shows.managers ∙ y.arena;
    }
    by false lost =
        let is : slice_get (machine_in mid).store 0 ≡ Some gone =
        part.others 0 lost ∙ ap (option_map (λ (o : Seen). gone)) there in
        let none : Finds (machine_in mid).store 0 None = λ o e. same_Some o gone (sym e ∙ is) in
        absurd (elim (frees 0 x.object x.there (gone-not x.object x.lies) none) [
          | inl z ↦ temp-not z.0 (sym x.lies ∙ z.1)
          | inr z ↦
              let zero : z.0 ≡ 0 = region-number z.0 0 (sym z.1 ∙ x.lies) in
              z.2.left (subst (InTable mid.heap.regions) (sym zero) (first-in mid sound))
        ])
      where
        temp-not : (n : ℕ) → Region 0 ≡ Temp n → ⊥
        temp-not n e = cc

-- Behind a collection

count-not : Count ≡ Arena → ⊥
count-not e = cc

trace-not : Trace ≡ Arena → ⊥
trace-not e = cc

-- the last link on the way to a region that loses its owner
last-link : (held kept : ℕ → Truth) (m : Machine) (q : ℕ) → Loses held kept m q → (p : ℕ) × LinkOut held m p q
last-link held kept m q (first l k) = (top_region m.windows, l)
last-link held kept m q (further {p} y l) = (p, l)

module _ (mid : Parts) (sound : IsSound mid.heap mid.frames) where
  -- no field of another region leads into region 0
  none-loses : (kept : ℕ → Truth) → Loses (holds mid.heap.cells.heap) kept (machine_in mid) 0 → ⊥
  none-loses kept y =
      let z = last-link (holds mid.heap.cells.heap) kept (machine_in mid) 0 y in
      let l = z.1 in
      let p = link-parent mid.heap.cells.heap z.0 0 sound.serials l.differ
      (link-at l.object l.holder l.field l.address l.there l.lies l.value l.leads) in
      sound.forest.none_into_first z.0 p.from p.field p.to l.differ p.lies p.leads p.child_has

  gathered-shows : (new : Parts) → Shows mid → (top_region (machine_in mid).windows ≡ 0 → ⊥)
      → Gathered (holds mid.heap.cells.heap) (holds new.heap.cells.heap) (machine_in mid) (machine_in new) (machine_in mid) → Shows new
  gathered-shows new x other g =
      let here = holds-first mid sound (shows-held mid sound x) in
      let none : Loses (holds mid.heap.cells.heap) (holds new.heap.cells.heap) (machine_in mid) 0 → ⊥ =
      none-loses (holds new.heap.cells.heap) in
      let kept = g.stays 0 x.object here x.there
      (λ e. other (region-number (top_region (machine_in mid).windows) 0 (sym e ∙ x.lies)))
      (λ q e l. none
      (subst (λ n. Loses (holds mid.heap.cells.heap) (holds new.heap.cells.heap) (machine_in mid) n) (region-number q 0 (sym e ∙ x.lies)) l)) in
      record { object = x.object; there = g.same 0 kept ∙ x.there; lies = x.lies; arena = g.managers 0 none ∙ x.arena }

  by-slides : (slides : Truth) (new : Parts) → Shows mid → (top_region (machine_in mid).windows ≡ 0 → ⊥) → GathersBy slides mid new → Shows new
  by-slides false new x other g = gathered-shows new x other g.gathered
  by-slides true new x other g = gathered-shows new x other g.gathered

  left-shows : (events : List Event) (new : Stepping) → Shows mid → IsLeft mid events new → Shows new.parts
  left-shows events new x l = subst Shows (sym l.parts) x

  module _ (t : Tree) (code : Code) (q : State) (shown : ShowsHeld t.classes code (machine_in mid) q) (y : InArena q.store q.managers) where
    -- an active region that isn't an arena isn't region 0
    not-first : (a : Active) → IsActive mid a → (a.manager ≡ Arena → ⊥) → top_region (machine_in mid).windows ≡ 0 → ⊥
    not-first a is other zero =
        let manager = shown-manager t code mid q a sound.stands shown is in
        let top : active q.windows ≡ 0 = active-of _ shown.grown.windows q.windows shown.shows.windows ∙ ap top_region (sym shown.beside.windows)
        ∙ zero in
        other (same_Some a.manager Arena (sym manager ∙ ap (slice_get q.managers) top ∙ y.arena))

    collected-shows : (why : Cause) (events : List Event) (new : Stepping) (a : Active) → IsActive mid a → (a.manager ≡ Arena → ⊥) → Shows mid
        → IsCollected why mid events new → Shows new.parts
    collected-shows why events new a is other x c = by-slides new.slides new.parts x (not-first a is other) c.gathers

    on-shows : (answer : Truth) (events : List Event) (new : Stepping) (a : Active) → IsActive mid a → (a.manager ≡ Arena → ⊥) → Shows mid
        → CollectsOn answer mid events new → Shows new.parts
    on-shows true events new a is other x c = collected-shows cause.Paced events new a is other x c
    on-shows false events new a is other x l = left-shows events new x l

    asked-shows : (m : Manager) (events : List Event) (new : Stepping) (a : Active) → IsActive mid a → a.manager ≡ m → Shows mid
        → CollectsAsked m mid events new → Shows new.parts
    asked-shows Arena events new a is e x l = left-shows events new x l
    asked-shows Count events new a is e x c = collected-shows cause.Asked events new a is (λ f. count-not (sym e ∙ f)) x c
    asked-shows Trace events new a is e x c = collected-shows cause.Asked events new a is (λ f. trace-not (sym e ∙ f)) x c

    paced-shows : (m : Manager) (held : ℕ) (old new : Stepping) (before after : Asks) (a : Active) → IsActive mid a → a.manager ≡ m → Shows mid
        → Paces m held old mid new before after → Shows new.parts
    paced-shows Arena held old new before after a is e x c = left-shows old.events new x c.0
    paced-shows Count held old new before after a is e x c = on-shows c.0 old.events new a is (λ f. count-not (sym e ∙ f)) x c.1
    paced-shows Trace held old new before after a is e x c = on-shows c.0 old.events new a is (λ f. trace-not (sym e ∙ f)) x c.1

    serves-shows : (due : Option Cause) (old new : Stepping) (before after : Asks) → Shows mid → Serves due old mid new before after → Shows new.parts
    serves-shows None old new before after x c = left-shows old.events new x c.0
    serves-shows (Some cause.Asked) old new before after x c = asked-shows c.0.0.manager old.events new c.0.0 c.0.1 refl x c.0.2
    serves-shows (Some cause.Paced) old new before after x c = paced-shows c.0.manager c.0.held old new before after c.0 c.1 refl x c.2

-- A whole step

refused-shows : (old new : Stepping) (before after : Asks) → Shows old.parts → IsRefused old new before after → Shows new.parts
refused-shows old new before after x r =
    let P : Machine → Type 0 = λ m. InArena m.store m.managers in subst P (sym r.shown) x

abbrev Going : (t : Tree) (code : Code) (p : State) (mid : Parts) → Type 0
Going t code p mid = (q : State) × (next t.classes p ≡ Went q) × ShowsHeld t.classes code (machine_in mid) q

by-result : (t : Tree) (code : Code) (p : State) (due : Option Cause) (old : Stepping) (mid : Parts) (new : Stepping) (before after : Asks)
    (result : Outcome) → Shows old.parts → (Going t code p mid → Serves due old mid new before after → Shows new.parts)
    → ((q : State) × Settles (next t.classes p) p q result × ShowsHeld t.classes code (machine_in mid) q)
    → ServesBy due old mid new before after result → Shows new.parts
by-result t code p due old mid new before after outcome.Running x go s c = go (s.0, s.1.0, s.2) c
by-result t code p due old mid new before after (outcome.Printed v) x go s c = go (s.0, s.1.0, s.2) c
by-result t code p due old mid new before after outcome.Done x go s c = go (s.0, s.1.0, s.2) c
by-result t code p due old mid new before after (outcome.Trap kind line) x go s c = refused-shows old new before after x c
by-result t code p due old mid new before after outcome.InputFault x go s c = refused-shows old new before after x c
by-result t code p due old mid new before after outcome.Memory x go s c = refused-shows old new before after x c

pub first-lasts : FirstStays → FirstLasts
first-lasts stays t code old new result before after class p runs input is sound f one =
    let s = one.serves in
    let x = held-shows old.stepper.parts sound f in
    let at = state-of t code old.stepper.parts p sound runs.shows f in
    let step = s.shows t p runs input in
    let due = due_at code.ops old.stepper.parts.at in
    shows-held new.stepper.parts one.sound
    (by-result t code p due old.stepper s.mid new.stepper old.pacers new.pacers result x (λ g c.
    let y = state-on t class p g.0 stays runs.accepted runs.fits is at g.1 in
    let m = mid-shows t code old.stepper.parts s.mid g.0 s.sound x g.2 y s.frees in
    serves-shows s.mid s.sound t code g.0 g.2 y due old.stepper new.stepper old.pacers new.pacers m c)
    (step.0, step.1, step.2) s.does)
