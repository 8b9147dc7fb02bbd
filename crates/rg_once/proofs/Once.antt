-- Two answers to a step: where the instructions left the same held, a collection tells the same, and leaves the same held.
use Rattle.std.proofs.Common.{◌≡◌, ◌≤◌, ℕ, true, List, Some, is_some, length, count_by, slice_get}
use Rattle.std.proofs.Common.{sym, ap, ◌∙◌, subst, arith}
use Rattle.std.proofs.lemmas.Option.{same_Some}
use Rattle.rg_base.specs.declared.event.Cause.{Cause}
use Rattle.rg_base.specs.declared.event.Event.{Event}
use Rattle.rg_base.specs.declared.object.Label.TheVariants.{Region}
use Rattle.rg_base.specs.declared.object.Seen.{Seen}
use Rattle.rg_base.specs.declared.words.Manager.{Manager}
use Rattle.rg_tree.specs.Tree.{Tree}
use Rattle.rg_rules.specs.State.{State}
use Rattle.rg_code.specs.Code.{Code}
use Rattle.rg_cells.specs.declared.cell.Body.{Body}
use Rattle.rg_cells.specs.Table.{body_at}
use Rattle.rg_regions.specs.Grove.{Members}
use Rattle.rg_regions.specs.Reach.{LiesIn}
use Rattle.rg_stack.specs.Tops.{top_region}
use Rattle.rg_view.specs.View.{object_of, store_of}
use Rattle.rg_view.proofs.Callers.Link.{label-in}
use Rattle.rg_view.proofs.Callers.Look.{store-held}
use Rattle.rg_machine.specs.Collects.{holds}
use Rattle.rg_machine.specs.Parts.{Parts, machine_in}
use Rattle.rg_machine.proofs.Callers.Gather.{holds-back}
use Rattle.rg_step.specs.States.{Standing}
use Rattle.rg_step.proofs.Callers.Told.{event-told}
use Rattle.rg_once.specs.Once.{HoldTheSame, Tells}
use Rattle.rg_once.proofs.Answer.{Answer, Made, beside, collects-so, few-behind, gathered, last, made-of, mid, region-is, top, top-is}
use Rattle.rg_once.proofs.Cell.{Within, held-same, members-fewer, within}
use Rattle.rg_once.proofs.Gone.{behind-same, both-ways, keeps-also}
use Rattle.rg_once.proofs.Kept.{kept-also}
use Rattle.rg_once.proofs.Table.{regions-fewer}

-- two collections in the same step, of the same region, by its manager and for the same cause
record OfTheSame (e d : Event) : Type 0 where
  pub step : e.step ≡ d.step
  pub region : e.region ≡ d.region
  pub manager : e.manager ≡ d.manager
  pub cause : e.cause ≡ d.cause

-- events with the same parts
event-same : (e d : Event) → OfTheSame e d → e.held ≡ d.held → e.kept ≡ d.kept → e.released ≡ d.released → e ≡ d
event-same e d s held kept released =
    ap (λ n. record e { step = n }) s.step
    ∙ ap (λ n. record e { step = d.step; region = n }) s.region
    ∙ ap (λ (m : Manager). record e { step = d.step; region = d.region; manager = m }) s.manager
    ∙ ap (λ (c : Cause). record e { step = d.step; region = d.region; manager = d.manager; cause = c }) s.cause
    ∙ ap (λ n. record e { step = d.step; region = d.region; manager = d.manager; cause = d.cause; held = n }) held
    ∙ ap (λ n. record e { step = d.step; region = d.region; manager = d.manager; cause = d.cause; held = d.held; kept = n }) kept
    ∙ ap (λ n. record d { released = n }) released

-- a cell of the active region, by its object
record Within-top (p : Parts) (r a : ℕ) : Type 0 where
  pub slot : ℕ
  pub body : Body
  pub held : body_at p.heap.cells.heap slot ≡ Some body
  pub serial : body.serial ≡ a
  pub lies : LiesIn p.heap.cells.heap r slot

module _ {t : Tree} {code : Code} {old beside_old : Standing} {p q : State} {new other : Standing} (w : Answer t code old p q new)
    (u : Answer t code beside_old p q other) (same : HoldTheSame (mid w) (mid u)) where
  -- what the instructions left held in the one is held in the other
  pub in-other : Within (mid w).heap.cells.heap (mid u).heap.cells.heap
  in-other =
      within (mid w).heap (mid u).heap (mid w).frames (mid u).frames (beside w).serials (beside u).serials (beside w).stands (beside u).stands
      w.step.serves.sound.windows same

  pub held-also : (a : ℕ) → holds (mid w).heap.cells.heap a ≡ true → holds (mid u).heap.cells.heap a ≡ true
  held-also =
      held-same (mid w).heap (mid u).heap (mid w).frames (mid u).frames (beside w).serials (beside u).serials (beside w).stands
      (beside u).stands w.step.serves.sound.windows same

  same-region : (top w).rec.number ≡ (top u).rec.number
  same-region = region-is w ∙ sym (region-is u)

  -- as many regions
  pub regions-few : count_by is_some (mid w).heap.regions.records ≤ count_by is_some (mid u).heap.regions.records
  regions-few =
      regions-fewer (mid w).heap (mid u).heap (mid w).frames (mid u).frames (beside u).serials (beside w).stands (beside u).stands
      (beside w).grove (beside u).grove in-other

  -- the active region has as many cells
  pub members-few : length (top w).rec.members ≤ length (top u).rec.members
  members-few =
      members-fewer (mid w).heap.cells.heap (mid u).heap.cells.heap (beside w).serials (beside u).serials in-other (top w).rec.number
      (top w).rec.members (top u).rec.members ((beside w).grove.members (top w).window.region (top w).rec (top w).known)
      (subst (λ n. Members (mid u).heap.cells.heap n (top u).rec.members) (sym same-region)
      ((beside u).grove.members (top u).window.region (top u).rec (top u).known))

  top-cell : (a : ℕ) (o : Seen) → holds (mid w).heap.cells.heap a ≡ true → slice_get (machine_in (mid w)).store a ≡ Some o
      → o.label ≡ Region (top_region (machine_in (mid w)).windows) → Within-top (mid w) (top w).rec.number a
  top-cell a o here there label =
      let x = holds-back (mid w).heap.cells.heap a here in
      let shows : object_of (mid w).heap.cells.heap (Some x.1) ≡ o =
      same_Some (object_of (mid w).heap.cells.heap (Some x.1)) o
      (sym (store-held (mid w).heap.cells.heap x.0 x.1 (beside w).serials x.2)
      ∙ ap (slice_get (store_of (mid w).heap.cells.heap)) x.3 ∙ there) in
      record {
        slot = x.0;
        body = x.1;
        held = x.2;
        serial = x.3;
        lies = label-in (mid w).heap.cells.heap x.0 x.1 (Region (top w).rec.number) x.2
            (ap (λ (o : Seen). o.label) shows ∙ label ∙ ap Region (top w).shown);
      }

module _ {t : Tree} {code : Code} {old beside_old : Standing} {p q : State} {new other : Standing} (w : Answer t code old p q new)
    (u : Answer t code beside_old p q other) (same : HoldTheSame (mid w) (mid u)) {e d : Event}
    (c : Made (mid w) old.stepper.events new.stepper e) (f : Made (mid u) beside_old.stepper.events other.stepper d)
    (manager : (top w).rec.manager ≡ (top u).rec.manager) where
  -- of the active region the other keeps what the one keeps
  pub top-kept : (a : ℕ) (o : Seen) → holds (mid w).heap.cells.heap a ≡ true → slice_get (machine_in (mid w)).store a ≡ Some o
      → o.label ≡ Region (top_region (machine_in (mid w)).windows) → holds (last w).heap.cells.heap a ≡ true
      → holds (last u).heap.cells.heap a ≡ true
  top-kept a o here there label kept =
      let x = top-cell w u same a o here there label in
      subst (λ n. holds (last u).heap.cells.heap n ≡ true) x.serial
      (kept-also t code q (mid w).heap (last w).heap (mid w).frames (mid w).at _ (beside w) w.step.sound.forest (top w)
      (mid u).heap (last u).heap (mid u).frames (mid u).at _ (beside u) u.step.sound.forest (top u)
      (in-other w u same) (in-other u w (sym same)) (same-region w u same) manager c.did.told f.did.told (collects-so w c) (collects-so u f)
      x.slot x.body x.held x.lies (subst (λ n. holds (last w).heap.cells.heap n ≡ true) (sym x.serial) kept))

module _ {t : Tree} {code : Code} {old beside_old : Standing} {p q : State} {new other : Standing} (w : Answer t code old p q new)
    (u : Answer t code beside_old p q other) (same : HoldTheSame (mid w) (mid u)) {e d : Event}
    (c : Made (mid w) old.stepper.events new.stepper e) (f : Made (mid u) beside_old.stepper.events other.stepper d)
    (manager : (top w).rec.manager ≡ (top u).rec.manager) where
  same-held : (a : ℕ) → holds (mid w).heap.cells.heap a ≡ holds (mid u).heap.cells.heap a
  same-held a =
      both-ways (holds (mid w).heap.cells.heap a) (holds (mid u).heap.cells.heap a) (held-also w u same a) (held-also u w (sym same) a)

  same-top : top_region (machine_in (mid w)).windows ≡ top_region (machine_in (mid u)).windows
  same-top = top-is w ∙ sym (top-is u)

  same-kept : (a : ℕ) (o : Seen) → holds (mid w).heap.cells.heap a ≡ true → slice_get (machine_in (mid w)).store a ≡ Some o
      → o.label ≡ Region (top_region (machine_in (mid w)).windows) → holds (last w).heap.cells.heap a ≡ holds (last u).heap.cells.heap a
  same-kept a o here there label =
      both-ways (holds (last w).heap.cells.heap a) (holds (last u).heap.cells.heap a)
      (top-kept w u same c f manager a o here there label)
      (top-kept u w (sym same) f c (sym manager) a o (held-also w u same a here)
      (ap (λ (s : List Seen). slice_get s a) (sym same) ∙ there) (label ∙ ap Region same-top))

  there : (a : ℕ) → holds (mid w).heap.cells.heap a ≡ true → (o : Seen) × (slice_get (machine_in (mid w)).store a ≡ Some o)
  there a here =
      let x = holds-back (mid w).heap.cells.heap a here in (
        object_of (mid w).heap.cells.heap (Some x.1),
        ap (slice_get (store_of (mid w).heap.cells.heap)) (sym x.3)
            ∙ store-held (mid w).heap.cells.heap x.0 x.1 (beside w).serials x.2,
      )

  pub kept-on : (a : ℕ) → holds (last w).heap.cells.heap a ≡ true → holds (last u).heap.cells.heap a ≡ true
  kept-on =
      keeps-also (holds (mid w).heap.cells.heap) (holds (last w).heap.cells.heap) (holds (mid u).heap.cells.heap)
      (holds (last u).heap.cells.heap) (machine_in (mid w)) (machine_in (mid u)) same same-top same-held same-kept
      (machine_in (last w)) (machine_in (last u)) (gathered w c) (gathered u f) there

module _ {t : Tree} {code : Code} {old beside_old : Standing} {p q : State} {new other : Standing} (w : Answer t code old p q new)
    (u : Answer t code beside_old p q other) (same : HoldTheSame (mid w) (mid u)) {e d : Event}
    (c : Made (mid w) old.stepper.events new.stepper e) (f : Made (mid u) beside_old.stepper.events other.stepper d)
    (manager : (top w).rec.manager ≡ (top u).rec.manager) where
  -- the same is held behind the two
  pub last-same : HoldTheSame (last w) (last u)
  last-same =
      behind-same (holds (mid w).heap.cells.heap) (holds (last w).heap.cells.heap) (holds (mid u).heap.cells.heap)
      (holds (last u).heap.cells.heap) (machine_in (mid w)) (machine_in (mid u)) same (same-top w u same c f manager)
      (same-held w u same c f manager) (same-kept w u same c f manager) (machine_in (last w)) (machine_in (last u)) (gathered w c) (gathered u f)
      (there w u same c f manager)
      (λ a. both-ways (holds (last w).heap.cells.heap a) (holds (last u).heap.cells.heap a) (kept-on w u same c f manager a)
      (kept-on u w (sym same) f c (sym manager) a))

module _ {t : Tree} {code : Code} {old beside_old : Standing} {p q : State} {new other : Standing} (w : Answer t code old p q new)
    (u : Answer t code beside_old p q other) (same : HoldTheSame (mid w) (mid u)) (behind : HoldTheSame (last w) (last u)) {e d : Event}
    (c : Made (mid w) old.stepper.events new.stepper e) (f : Made (mid u) beside_old.stepper.events other.stepper d) where
  in-last : Within (last w).heap.cells.heap (last u).heap.cells.heap
  in-last =
      within (last w).heap (last u).heap (last w).frames (last u).frames w.step.sound.serials u.step.sound.serials w.step.sound.stands
      u.step.sound.stands (few-behind w c) behind

  pub last-regions-few : count_by is_some (last w).heap.regions.records ≤ count_by is_some (last u).heap.regions.records
  last-regions-few =
      regions-fewer (last w).heap (last u).heap (last w).frames (last u).frames u.step.sound.serials w.step.sound.stands u.step.sound.stands
      w.step.sound.forest u.step.sound.forest in-last

  pub kept-few : length (collects-so w c).now.members ≤ length (collects-so u f).now.members
  kept-few =
      members-fewer (last w).heap.cells.heap (last u).heap.cells.heap w.step.sound.serials u.step.sound.serials in-last (top w).rec.number
      (collects-so w c).now.members (collects-so u f).now.members
      (subst (λ n. Members (last w).heap.cells.heap n (collects-so w c).now.members) (collects-so w c).number
      (w.step.sound.forest.members (top w).window.region (collects-so w c).now (collects-so w c).own))
      (subst (λ n. Members (last u).heap.cells.heap n (collects-so u f).now.members)
      ((collects-so u f).number ∙ sym (same-region w u same))
      (u.step.sound.forest.members (top u).window.region (collects-so u f).now (collects-so u f).own))

module _ {t : Tree} {code : Code} {old beside_old : Standing} {p q : State} {new other : Standing} (w : Answer t code old p q new)
    (u : Answer t code beside_old p q other) where
  -- where both tell of a collection, it is of the same
  of-the-same : new.stepper.steps ≡ other.stepper.steps → (e d : Event) → Tells old new e → Tells beside_old other d → OfTheSame e d
  of-the-same steps e d more also =
      let x = event-told t code old new w.result w.before w.after w.made w.step p q w.runs w.input w.went e more in
      let y = event-told t code beside_old other u.result u.before u.after u.made u.step p q u.runs u.input u.went d also in
      let manager : e.manager ≡ d.manager = same_Some e.manager d.manager (sym x.manager ∙ y.manager) in
      record {
        step = x.step ∙ steps ∙ sym y.step;
        region = x.region ∙ sym y.region;
        manager = manager;
        cause = same_Some e.cause d.cause (sym x.due ∙ y.due);
      }

  -- where the instructions left the same held, all that is told is the same, and the same is held behind it
  pub collected-same : new.stepper.steps ≡ other.stepper.steps → HoldTheSame (mid w) (mid u) → (e d : Event) → Tells old new e → Tells beside_old other d
      → (e ≡ d) × HoldTheSame (last w) (last u)
  collected-same steps same e d more also = (
    event-same e d s held kept released,
    behind,
  )
    where
      s : OfTheSame e d
      s = of-the-same steps e d more also

      c : Made (mid w) old.stepper.events new.stepper e
      c = made-of w e more

      f : Made (mid u) beside_old.stepper.events other.stepper d
      f = made-of u d also

      manager : (top w).rec.manager ≡ (top u).rec.manager
      manager =
          sym (collects-so w c).facts.manager ∙ ap (λ (x : Event). x.manager) (sym c.event) ∙ s.manager
          ∙ ap (λ (x : Event). x.manager) f.event ∙ (collects-so u f).facts.manager

      behind : HoldTheSame (last w) (last u)
      behind = last-same w u same c f manager

      held : e.held ≡ d.held
      held =
          let few = members-few w u same in
          let many = members-few u w (sym same) in
          let x = (collects-so w c).facts.held in
          let y = (collects-so u f).facts.held in
          let l : c.did.told.held ≡ f.did.told.held = omega (arith, few, many, x, y) in
          ap (λ (x : Event). x.held) c.event ∙ l ∙ ap (λ (x : Event). x.held) (sym f.event)

      kept : e.kept ≡ d.kept
      kept =
          let few = kept-few w u same behind c f in
          let many = kept-few u w (sym same) (sym behind) f c in
          let x = (collects-so w c).facts.kept (collects-so w c).now (collects-so w c).own in
          let y = (collects-so u f).facts.kept (collects-so u f).now (collects-so u f).own in
          let l : c.did.told.kept ≡ f.did.told.kept = omega (arith, few, many, x, y) in
          ap (λ (x : Event). x.kept) c.event ∙ l ∙ ap (λ (x : Event). x.kept) (sym f.event)

      released : e.released ≡ d.released
      released =
          let few = regions-few w u same in
          let many = regions-few u w (sym same) in
          let few_behind = last-regions-few w u same behind c f in
          let many_behind = last-regions-few u w (sym same) (sym behind) f c in
          let x = (collects-so w c).facts.released in
          let y = (collects-so u f).facts.released in
          let l : c.did.told.released ≡ f.did.told.released = omega (arith, few, many, few_behind, many_behind, x, y) in
          ap (λ (x : Event). x.released) c.event ∙ l ∙ ap (λ (x : Event). x.released) (sym f.event)
