-- What callers cite of collections: a machine that frees beside the one over a growing store may collect, and stays beside it.
use Rattle.std.proofs.Common.{◌≡◌, ◌≤◌, ◌-◌, ◌^◌, inl, inr, ℕ, Bool as Truth, true, false, List, [], ◌∷◌, Some, None}
use Rattle.std.proofs.Common.{option_map, slice_get, refl, sym, ap, ◌∙◌, subst, arith}
use Rattle.std.proofs.lemmas.Bool.{false≢true}
use Rattle.std.proofs.lemmas.Option.{same_Some}
use Rattle.rg_base.specs.declared.object.Label.TheVariants.{Region}
use Rattle.rg_base.specs.declared.object.Place.TheVariants as place
use Rattle.rg_base.specs.declared.object.Seen.{Seen}
use Rattle.rg_base.specs.declared.value.Val.{Val}
use Rattle.rg_tree.specs.Tree.{Tree}
use Rattle.rg_rules.specs.Acceptance.{Accepted}
use Rattle.rg_rules.specs.State.{State}
use Rattle.rg_sound.specs.Fit.{Fit}
use Rattle.rg_code.specs.Code.{Code, empty}
use Rattle.rg_code.specs.declared.op.Op.TheVariants as i
use Rattle.rg_cells.specs.declared.cell.Body.{Body}
use Rattle.rg_cells.specs.Table.{Serials}
use Rattle.rg_frames.specs.Stack.{Stack}
use Rattle.rg_stack.specs.Machine.{Machine, Window}
use Rattle.rg_stack.specs.Needs.{owned_once}
use Rattle.rg_stack.specs.Labels.{is_open}
use Rattle.rg_stack.specs.Shows.{Shows}
use Rattle.rg_stack.proofs.Callers.Once.{owned_once-fits}
use Rattle.rg_heap.specs.Parts.{Parts}
use Rattle.rg_view.specs.View.{object_of, store_of}
use Rattle.rg_view.proofs.Callers.Link.{store-back}
use Rattle.rg_view.proofs.Callers.Look.{store-held}
use Rattle.rg_held.specs.Gone.{gone}
use Rattle.rg_held.specs.Part.{Differ, OwnerHeld, OwnersHeld, Part, is_of}
use Rattle.rg_held.proofs.Callers.Need.{needs-same}
use Rattle.rg_held.proofs.Gather.Told.{held-as, part-as}
use Rattle.rg_held.proofs.Gather.Whole.{gathers-fit, shows-fit}
use Rattle.rg_machine.specs.Collects.{Gathers, GathersSliding, OwnerOutside, holds}
use Rattle.rg_machine.specs.Parts.{Parts as Whole, machine_in}
use Rattle.rg_machine.specs.Stands.{Stands}
use Rattle.rg_machine.proofs.Callers.Gather.{holds-back, lacks-not}

-- The owner

-- where the topmost window's owner is in an object, that is of a window beneath
owner-beneath : (held : ℕ → Truth) (store : List Seen) (w : Window) (ws : List Window) → OwnerHeld held store ws w.owner
    → is_open ws w.region ≡ false → (a k : ℕ) → w.owner ≡ Some (place.Field a k)
    → (held a ≡ true) × ((o : Seen) → slice_get store a ≡ Some o → o.label ≡ Region w.region → ⊥)
owner-beneath held store w ws own shut a k e =
    let x = subst (OwnerHeld held store ws) e own in (
      x.0,
      λ o there label.
          let same : x.1.0 ≡ o = same_Some x.1.0 o (sym x.1.1 ∙ there) in
          let open_in : is_of ws (Region w.region) ≡ true = ap (is_of ws) (sym (ap (λ (o : Seen). o.label) same ∙ label)) ∙ x.1.2 in
          false≢true (sym shut ∙ open_in),
    )

pub owner-outside : (held : ℕ → Truth) (owners : List Val) (f m : Machine) (stack : List Val) → Part held owners f m stack
    → OwnerOutside f f.windows
owner-outside held owners f m stack p =
    subst (λ ws. OwnerOutside f ws) (sym p.windows) (by m.windows p.window_owners p.tidy.differ)
  where
    by : (ws : List Window) → OwnersHeld held m.store ws → Differ ws → OwnerOutside f ws
    by [] own d = tt
    by (w ∷ ws) own d = λ a k o e there label.
        let x = owner-beneath held m.store w ws own.0 d.0 a k e in x.1 o (sym (p.same a x.0) ∙ there) label

-- At most one place leads into each closed region

pub once-held : (t : Tree) (code : Code) (s : State) (held : ℕ → Truth) (f m : Machine) → Fit t s → Shows t.classes code m s
    → Part held [] f m [] → owned_once f ≡ true
once-held t code s held f m fit shows p =
    needs-same empty (i.End 0) [] [] (record { machine = f; input = []; printed = None })
    (record { machine = m; input = []; printed = None })
    (held, record { machine = p; input = refl; printed = refl })
    (owned_once-fits t.classes m s.frames s.windows (shows-fit t code m s fit shows))

-- Behind a collection

pub gathers-part : (t : Tree) (code : Code) (s : State) (old new : Whole) (m : Machine) → Accepted t → Fit t s
    → Shows t.classes code m s → Part (holds old.heap.cells.heap) [] (machine_in old) m [] → Gathers old new
    → Part (holds new.heap.cells.heap) [] (machine_in new) m []
gathers-part t code s old new m accepted fit shows p g =
    gathers-fit t code s (holds old.heap.cells.heap) (holds new.heap.cells.heap) (machine_in old) (machine_in new) m accepted fit shows p
    (g.keeps (owner-outside (holds old.heap.cells.heap) [] (machine_in old) m [] p)) g.gathered

-- and behind one that moves what it keeps
pub slides-part : (t : Tree) (code : Code) (s : State) (old new : Whole) (m : Machine) → Accepted t → Fit t s
    → Shows t.classes code m s → Part (holds old.heap.cells.heap) [] (machine_in old) m [] → GathersSliding old new
    → Part (holds new.heap.cells.heap) [] (machine_in new) m []
slides-part t code s old new m accepted fit shows p g =
    gathers-fit t code s (holds old.heap.cells.heap) (holds new.heap.cells.heap) (machine_in old) (machine_in new) m accepted fit shows p
    (g.keeps (owner-outside (holds old.heap.cells.heap) [] (machine_in old) m [] p)) g.gathered

-- What is held, as the store shows it

module _ (p : Parts) (v : Stack) (q : Serials p.cells.heap) (st : Stands p v) where
  pub held-shown : v.next ≤ 2 ^ 64 - 1 → (a : ℕ) → holds p.cells.heap a ≡ true
      → (o : Seen) × (slice_get (store_of p.cells.heap) a ≡ Some o) × (o ≡ gone → ⊥)
  held-shown few a e =
      let x = holds-back p.cells.heap a e in (
        object_of p.cells.heap (Some x.1),
        ap (slice_get (store_of p.cells.heap)) (sym x.3) ∙ store-held p.cells.heap x.0 x.1 q x.2,
        λ is.
            let w = st.temps x.0 (2 ^ 64 - 1) (ap (option_map (λ (b : Body). b.label)) x.2 ∙ ap (λ (o : Seen). Some o.label) is) in
            let less = st.windows_next w.0 w.1 w.2 in
            let number = w.3 in
            omega (arith, less, few, number),
      )

  pub gone-shown : (a : ℕ) (o : Seen) → holds p.cells.heap a ≡ false → slice_get (store_of p.cells.heap) a ≡ Some o → o ≡ gone
  gone-shown a o e there = elim (store-back p.cells.heap a o there) [
    | inl x ↦ absurd (lacks-not p.cells.heap a e x.slot x.body x.held x.serial)
    | inr is ↦ is
  ]

-- what is held may be said to be what the heap holds
pub shown-part : (w : Whole) (m : Machine) (held : ℕ → Truth) → Serials w.heap.cells.heap → Stands w.heap w.frames → w.frames.next ≤ 2 ^ 64 - 1
    → Part held [] (machine_in w) m [] → Part (holds w.heap.cells.heap) [] (machine_in w) m []
shown-part w m held q st few p =
    part-as held (holds w.heap.cells.heap) [] (machine_in w) m [] p
    (held-as held (holds w.heap.cells.heap) [] (machine_in w) m [] p (subst (λ n. n ≤ 2 ^ 64 - 1) p.windows_made few)
    (held-shown w.heap w.frames q st few) (gone-shown w.heap w.frames q st))
