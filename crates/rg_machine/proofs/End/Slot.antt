-- What a slot owns goes: what is asked of its word, and the machine behind it.
use Rattle.std.proofs.Common.{◌≡◌, ◌<◌, ℕ, true, [], ◌∷◌, Option, Some, None, option_and_then}
use Rattle.std.proofs.Common.{length, slice_get, slice_set, refl, sym, ap, ◌∙◌, subst, arith}
use Rattle.std.proofs.lemmas.Option.{none-some}
use Rattle.rg_base.specs.declared.object.Label.{Label}
use Rattle.rg_base.specs.declared.object.Label.TheVariants.{Region}
use Rattle.rg_base.specs.declared.object.Seen.{Seen}
use Rattle.rg_base.specs.declared.value.Val.{Val}
use Rattle.rg_base.specs.declared.value.Val.TheVariants.{Nil}
use Rattle.rg_base.specs.declared.value.Word.{Word}
use Rattle.rg_rules.specs.Regions.{address, region_of, region_at}
use Rattle.rg_cells.specs.Table.{Serials}
use Rattle.rg_regions.specs.Grove.{Grove}
use Rattle.rg_stack.specs.Machine.{Machine, slot_at, put_slot, top_slots}
use Rattle.rg_stack.specs.Needs.{closed_into, loose, owned_once}
use Rattle.rg_stack.specs.Labels.{is_into}
use Rattle.rg_stack.proofs.Callers.Need.{closed-counts}
use Rattle.rg_view.proofs.Callers.Held.{region-below}
use Rattle.rg_machine.specs.Core.{Core, with_machine}
use Rattle.rg_machine.specs.Effects.{AllLoose, Apart, without}
use Rattle.rg_machine.specs.Keeps.{backs}
use Rattle.rg_machine.specs.Parts.{Parts, machine_in, val_in}
use Rattle.rg_machine.specs.Cores.{core_of}
use Rattle.rg_machine.specs.Stands.{Leads, Stands}
use Rattle.rg_machine.proofs.Release.Effect.{Asked}
use Rattle.rg_machine.proofs.Release.Fewer.{closed-back, fewer-loose, fewer-nil, loose-none, once-nil}
use Rattle.rg_view.proofs.Callers.Need.{weight}
use Rattle.rg_machine.proofs.Release.Fewer.{places-nil, places-owned}
use Rattle.rg_machine.proofs.Release.Behind.{none-loose}
use Rattle.rg_machine.proofs.Write.Slot.{backs-slots}

-- regions of objects are those that were made
abbrev pub Bounded : Machine → Type 0
Bounded m = (a r : ℕ) → region_at m.store a ≡ Some r → r < length m.managers

pub bounded : (p : Parts) → Serials p.heap.cells.heap → Grove p.heap.cells p.heap.regions → Stands p.heap p.frames → Bounded (machine_in p)
bounded p q g s a r e = region-below p.heap.cells.heap p.heap.regions a r q s.numbers g.labels e

pub closed-bound : (m : Machine) (v : Val) (r : ℕ) → Bounded m → closed_into m v ≡ Some r → r < length m.managers
closed-bound m v r b e = by (address v) (closed-back m.windows m.store v r e).0
  where
    region-in : (l : Label) → Some l ≡ Some (Region r) → region_of l ≡ Some r
    region-in l e = ap (option_and_then region_of) e

    at : (a : ℕ) (o : Option Seen) → slice_get m.store a ≡ o → option_and_then (λ (o : Seen). Some o.label) (slice_get m.store a) ≡ Some (Region r)
        → r < length m.managers
    at a None f e = absurd (none-some (Region r) (sym (ap (option_and_then (λ (o : Seen). Some o.label)) f) ∙ e))
    at a (Some o) f e =
        b a r (ap (option_and_then (λ (o : Seen). region_of o.label)) f
        ∙ region-in o.label (sym (ap (option_and_then (λ (o : Seen). Some o.label)) f) ∙ e))

    by : (x : Option ℕ) → option_and_then (λ a. option_and_then (λ (o : Seen). Some o.label) (slice_get m.store a)) x ≡ Some (Region r)
        → r < length m.managers
    by None e = absurd (none-some (Region r) e)
    by (Some a) e = at a (slice_get m.store a) refl e

-- the machine in which the slot is nil
abbrev pub slot-nil : Core → (s : ℕ) → Core
slot-nil c s = with_machine c (put_slot c.machine s Nil)

module _ (c : Core) (s : ℕ) (b : Bounded c.machine) (once : owned_once c.machine ≡ true) (all : AllLoose c) where
  -- no place leads where the slot led
  pub loose-slot : loose (put_slot c.machine s Nil) (slot_at c.machine s) ≡ true
  loose-slot =
      loose-none (put_slot c.machine s Nil) (slot_at c.machine s) (λ r e.
      places-owned c.machine s r once (closed-bound c.machine (slot_at c.machine s) r b e) e)

  -- nor does a value on the stack
  pub apart-slot : Apart (slot-nil c s) (slot_at c.machine s)
  apart-slot k r x e = (
    fewer-loose c.machine (put_slot c.machine s Nil) x (fewer-nil c.machine s) (all k x e),
    λ there here.
        let none = none-loose c.machine x r there (all k x e) in
        let one : weight (is_into c.machine.store r (slot_at c.machine s)) ≡ weight true =
        ap weight (closed-counts c.machine (slot_at c.machine s) r here) in
        let le = places-nil c.machine s r in
        absurd (omega (arith, none, one, le)),
  )

module _ (p mid : Parts) (w : Word) (s : ℕ) (b : Bounded (machine_in p)) (once : owned_once (machine_in p) ≡ true) (all : AllLoose (core_of p))
    (value : val_in p w ≡ slot_at (machine_in p) s) (heap : mid.heap ≡ p.heap) (put : core_of mid ≡ slot-nil (core_of p) s) where
  shown : val_in mid w ≡ slot_at (machine_in p) s
  shown = ap (λ h. val_in (record p { heap = h }) w) heap ∙ value

  pub asked-slot : Leads mid.heap mid.frames w → Asked mid w
  asked-slot l = record {
    leads = l;
    once = ap (λ (c : Core). owned_once c.machine) put ∙ once-nil (machine_in p) s once;
    free =
        ap (λ (c : Core). loose c.machine (val_in mid w)) put
        ∙ ap (loose (put_slot (machine_in p) s Nil)) shown ∙ loose-slot (core_of p) s b once all;
    apart =
        subst (λ c. Apart c (val_in mid w)) (sym put)
        (subst (Apart (slot-nil (core_of p) s)) (sym shown) (apart-slot (core_of p) s b once all));
  }

  -- the machine behind it
  pub behind-slot : (new : Parts) → core_of new ≡ without (core_of mid) (val_in mid w ∷ [])
      → core_of new ≡ with_machine (core_of p) (put_slot (without (core_of p) (slot_at (machine_in p) s ∷ [])).machine s Nil)
  behind-slot new e =
      e ∙ ap (λ c. without c (val_in mid w ∷ [])) put ∙ ap (λ v. without (slot-nil (core_of p) s) (v ∷ [])) shown

  pub backs-slot : (new : Parts) → core_of new ≡ without (core_of mid) (val_in mid w ∷ [])
      → backs (machine_in new).frames ≡ backs (machine_in p).frames
  backs-slot new e =
      ap (λ (c : Core). backs c.machine.frames) (e ∙ ap (λ c. without c (val_in mid w ∷ [])) put)
      ∙ backs-slots (slice_set (top_slots (machine_in p).frames) s Nil) (machine_in p).frames
