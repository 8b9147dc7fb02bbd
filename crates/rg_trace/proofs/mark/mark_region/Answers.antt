use Rattle.std.proofs.Common.{◌≡◌, ℕ, ◌+◌, length, slice_get, sum_by, subst, sym, ap, ◌∙◌, arith, refl, Some}
use Rattle.std.proofs.Common.{Option}
use Rattle.rg_base.specs.declared.value.Word.TheVariants.{Slot}
use Rattle.rg_base.proofs.Callers.Options.{none-is}
use Rattle.rg_cells.specs.Table.{Heap, Table, IsHeld, body_at, field_at, width}
use Rattle.rg_regions.specs.Reach.{Roots, LiesIn}
use Rattle.rg_trace.specs.Inner.Marking.{Scanned, ScannedTemps, MarkingGoes}
use Rattle.rg_trace.proofs.Marks.Turns.{goes-begin, fields-begin, goes-more, fields-more, pending-less, head-lies}
use Rattle.rg_trace.proofs.Marks.Turns.{goes-done}
use Rattle.rg_trace.proofs.mark.mark_region.Goals as goal
use Rattle.rg_trace.proofs.mark.mark_region.Given.{Over}
use Rattle.rg_trace.proofs.mark.mark_region.Goals.{In-Some}
use Rattle.rg_regions.proofs.Callers.Told.{lies_held}

-- what a turn keeps, of the head of the list
goes : (g : Over) (c : In-Some g) → MarkingGoes c.args.cells.now.heap c.args.region
    (record { bridge = c.args.bridge; slots = c.args.slots.now; temps = c.args.temps.now }) c.args.cells.now c.grey.cells
    (Some c.in-Some.slot)
goes g c =
    let G : Option ℕ → Type 0 = λ o. MarkingGoes c.args.cells.now.heap c.args.region
    (record { bridge = c.args.bridge; slots = c.args.slots.now; temps = c.args.temps.now }) c.args.cells.now c.grey.cells o in
    subst G c.in-Some.is c.grey.invariant.0

-- the head is a held cell of the region
head_lies : (g : Over) (c : In-Some g) → LiesIn c.args.cells.now.heap c.args.region c.in-Some.slot
head_lies g c = head-lies c.args.cells.now.heap c.args.region _ c.grey.cells c.in-Some.slot (goes g c).marking

head_held : (g : Over) (c : In-Some g) → IsHeld c.grey.cells.heap c.in-Some.slot
head_held g c =
    let H : Heap → Type 0 = λ z. IsHeld z c.in-Some.slot in
    subst H (sym c.grey.invariant.0.heap) (lies_held c.args.cells.now.heap c.args.region c.in-Some.slot (head_lies g c))

pub grey-init : goal.grey-init
grey-init g c =
    let h = c.args.cells.now.heap in
    let b = c.grey_bridge-head.new.cells in
    let S : Heap → Type 0 = λ z. Scanned z c.args.region (λ k. slice_get c.args.slots.now k)
    (length c.args.slots.now) b c.grey_words-head.new.cells
    c.grey_bridge-head.result c.grey_words-head.result in
    let s = subst S c.grey_bridge-head.ensures.heap c.grey_words-head.ensures in
    let T : Heap → Type 0 = λ z. ScannedTemps z c.args.region c.args.temps.now
    (length c.args.temps.now) c.grey_words-head.new.cells
    c.grey_temps-head.new.cells c.grey_words-head.result c.grey_temps-head.result in
    let t = subst T s.heap c.grey_temps-head.ensures.traced in
    let C : Heap → Type 0 = λ z. c.grey_temps-head.new.steps ≡ c.args.steps.now + sum_by
    (λ t. width (body_at z t)) c.args.temps.now in
    let cost = subst C s.heap c.grey_temps-head.ensures.cost in
    let none = fields-begin h c.args.region c.args.bridge c.args.slots.now c.args.temps.now c.args.cells.now b
    c.grey_words-head.new.cells
    c.grey_temps-head.new.cells c.grey_bridge-head.result c.grey_words-head.result c.grey_temps-head.result
    c.requires.white
    c.grey_bridge-head.ensures s t in (
      goes-begin h c.args.region c.args.bridge c.args.slots.now c.args.temps.now c.args.cells.now b
          c.grey_words-head.new.cells
          c.grey_temps-head.new.cells c.grey_bridge-head.result c.grey_words-head.result c.grey_temps-head.result refl
          c.requires.white
          c.grey_bridge-head.ensures s t,
      omega (arith, cost, none),
    )

pub link-head-requires : goal.link-head-requires
link-head-requires g c = head_held g (goal.at.link-head-requires g c).In-Some

pub set_mark-requires : goal.set_mark-requires
set_mark-requires g c = head_held g (goal.at.set_mark-requires g c).In-Some

pub grey_fields-head-requires : goal.grey_fields-head-requires
grey_fields-head-requires g c =
    let i = c.grey.invariant.0 in
    let lies = head_lies g (goal.at.grey_fields-head-requires g c).In-Some in
    let same : c.set_mark.new.self.heap ≡ c.args.cells.now.heap = ap (λ (t : Table). t.heap) c.set_mark.ensures.set
    ∙ i.heap in
    let H : Heap → Type 0 = λ z. IsHeld z c.in-Some.slot in
    let L : Heap → Type 0 = λ z. (k s : ℕ) → field_at z c.in-Some.slot k ≡ Some (Slot s) → IsHeld z s in
    record {
      held = subst H (sym same) (lies_held c.args.cells.now.heap c.args.region c.in-Some.slot lies);
      lead = subst L (sym same) (λ k s f. c.requires.lead c.in-Some.slot k s lies f);
    }

pub grey-preserved : goal.grey-preserved
grey-preserved g c =
    let i = c.grey.invariant.0 in
    let h = c.args.cells.now.heap in
    let roots : Roots = record { bridge = c.args.bridge; slots = c.args.slots.now; temps = c.args.temps.now } in
    let j = goes g (goal.at.grey-preserved g c).In-Some in
    let same : c.set_mark.new.self.heap ≡ h = ap (λ (t : Table). t.heap) c.set_mark.ensures.set ∙ i.heap in
    let S : Heap → Type 0 = λ z. Scanned z c.args.region (λ k. field_at z c.in-Some.slot k)
    (width (body_at z c.in-Some.slot)) c.set_mark.new.self
    c.grey_fields-head.new.cells c.link-head.result c.grey_fields-head.result in
    let R : Option ℕ → Type 0 = λ o. Scanned h c.args.region (λ k. field_at h c.in-Some.slot k)
    (width (body_at h c.in-Some.slot))
    c.set_mark.new.self c.grey_fields-head.new.cells o c.grey_fields-head.result in
    let s = subst R c.link-head.ensures (subst S same c.grey_fields-head.ensures.scanned) in
    let C : Heap → Type 0 = λ z. c.grey_fields-head.new.steps ≡ c.grey.steps + width (body_at z c.in-Some.slot) in
    let cost = subst C same c.grey_fields-head.ensures.cost in
    let more = fields-more h c.args.region roots c.args.cells.now c.grey.cells c.set_mark.new.self
    c.grey_fields-head.new.cells c.in-Some.slot
    c.set_mark.ensures.within c.set_mark.ensures.set j s.went in (
      goes-more h c.args.region roots c.args.cells.now c.grey.cells c.set_mark.new.self c.grey_fields-head.new.cells
          c.in-Some.slot
          c.grey_fields-head.result c.set_mark.ensures.within c.set_mark.ensures.set j s,
      omega (arith, c.grey.invariant.1, cost, more),
    )

pub grey-smaller : goal.grey-smaller
grey-smaller g c =
    let i = c.grey.invariant.0 in
    let h = c.args.cells.now.heap in
    let roots : Roots = record { bridge = c.args.bridge; slots = c.args.slots.now; temps = c.args.temps.now } in
    let j = goes g (goal.at.grey-smaller g c).In-Some in
    let same : c.set_mark.new.self.heap ≡ h = ap (λ (t : Table). t.heap) c.set_mark.ensures.set ∙ i.heap in
    let S : Heap → Type 0 = λ z. Scanned z c.args.region (λ k. field_at z c.in-Some.slot k)
    (width (body_at z c.in-Some.slot)) c.set_mark.new.self
    c.grey_fields-head.new.cells c.link-head.result c.grey_fields-head.result in
    let s = subst S same c.grey_fields-head.ensures.scanned in
    pending-less h c.args.region roots c.args.cells.now c.grey.cells c.set_mark.new.self c.grey_fields-head.new.cells
    c.in-Some.slot
    c.set_mark.ensures.within c.set_mark.ensures.set j s.went

pub returns : goal.returns
returns g c =
    let h = c.args.cells.now.heap in
    let roots : Roots = record { bridge = c.args.bridge; slots = c.args.slots.now; temps = c.args.temps.now } in
    let G : Option ℕ → Type 0 = λ o. MarkingGoes h c.args.region roots c.args.cells.now c.grey.cells o in
    record {
      marked = goes-done h c.args.region roots c.args.cells.now c.args.cells.now c.grey.cells refl
          (subst G (none-is c.grey.head c.in_default.not-Some) c.grey.invariant.0);
      cost = c.grey.invariant.1;
    }
