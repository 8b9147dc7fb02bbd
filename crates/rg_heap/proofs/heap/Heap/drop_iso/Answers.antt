use Rattle.std.proofs.Common.{◌≡◌, ℕ, sym, subst, ◌∙◌}
use Rattle.rg_base.specs.declared.value.Word.TheVariants.{Slot}
use Rattle.rg_base.proofs.Callers.Labels.{slot-same}
use Rattle.rg_regions.specs.Table.{HasNumber}
use Rattle.rg_regions.specs.Reach.{LiesIn}
use Rattle.rg_regions.specs.Grove.{Below}
use Rattle.rg_regions.proofs.Callers.Told.{one_region}
use Rattle.rg_heap.specs.Parts.{Parts}
use Rattle.rg_heap.specs.Ends.{Released, NoCell}
use Rattle.rg_heap.proofs.Left.{released_one}
use Rattle.rg_heap.proofs.heap.Heap.drop_iso.Goals as goal

pub returns-clause-released : goal.returns-clause-released
returns-clause-released c =
    let s = c.self.inside in
    let a = c.in-Some.ensures.some in
    let new : Parts = record { cells = c.release_one.new.cells; regions = c.release_one.new.regions } in
    let P : Parts → Type 0 = λ (p : Parts). (slot : ℕ) → c.args.at ≡ Slot slot → (key n : ℕ) → LiesIn p.cells.heap n slot
    → HasNumber p.regions key n
    → Released p new (Below p.cells.heap p.regions n) NoCell in
    subst P c.self.view_is (λ slot e key n l has.
    let same = slot-same c.in-Slot.slot slot (sym c.in-Slot.is ∙ e) in
    let L : ℕ → Type 0 = λ z. LiesIn s.cells.heap n z in
    let q = one_region s.cells.heap c.in-Slot.slot a.0 n a.1 (subst L (sym same) l) in
    let N : ℕ → Type 0 = λ z. HasNumber s.regions c.in-Some.key z in
    released_one (record { cells = s.cells; regions = s.regions }) new c.in-Some.key n (subst N q a.2) c.release_one.ensures.gone)
