use Rattle.std.proofs.Common.{◌≡◌, ℕ, sym, subst, ◌∙◌}
use Rattle.rg_base.specs.declared.value.Word.TheVariants.{Slot}
use Rattle.rg_base.proofs.Callers.Labels.{slot-same}
use Rattle.rg_regions.specs.Table.{HasNumber}
use Rattle.rg_regions.specs.Reach.{LiesIn}
use Rattle.rg_heap.specs.Parts.{Parts}
use Rattle.rg_heap.specs.Moves.{Freezes}
use Rattle.rg_heap.proofs.Moved.{one_key}
use Rattle.rg_heap.proofs.heap.Heap.freeze.Goals as goal

pub returns-clause-freezes : goal.returns-clause-freezes
returns-clause-freezes c =
    let s : Parts = record { cells = c.self.inside.cells; regions = c.self.inside.regions } in
    let new : Parts = record { cells = c.freeze.new.cells; regions = c.freeze.new.regions } in
    let a = c.in-Some.ensures.some in
    let n = c.freeze.ensures in
    let made : Freezes s new c.in-Some.key = record {
      frozen = n.frozen;
      cells = n.cells;
      removed = n.removed;
      records = n.regions;
      serials = n.serials;
      high = n.high;
      numbers = n.numbers;
    } in
    let F : ℕ → Type 0 = λ k. Freezes s new k in
    let P : Parts → Type 0 = λ (p : Parts). (slot : ℕ) → c.args.at ≡ Slot slot → (key n : ℕ) → LiesIn p.cells.heap n slot
    → HasNumber p.regions key n
    → Freezes p new key in
    subst P c.self.view_is (λ slot e key n l has.
    let L : ℕ → Type 0 = λ z. LiesIn s.cells.heap n z in
    let i = subst L (sym (slot-same c.in-Slot.slot slot (sym c.in-Slot.is ∙ e))) l in
    subst F (one_key s.cells.heap s.regions c.in-Slot.slot a.0 n c.in-Some.key key c.self.invariant.numbers a.1 a.2 i has) made)
