use Rattle.std.proofs.Common.{ℕ, sym, subst}
use Rattle.rg_regions.specs.Table.{IsKey, HasNumber}
use Rattle.rg_regions.specs.Reach.{LiesIn}
use Rattle.rg_frames.specs.declared.rows.Window.{Window}
use Rattle.rg_heap.specs.Parts.{Parts}
use Rattle.rg_heap.specs.Moves.{Merges, NotBeneath}
use Rattle.rg_heap.proofs.Readers.{one_top}
use Rattle.rg_heap.proofs.Moved.{can_take, one_key}
use Rattle.rg_heap.proofs.heap.Heap.merge.Goals as goal

pub merge-requires-clause-into : goal.merge-requires-clause-into
merge-requires-clause-into c =
    let s : Parts = record { cells = c.self.inside.cells; regions = c.self.inside.regions } in
    let top = c.top-into.result in
    let a = c.in-Some.ensures.some in
    let K : Parts → Type 0 = λ (p : Parts). IsKey p.regions top.region in
    let N : Parts → Type 0 = λ (p : Parts). NotBeneath p c.in-Slot.slot top.region in
    can_take s c.in-Some.key top.region a.0 c.in-Slot.slot a.1 a.2 (subst K (sym c.self.view_is) (c.requires.key top c.top-into.ensures))
    (subst N (sym c.self.view_is) (c.requires.apart c.in-Slot.slot c.in-Slot.is top c.top-into.ensures))

pub returns-clause-merges : goal.returns-clause-merges
returns-clause-merges c = λ w is key n l has.
    let s : Parts = record { cells = c.self.inside.cells; regions = c.self.inside.regions } in
    let new : Parts = record { cells = c.merge.new.cells; regions = c.merge.new.regions } in
    let a = c.in-Some.ensures.some in
    let slot = c.in-Slot.slot in
    let left = c.merge.ensures in
    let made : Merges s new c.in-Some.key c.top-into.result.region = record {
      moved = c.in-Ok.ensures.moved;
      cells = c.in-Ok.ensures.cells;
      records = c.in-Ok.ensures.merged;
      serials = left.serials;
      high = left.high;
      numbers = left.numbers;
    } in
    let W : Window → Type 0 = λ (x : Window). Merges s new c.in-Some.key x.region in
    let m = subst W (one_top c.args.frames.now c.top-into.result w c.top-into.ensures is) made in
    let M : ℕ → Type 0 = λ k. Merges s new k w.region in
    let P : Parts → Type 0 = λ (p : Parts). (key n : ℕ) → LiesIn p.cells.heap n slot → HasNumber p.regions key n → Merges p new key w.region in
    subst P c.self.view_is (λ key n l has.
    subst M (one_key s.cells.heap s.regions slot a.0 n c.in-Some.key key c.self.invariant.numbers a.1 a.2 l has) m) key n l has
