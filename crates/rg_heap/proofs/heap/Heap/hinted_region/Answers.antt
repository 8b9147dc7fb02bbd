use Rattle.std.proofs.Common.{◌∙◌, ℕ, Some, ap, subst}
use Rattle.rg_regions.specs.Reach.{LiesIn}
use Rattle.rg_regions.specs.Table.{HasNumber}
use Rattle.rg_heap.specs.Parts.{Parts}
use Rattle.rg_heap.proofs.heap.Heap.hinted_region.Goals as goal

pub returns : goal.returns
returns c =
    let P : Parts → Type 0 = λ p. (n : ℕ) × LiesIn p.cells.heap n c.args.slot × HasNumber p.regions c.in-Some.key n in
    subst P c.self.view_is (c.in-Region.number, c.label.ensures ∙ ap Some c.in-Region.is, c.in-Some.ensures)
