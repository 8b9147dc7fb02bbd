-- The key of the region with which a window is opened.
use Rattle.std.proofs.Common.{◌≡◌, ℕ, subst}
use Rattle.rg_regions.specs.Grove.{Grove}
use Rattle.rg_regions.specs.Reach.{LiesIn}
use Rattle.rg_regions.specs.Table.{HasNumber}
use Rattle.rg_regions.proofs.Callers.Told.{one_region}
use Rattle.rg_heap.specs.Parts.{Parts as HeapParts}

-- a cell lies in one region, and that has one key
pub same-key : (p : HeapParts) → Grove p.cells p.regions → (b key n other q : ℕ) → LiesIn p.cells.heap n b → HasNumber p.regions key n
    → LiesIn p.cells.heap q b → HasNumber p.regions other q → key ≡ other
same-key p g b key n other q lies has there is =
    g.numbers key other q (subst (λ n. HasNumber p.regions key n) (one_region p.cells.heap b n q lies there) has) is
