-- Regions that are frozen or merged (docs/architecture.md, "The heap").
use Rattle.std.proofs.Common.{◌≡◌, ℕ, refl, sym, subst}
use Rattle.std.proofs.Common.{inl}
use Rattle.rg_cells.specs.Table.{Heap}
use Rattle.rg_regions.specs.Table.{RegionTable, HasNumber, IsKey}
use Rattle.rg_regions.specs.Reach.{LiesIn}
use Rattle.rg_regions.specs.Grove.{Below}
use Rattle.rg_regions.proofs.Callers.Told.{one_number, one_region}
use Rattle.rg_move.specs.Closed.{Closed}
use Rattle.rg_move.specs.Merged.{CanTake}
use Rattle.rg_heap.specs.Parts.{Parts}
use Rattle.rg_heap.specs.Writes.{Ownerless}
use Rattle.rg_heap.specs.Moves.{NotBeneath}

-- what a word owns is closed
pub closed_of : (h : Heap) (t : RegionTable) (key n m slot : ℕ) → Ownerless h t n slot → LiesIn h m slot → HasNumber t key m → Closed h t key
closed_of h t key n m slot o l has =
    let e : n ≡ m = one_region h slot n m o.lies l in
    let P : ℕ → Type 0 = λ z. HasNumber t key z in
    record { number = n; has = subst P (sym e) has; not_first = o.not_first; alone = o.alone }

-- a region that isn't beneath the cell's can take its cells
pub can_take : (p : Parts) (source into n slot : ℕ) → LiesIn p.cells.heap n slot → HasNumber p.regions source n → IsKey p.regions into
    → NotBeneath p slot into → CanTake p.cells.heap p.regions source into
can_take p source into n slot l has k apart = record {
  there = k;
  differ = λ e. let P : ℕ → Type 0 = λ z. HasNumber p.regions z n in apart n n l (subst P e has) (inl refl);
  above = λ q a b.
      let P : ℕ → Type 0 = λ z. Below p.cells.heap p.regions z q in
      apart n q l a (subst P (one_number p.regions source b.0 n b.1 has) b.2);
}

-- a cell lies in the region of one key
pub one_key : (c : Heap) (t : RegionTable) (slot q n k key : ℕ) → ((k o n : ℕ) → HasNumber t k n → HasNumber t o n → k ≡ o) → LiesIn c q slot
    → HasNumber t k q → LiesIn c n slot → HasNumber t key n → k ≡ key
one_key c t slot q n k key one l a i b =
    let P : ℕ → Type 0 = λ z. HasNumber t k z in
    one k key n (subst P (one_region c slot q n l i) a) b
