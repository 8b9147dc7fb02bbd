-- What a merge leaves, clause by clause (docs/architecture.md, "Freeze and merge").
use Rattle.std.proofs.Common.{◌≡◌, ℕ, refl, subst}
use Rattle.rg_base.specs.declared.object.Label.TheVariants.{Region}
use Rattle.rg_cells.specs.Table.{Table, body_at}
use Rattle.rg_regions.specs.Table.{RegionTable, HasNumber}
use Rattle.rg_regions.specs.Reach.{LiesIn}
use Rattle.rg_regions.specs.Grove.{Grove}
use Rattle.rg_regions.proofs.Callers.Told.{one_number, number_of}
use Rattle.rg_move.specs.Closed.{Closed}
use Rattle.rg_move.specs.Frozen.{labelled}
use Rattle.rg_move.specs.Merged.{CanTake, CellsMove, OthersStay}
use Rattle.rg_move.specs.Inner.Joins.{Merges}
use Rattle.rg_move.proofs.GroveJoined.{grove_joined}

module _ (c : Table) (t : RegionTable) (from into : ℕ) (cells : Table) (regions : RegionTable)
    (m : Merges c t from into cells regions) where
  has_one : HasNumber t from m.one.number
  has_one = number_of t from m.one.number m.one m.at refl

  pub cells_move : CellsMove c t cells from into
  cells_move = λ q n s h k i.
      let one : q ≡ m.one.number = one_number t from q m.one.number h has_one in
      let other : m.other.number ≡ n =
      one_number t into m.other.number n (number_of t into m.other.number m.other m.to refl) k in
      let L : ℕ → Type 0 = λ z. LiesIn c.heap z s in
      let N : ℕ → Type 0 = λ z. body_at cells.heap s ≡ labelled (Region z) (body_at c.heap s) in
      (subst N other (m.relabels.moved s (subst L one i)), m.links s)

  pub others_stay : OthersStay c t cells from
  others_stay = λ s n.
      let out : LiesIn c.heap m.one.number s → ⊥ = λ i. n m.one.number has_one i in
      (m.relabels.others s out, m.marks.kept s out, m.links s)

  pub grove_merged : Grove c t → Closed c.heap t from → CanTake c.heap t from into → Grove cells regions
  grove_merged g o w = grove_joined c t from into m.one m.other g m.at m.to o w cells m.relabels regions m.records
      m.marks
