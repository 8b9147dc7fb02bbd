use Rattle.std.proofs.Common.{◌∷◌, [], inl, refl, ap}
use Rattle.rg_regions.specs.Table.{RegionTable}
use Rattle.rg_heap.proofs.Comes.{grove_same, same_cells}
use Rattle.rg_heap.proofs.Ended.{key_there, same_records, one_chained, unowned_on, gone_on}
use Rattle.rg_heap.proofs.ending.release_one.Goals as goal

pub set_link-requires : goal.set_link-requires
set_link-requires c = let a = c.requires.unowned.there c.args.key (inl refl) in key_there c.args.regions.now c.args.key a.0 a.1

pub release_all-requires-clause-grove : goal.release_all-requires-clause-grove
release_all-requires-clause-grove c =
    let c0 = c.args.cells.now in
    let t = c.args.regions.now in
    let mid = c.set_link.new.self in
    let e = c.set_link.ensures.set in
    grove_same c0 t c0 mid c.requires.grove (same_cells c0 c0 refl)
    (same_records t mid (ap (λ (z : RegionTable). z.records) e) (ap (λ (z : RegionTable). z.next) e))

pub release_all-requires-clause-chain : goal.release_all-requires-clause-chain
release_all-requires-clause-chain c =
    let t = c.args.regions.now in
    let mid = c.set_link.new.self in
    let e = c.set_link.ensures.set in
    let keys = c.args.key ∷ [] in (
      keys,
      one_chained t.links mid.links c.args.key (ap (λ (z : RegionTable). z.links) e) c.set_link.ensures.within,
      unowned_on c.args.cells.now.heap t mid keys (ap (λ (z : RegionTable). z.records) e) c.requires.unowned,
    )

pub returns-clause-gone : goal.returns-clause-gone
returns-clause-gone c =
    let t = c.args.regions.now in
    let mid = c.set_link.new.self in
    let e = c.set_link.ensures.set in
    let keys = c.args.key ∷ [] in
    gone_on c.args.cells.now t mid keys c.release_all.new.cells c.release_all.new.regions (ap (λ (z : RegionTable). z.records) e)
    (ap (λ (z : RegionTable). z.next) e)
    (c.release_all.ensures.gone keys (one_chained t.links mid.links c.args.key (ap (λ (z : RegionTable). z.links) e) c.set_link.ensures.within))
