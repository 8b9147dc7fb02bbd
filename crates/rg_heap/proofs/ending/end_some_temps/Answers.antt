use Rattle.std.proofs.Common.{ℕ, List, length, sym, ap, ◌∙◌, slice_get}
use Rattle.rg_heap.specs.Ends.{top_temps}
use Rattle.rg_heap.specs.Inner.Chains.{Chains}
use Rattle.rg_heap.proofs.Left.{unowned, temp_held, temp_on, grove_left, released, chain_of, freed_of, grove_chained}
use Rattle.rg_heap.proofs.ending.end_some_temps.Goals as goal
use Rattle.rg_heap.proofs.ending.end_some_temps.Goals.{After-chain_cells-head}

-- the keys that were chained
chained : (c : After-chain_cells-head) → (keys : List ℕ)
    × Chains c.args.cells.now.heap c.args.regions.now c.args.frames.now (top_temps c.args.frames.now)
    (length (top_temps c.args.frames.now)) 0 c.chain_cells-head.new.regions c.chain_cells-head.result keys
chained c = chain_of c.args.cells.now c.args.regions.now c.args.frames.now c.chain_cells-head.new.regions
    c.chain_cells-head.result c.temps.result.now c.requires.grove c.requires.temps c.temps.ensures
    c.chain_cells-head.ensures.chains

pub release_all-requires-clause-grove : goal.release_all-requires-clause-grove
release_all-requires-clause-grove c =
    let k = chained (goal.at.release_all-requires-clause-grove c).After-chain_cells-head in
    grove_chained c.args.cells.now c.args.regions.now c.chain_cells-head.new.regions c.requires.grove
    k.1.records k.1.next

pub release_all-requires-clause-chain : goal.release_all-requires-clause-chain
release_all-requires-clause-chain c =
    let k = chained (goal.at.release_all-requires-clause-chain c).After-chain_cells-head in (
      k.0,
      k.1.chain,
      unowned c.args.cells.now c.args.regions.now c.args.frames.now c.requires.grove c.requires.temps _ _ k.0
          k.1,
    )

pub free_cells-requires-clause-held : goal.free_cells-requires-clause-held
free_cells-requires-clause-held c = λ i s e.
    let k = chained (goal.at.free_cells-requires-clause-held c).After-chain_cells-head in
    let x = ap (λ ss. slice_get ss i) (sym c.temps-2.ensures) ∙ e in
    temp_held c.release_all.new.cells.heap s (temp_on c.args.cells.now c.args.regions.now c.args.frames.now c.requires.grove c.requires.temps _ _ k.0
    k.1 c.release_all.new.cells c.release_all.new.regions
    (c.release_all.ensures.gone k.0 k.1.chain) s (c.requires.temps.temps i s x))

pub returns-clause-released : goal.returns-clause-released
returns-clause-released c =
    let k = chained (goal.at.returns-clause-released c).After-chain_cells-head in
    released c.args.cells.now c.args.regions.now c.args.frames.now c.requires.grove c.requires.temps _ _ k.0 k.1
    c.release_all.new.cells c.release_all.new.regions (c.release_all.ensures.gone k.0 k.1.chain)
    c.free_cells.new.cells (freed_of c.release_all.new.cells c.free_cells.new.cells c.args.frames.now c.temps-2.result.now
    c.temps-2.ensures c.free_cells.ensures)

pub returns-clause-grove : goal.returns-clause-grove
returns-clause-grove c =
    let k = chained (goal.at.returns-clause-grove c).After-chain_cells-head in
    grove_left c.args.cells.now c.args.regions.now c.args.frames.now c.requires.grove c.requires.temps _ _ k.0 k.1
    c.release_all.new.cells c.release_all.new.regions (c.release_all.ensures.gone k.0 k.1.chain)
    c.free_cells.new.cells (freed_of c.release_all.new.cells c.free_cells.new.cells c.args.frames.now c.temps-2.result.now
    c.temps-2.ensures c.free_cells.ensures)
    c.release_all.ensures.grove
