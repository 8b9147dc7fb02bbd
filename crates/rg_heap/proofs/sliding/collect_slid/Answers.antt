use Rattle.std.proofs.Common.{refl}
use Rattle.rg_base.specs.declared.words.Manager.TheVariants.{Trace}
use Rattle.rg_heap.proofs.Slides.{slid_chain, slid_slides, slid_told}
use Rattle.rg_heap.proofs.sliding.collect_slid.Goals as goal

pub release_all-released-requires-clause-chain : goal.release_all-released-requires-clause-chain
release_all-released-requires-clause-chain g c =
    let r = c.requires.trace.0 in
    let at = c.requires.trace.1 in
    let k = c.collect-kept in
    slid_chain c.args.cells.now c.args.regions.now c.args.key r c.args.frames.now k.new.cells k.new.regions k.new.frames
    c.requires.grove at c.requires.temps (k.ensures.slid r at) k.result.orphans (k.ensures.orphans r at)

pub returns-clause-slides : goal.returns-clause-slides
returns-clause-slides g c = λ r at.
    let old = c.args.cells.now in
    let t = c.args.regions.now in
    let k = c.collect-kept in
    let n = c.release_all-released in
    let o = k.ensures.orphans r at in
    let w = k.ensures.slid r at in (
      _,
      refl,
      slid_told old t c.args.key r c.args.frames.now k.new.cells k.new.regions k.new.frames c.requires.grove at c.requires.temps w
          k.result.orphans o n.new.cells n.new.regions n.ensures.gone c.number-region.result _ k.result.kept n.result Trace
          c.members.result.now c.number-region.ensures c.requires.trace c.members.ensures refl k.ensures.kept n.ensures.count,
      slid_slides old t c.args.key r c.args.frames.now k.new.cells k.new.regions k.new.frames c.requires.grove at c.requires.temps w
          k.result.orphans o n.new.cells n.new.regions n.ensures.gone,
    )
