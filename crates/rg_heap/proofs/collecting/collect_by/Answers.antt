use Rattle.std.proofs.Common.{◌≡◌, Some, refl, sym, ap, ◌∙◌, option_map}
use Rattle.std.proofs.lemmas.Option.{same_Some}
use Rattle.rg_base.proofs.Callers.Options.{some-there}
use Rattle.rg_base.specs.declared.words.Manager.TheVariants.{Count, Trace}
use Rattle.rg_regions.specs.Table.{Record, record_at}
use Rattle.rg_regions.specs.Collection.{roots_of}
use Rattle.rg_heap.proofs.Orphaned.{LeftBy, left_alike, left_chain, collected_by, of_collected, of_counted}
use Rattle.rg_heap.proofs.collecting.collect_by.Goals as goal
use Rattle.rg_heap.proofs.collecting.collect_by.Given.{Over}
use Rattle.rg_heap.proofs.collecting.collect_by.Goals.{Joined-manager, in-Count, in-Trace}

-- what the collection left of the region
left : (g : Over) (c : Joined-manager g) (r : Record) → record_at c.args.regions.now c.args.key ≡ Some r
    → LeftBy c.manager-manager.result c.args.cells.now c.args.regions.now c.args.key r (roots_of r.bridge c.args.slots.now c.args.temps.now)
    c.match-manager.cells c.match-manager.regions c.match-manager.kept
left g c r at =
    let old = c.args.cells.now in
    let t = c.args.regions.now in
    let roots = roots_of r.bridge c.args.slots.now c.args.temps.now in
    let alike = left_alike c.manager-manager.result in
    elim c.match-manager.branch [
      | in-Count w ↦
          let k = w.collect-kept in
          alike Count old t c.args.key r roots _ k.new.cells _ k.new.regions _ k.result w.in-Count.is w.cells-is w.regions-is w.kept-is (
            of_counted old t c.args.key r roots k.new.cells k.new.regions k.result.orphans (k.ensures.counted r at) (k.ensures.orphans r at),
            k.ensures.kept,
          )
      | in-Trace w ↦
          let k = w.collect-kept-in-Trace in
          alike Trace old t c.args.key r roots _ k.new.cells _ k.new.regions _ k.result w.in-Trace.is w.cells-is w.regions-is w.kept-is (
            of_collected old t c.args.key r roots k.new.cells k.new.regions k.result.orphans (k.ensures.collected r at)
                (k.ensures.orphans r at),
            k.ensures.kept,
          )
    ]

pub release_all-released-requires-clause-chain : goal.release_all-released-requires-clause-chain
release_all-released-requires-clause-chain g c =
    let r = some-there (record_at c.args.regions.now c.args.key) c.requires.key in
    left_chain c.args.cells.now c.args.regions.now c.args.key r.0 (roots_of r.0.bridge c.args.slots.now c.args.temps.now) _ _
    c.match-manager.kept c.requires.grove r.1 c.manager-manager.result
    (left g (goal.at.release_all-released-requires-clause-chain g c).Joined-manager r.0 r.1)

pub returns-clause-collects : goal.returns-clause-collects
returns-clause-collects g c = λ r at.
    let roots = roots_of r.bridge c.args.slots.now c.args.temps.now in
    let n = c.release_all-released in
    let m = c.manager-manager.result in
    let e = same_Some _ _ (sym (ap (option_map (λ (z : Record). z.manager)) at) ∙ c.manager-manager.ensures) in
    collected_by c.args.cells.now c.args.regions.now c.args.key r roots _ _ c.match-manager.kept c.requires.grove at n.new.cells
    n.new.regions n.ensures.gone c.number-region.result _ n.result c.members.result.now c.number-region.ensures c.members.ensures
    refl n.ensures.count m e (left g (goal.at.returns-clause-collects g c).Joined-manager r at)
