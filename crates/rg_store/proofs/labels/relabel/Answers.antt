use Rattle.std.proofs.Common.{arith}
use Rattle.rg_store.specs.Shown.{store_of}
use Rattle.rg_store.proofs.Relabelled.{relabelled-more, relabelled-all, relabelled-AreOfClasses, relabelled-LabelsFit}
use Rattle.rg_store.proofs.labels.relabel.Goals as goal

pub loop-object-preserved : goal.loop-object-preserved
loop-object-preserved c these are =
    relabelled-more these c.args.label c.args.store.now c.loop-object.object-items c.loop-object.object-index
    c.relabel_object.new.object c.object-item.result (omega (arith, c.loop-object-test.true)) (c.loop-object.invariant these are)
    (c.relabel_object.ensures these are)

pub returns-clause-relabelled : goal.returns-clause-relabelled
returns-clause-relabelled c these are =
    relabelled-all these c.args.label c.args.store.now c.loop-object.object-items c.loop-object.object-index
    (omega (arith, c.loop-object-test.false)) (c.loop-object.invariant these are)

pub returns-clause-classes : goal.returns-clause-classes
returns-clause-classes c t all =
    let these = c.requires.regions.0 in
    relabelled-AreOfClasses t these c.args.label c.args.store.now c.loop-object.object-items all
    (relabelled-all these c.args.label c.args.store.now c.loop-object.object-items c.loop-object.object-index
    (omega (arith, c.loop-object-test.false)) (c.loop-object.invariant these c.requires.regions.1))

pub returns-clause-labels : goal.returns-clause-labels
returns-clause-labels c count fits all =
    let these = c.requires.regions.0 in
    relabelled-LabelsFit count these c.args.label (store_of c.args.store.now) (store_of c.loop-object.object-items) fits all
    (relabelled-all these c.args.label c.args.store.now c.loop-object.object-items c.loop-object.object-index
    (omega (arith, c.loop-object-test.false)) (c.loop-object.invariant these c.requires.regions.1))
