use Rattle.rg_store.specs.Read.{with_value_at}
use Rattle.rg_store.proofs.Callers.Label.{LabelsFit-set}
use Rattle.rg_store.proofs.Callers.Write.{store_of-set, AreOfClasses-set}
use Rattle.rg_store.proofs.objects.write_at.Goals as goal

pub returns-clause-written : goal.returns-clause-written
returns-clause-written c o there =
    store_of-set c.args.store.now c.args.place c.index-store-place.result c.set_field.new.object (with_value_at c.args.index c.args.v) o
    c.requires.there c.set_field.ensures.written there

pub returns-clause-labels : goal.returns-clause-labels
returns-clause-labels c count fits =
    LabelsFit-set count c.args.store.now c.args.place c.index-store-place.result c.set_field.new.object c.requires.there
    c.set_field.ensures.label fits

pub returns-clause-objects : goal.returns-clause-objects
returns-clause-objects c t fits =
    AreOfClasses-set t c.args.store.now c.args.place c.index-store-place.result c.set_field.new.object c.requires.there c.set_field.ensures.class fits
