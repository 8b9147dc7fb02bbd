use Rattle.rg_tree.specs.Rows.Tables.{name_at}
use Rattle.rg_tree.specs.Rows.RowTrees.{classes_of}
use Rattle.rg_rules.specs.Evaluation.{with_field}
use Rattle.rg_store.proofs.Callers.Label.{LabelsFit-set}
use Rattle.rg_store.proofs.Callers.Write.{store_of-set}
use Rattle.rg_store.proofs.objects.write_field.Goals as goal

pub returns-clause-written : goal.returns-clause-written
returns-clause-written c o there =
    store_of-set c.args.store.now c.args.place c.index-store-place.result c.write.new.object
    (with_field (classes_of c.args.book.now.program) (name_at c.args.book.now.program c.args.name) c.args.v) o
    c.requires.there c.write.ensures.written there

pub returns-clause-labels : goal.returns-clause-labels
returns-clause-labels c count fits =
    LabelsFit-set count c.args.store.now c.args.place c.index-store-place.result c.write.new.object c.requires.there c.write.ensures.label fits
