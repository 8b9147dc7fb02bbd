use Rattle.std.proofs.Common.{◌∙◌, sym}
use Rattle.rg_tree.specs.Rows.Tables.{name_at}
use Rattle.rg_tree.specs.Rows.RowTrees.{classes_of}
use Rattle.rg_store.specs.Shown.{seen_of}
use Rattle.rg_store.proofs.Object.{field_value-place}
use Rattle.rg_store.proofs.objects.field_value.Goals as goal

pub returns-in-Some : goal.returns-in-Some
returns-in-Some c =
    c.field_at.ensures
    ∙ sym (field_value-place (classes_of c.args.book.now.program) (seen_of c.args.object.now) (name_at c.args.book.now.program c.args.name)
    c.in-Some.field.index c.in-Some.ensures.place)
