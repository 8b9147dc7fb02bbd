use Rattle.std.proofs.Common.{sym, ◌∙◌}
use Rattle.rg_tree.specs.Rows.Tables.{name_at}
use Rattle.rg_tree.specs.Rows.RowTrees.{classes_of}
use Rattle.rg_build.proofs.Class.{class_number-unnamed}
use Rattle.rg_build.proofs.types.class_number.Goals as goal

pub returns-in-None : goal.returns-in-None
returns-in-None c =
    let t = c.args.book.now.program in
    c.class_count.ensures ∙ sym (class_number-unnamed (classes_of t) (name_at t c.args.name) (sym c.in-None.ensures.is))
