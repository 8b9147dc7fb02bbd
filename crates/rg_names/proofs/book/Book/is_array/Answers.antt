use Rattle.std.proofs.Common.{sym, ◌∙◌, ap, is_some}
use Rattle.rg_tree.specs.Rows.Tables.{name_at}
use Rattle.rg_tree.specs.Rows.RowTrees.{classes_of}
use Rattle.rg_names.proofs.ElementFound.{array-none, array-some}
use Rattle.rg_names.proofs.book.Book.is_array.Goals as goal

pub returns-in-None : goal.returns-in-None
returns-in-None c =
    let t = c.args.self.now.program in
    array-none (classes_of t) (name_at t c.args.name) (sym c.in-None.is ∙ c.class_of.ensures.is)

pub returns-in-Some : goal.returns-in-Some
returns-in-Some c =
    let t = c.args.self.now.program in
    c.is_some.ensures ∙ ap is_some c.element.ensures.is
    ∙ array-some (classes_of t) (name_at t c.args.name) c.in-Some.class (sym c.in-Some.is ∙ c.class_of.ensures.is)
