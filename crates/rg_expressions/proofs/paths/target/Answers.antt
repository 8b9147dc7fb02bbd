use Rattle.std.proofs.Common.{◌≡◌, ◌∷◌, ◌++◌, [], Some, sym, ◌∙◌}
use Rattle.std.proofs.lemmas.List.Elements.{All-pop}
use Rattle.rg_tree.specs.Rows.Tables.{numbers_in}
use Rattle.rg_tree.specs.Rows.RowsExist.{IsNameIn}
use Rattle.rg_expressions.proofs.paths.target.Goals as goal

pub writable-requires-clause-fields : goal.writable-requires-clause-fields
writable-requires-clause-fields c =
    let e : numbers_in c.args.book.now.program c.args.path.fields ≡ c.in-Some.front.now ++ c.in-Some.last.now ∷ [] =
    sym c.order.ensures ∙ c.in-Some.ensures.cases.0 in
    All-pop (IsNameIn c.args.book.now.program) _ c.in-Some.front.now (Some c.in-Some.last.now) e c.requires.path.fields.each
