use Rattle.std.proofs.Common.{Some, None, option_map, ◌∙◌, sym}
use Rattle.rg_tree.specs.Rows.Tables.{name_at}
use Rattle.rg_values.proofs.Rows.Local.{is_iso_local-found}
use Rattle.rg_values.proofs.state.locals.is_iso.Goals as goal

pub returns-in-Some : goal.returns-in-Some
returns-in-Some c =
    c.is_iso_type.ensures ∙ is_iso_local-found c.args.book.now.program c.args.locals.now (option_map (name_at c.args.book.now.program) c.args.name)
    c.place.result (Some c.in-Some.local)
    c.place.ensures (sym c.in-Some.is ∙ c.local_at.ensures)

pub returns-in-None : goal.returns-in-None
returns-in-None c =
    is_iso_local-found c.args.book.now.program c.args.locals.now (option_map (name_at c.args.book.now.program) c.args.name) c.place.result None
    c.place.ensures (sym c.in-None.is ∙ c.local_at.ensures)
