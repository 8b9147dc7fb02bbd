use Rattle.rg_values.specs.declared.state.rows.ItemRow.TheVariants as row
use Rattle.rg_values.proofs.Item.{is_at, first_within, top_fits}
use Rattle.rg_values.proofs.state.items.first.Goals as goal

pub returns-clause-at : goal.returns-clause-at
returns-clause-at c = is_at c.args.book.now.program c.args.items.now c.requires.top.0 c.args.span c.order.result.now
    c.requires.top.1 c.requires.fit c.order.ensures

pub returns-clause-there : goal.returns-clause-there
returns-clause-there c =
    first_within c.args.book.now.program c.args.span c.order.result.now
    (top_fits c.args.book.now.program c.args.items.now c.requires.top.0 (row.Rest c.args.span) c.requires.top.1 c.requires.fit) c.order.ensures
