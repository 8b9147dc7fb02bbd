use Rattle.std.proofs.Common.{◌∙◌, ap}
use Rattle.rg_values.specs.declared.state.rows.ItemRow.TheVariants as row
use Rattle.rg_values.specs.Kept.{shown, put_row}
use Rattle.rg_values.proofs.Item.{shown-push}
use Rattle.rg_statements.proofs.enter.open_entered.Goals as goal

pub returns-clause-shown : goal.returns-clause-shown
returns-clause-shown c =
    c.put_block.ensures.shown
    ∙ ap (put_row c.args.book.now.program (row.Rest c.args.body))
    (ap (shown c.args.book.now.program) c.push_reserved.ensures.items ∙ shown-push c.args.book.now.program c.args.items.now.items
    c.args.leave)
