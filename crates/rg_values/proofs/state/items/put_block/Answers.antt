use Rattle.std.proofs.Common.{◌∙◌, ap}
use Rattle.rg_values.specs.declared.state.rows.ItemRow.TheVariants as row
use Rattle.rg_values.specs.Kept.{shown}
use Rattle.rg_values.proofs.Item.{shown-push, ItemsFit-push, put_none}
use Rattle.rg_values.proofs.state.items.put_block.Goals as goal

pub returns-then-body-clause-shown : goal.returns-then-body-clause-shown
returns-then-body-clause-shown c =
    ap (shown c.args.book.now.program) c.push_reserved.ensures.items ∙ shown-push c.args.book.now.program c.args.items.now.items (row.Rest
    c.args.body)

pub returns-then-body-clause-fit : goal.returns-then-body-clause-fit
returns-then-body-clause-fit c =
    rw c.push_reserved.ensures.items
    (ItemsFit-push c.args.book.now.program c.args.items.now.items (row.Rest c.args.body) c.requires.fit (c.if-body.true, c.requires.body))

pub returns-else-body-clause-shown : goal.returns-else-body-clause-shown
returns-else-body-clause-shown c = put_none c.args.book.now.program c.args.body (shown c.args.book.now.program c.args.items.now.items) c.if-body.false
