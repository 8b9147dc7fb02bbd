use Rattle.std.proofs.Common.{◌++◌, ◌∙◌, sym, ap, option_map}
use Rattle.rg_tree.specs.Rows.RowTrees.{type_of, block_of}
use Rattle.rg_rules.specs.Items.{items_of}
use Rattle.rg_rules.specs.Bodies.{method_end}
use Rattle.rg_values.specs.declared.state.rows.ItemRow.TheVariants as row
use Rattle.rg_values.specs.Kept.{shown, put_row}
use Rattle.rg_values.proofs.Item.{shown-push}
use Rattle.rg_values.proofs.state.items.open_body.Goals as goal

pub returns-in-None-clause-shown : goal.returns-in-None-clause-shown
returns-in-None-clause-shown c =
    let t = c.args.book.now.program in
    let below = shown t c.args.items.now.items in
    c.put_block-in-None.ensures.shown
    ∙ ap (put_row t (row.Rest c.args.method.body)) (ap (shown t) c.push_reserved.ensures.items ∙ shown-push t c.args.items.now.items row.Back)
    ∙ ap (λ r. items_of (block_of t c.args.method.body) (method_end (option_map (type_of t) r) ++ below)) (sym c.in-None.is)
