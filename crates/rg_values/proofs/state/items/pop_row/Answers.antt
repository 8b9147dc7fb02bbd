use Rattle.rg_values.proofs.Item.{top_is, shown-popped}
use Rattle.rg_values.proofs.state.items.pop_row.Goals as goal

pub returns-clause-shown : goal.returns-clause-shown
returns-clause-shown c =
    let top = top_is c.args.book.now.program c.args.items.now.items c.requires.top.0 c.pop.new.self.items _ c.args.row
    c.requires.top.1 c.args.items.now.ok.0 c.pop.ensures.rest c.requires.fit in
    shown-popped c.args.book.now.program c.args.items.now.items c.requires.top.0 c.pop.new.self.items c.args.row c.requires.top.1 top.new_is

pub returns-clause-fit : goal.returns-clause-fit
returns-clause-fit c =
    let top = top_is c.args.book.now.program c.args.items.now.items c.requires.top.0 c.pop.new.self.items _ c.args.row
    c.requires.top.1 c.args.items.now.ok.0 c.pop.ensures.rest c.requires.fit in
    top.front
