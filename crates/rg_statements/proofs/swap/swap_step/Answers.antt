use Rattle.rg_base.proofs.Callers.Lists.{there}
use Rattle.rg_tree.specs.Rows.RowTrees.{path_of}
use Rattle.rg_values.specs.Kept.{kept_of}
use Rattle.rg_statements.proofs.Statements.Field.{swap-step, field-spot}
use Rattle.rg_statements.proofs.swap.swap_step.Goals as goal

pub returns-in-Field-clause-step : goal.returns-in-Field-clause-step
returns-in-Field-clause-step c input =
    let t = c.args.book.now.program in
    let k = kept_of c.args.m.now in
    let is = field-spot t c.deref.result.now c.args.m.now.store.items c.deref-2.result.now c.args.m.now.frame.locals.items
    (path_of t c.args.path) c.in_ok-spot.spot c.in-Field.place c.in-Field.field c.in-Field.is c.deref.ensures.value c.deref-2.ensures.value
    c.in_ok-spot.ensures in
    let some = there k.store c.in-Field.place is.there in
    swap-step t k input c.args.at.number c.args.at.line c.args.name c.args.path c.in-Field.place c.in-Field.field some.0
    c.advance.new.items.items _ is some.1 c.advance.ensures.rest c.requires.stands.tree (c.exchange.ensures.exchanged input some.0 some.1)
