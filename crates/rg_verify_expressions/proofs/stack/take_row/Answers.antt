use Rattle.std.proofs.Common.{◌≡◌, length, Ok, arith}
use Rattle.rg_verify_expressions.proofs.TreeStack.{piled-pop, takes-none, takes-row}
use Rattle.rg_verify_expressions.proofs.stack.take_row.Goals as goal

pub row_of-requires : goal.row_of-requires
row_of-requires c =
    let (items, p) = c.requires in
    let (x, xs, same, is, below) =
    piled-pop c.args.program.now c.args.body.in_method c.args.stack.now.items c.pop.new.self.items c.in-Some.held items c.in-Some.ensures.items p in
    (x, is)

pub returns-in_default-clause-takes : goal.returns-in_default-clause-takes
returns-in_default-clause-takes c items p =
    let t = c.args.program.now in
    let none : length c.args.stack.now.items ≡ 0 = grind (arith, c.in_default.ensures.cases) in
    takes-none t t c.args.body.in_method c.args.stack.now.items c.pop.new.self.items items none p

pub returns-clause-takes : goal.returns-clause-takes
returns-clause-takes c items p =
    takes-row c.args.program.now c.row_of.new.program c.args.body.in_method c.args.stack.now.items c.pop.new.self.items c.in-Some.held items
    (Ok c.in_ok-row.row) c.in-Some.ensures.items c.in_ok-row.ensures.makes p
