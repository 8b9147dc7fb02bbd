use Rattle.std.proofs.Common.{◌≡◌, false, inr, rules}
use Rattle.rg_values.specs.Kept.{kept_of, shown}
use Rattle.rg_values.specs.Printing.{first_prints}
use Rattle.rg_plain.proofs.Statements.Input.{prints}
use Rattle.rg_plain.proofs.Statements.Unasked.{unasked, does-unasked}
use Rattle.rg_plain.proofs.steps.statement_step.Goals as goal

pub input_step-requires-clause-left : goal.input_step-requires-clause-left
input_step-requires-clause-left g c = c.in-Reads.ensures.fits c.args.book.now.program c.first-number.result c.stmt-row.ensures.below

pub input_step-requires-in-Asks-clause-left : goal.input_step-requires-in-Asks-clause-left
input_step-requires-in-Asks-clause-left g c = c.in-Asks.ensures.fits c.args.book.now.program c.first-number.result c.stmt-row.ensures.below

pub print_step-requires-clause-there : goal.print_step-requires-clause-there
print_step-requires-clause-there g c = c.in-Prints.ensures.fits c.args.book.now.program c.first-number.result c.stmt-row.ensures.below

pub returns-in-Prints : goal.returns-in-Prints
returns-in-Prints g c =
    let t = c.args.book.now.program in
    let new = c.print_step.new.m in
    unasked _ _ _ t c.args.m.now new _ _ c.printed.result
    (prints t (kept_of c.args.m.now) (kept_of new) c.stmt-row.result.line c.print_step.result c.printed.result _ _ c.printed.ensures.is
    c.print_step.ensures.step)
    (inr c.printed.ensures.prints) c.print_step.ensures.fit c.printed.ensures.asks_nothing c.requires.follows

pub returns-in-Nothing : goal.returns-in-Nothing
returns-in-Nothing g c =
    let t = c.args.book.now.program in
    let quiet : first_prints (shown t c.args.m.now.items.items) ≡ false = search rules in
    does-unasked _ _ _ t c.args.m.now c.kind_step.new.m _ _ c.stmt-row.result.line c.kind_step.result c.outcome.result c.kind_step.ensures.step quiet
    c.kind_step.ensures.fit c.outcome.ensures.is c.outcome.ensures.asks_nothing c.requires.follows
