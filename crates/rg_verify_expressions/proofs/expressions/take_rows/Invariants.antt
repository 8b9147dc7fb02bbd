use Rattle.std.proofs.Common.{List, [], length}
use Rattle.rg_verify_expressions.specs.Raising.{Item, fronts}
use Rattle.rg_verify_expressions.specs.Inner.Stacks.{Piled}
use Rattle.rg_verify_expressions.proofs.Walking.{Taking}
use Rattle.rg_verify_expressions.proofs.expressions.take_rows.Given as goal

abbrev pub invariant-loop-held : goal.invariant-loop-held
invariant-loop-held l = (items : List Item) → Piled l.fn.program l.body.in_method l.fn.stack.items items
    → Taking l.fn.program l.program l.body.in_method l.stack.items l.rows.items (fronts items [])

abbrev pub decreases-loop-held : goal.decreases-loop-held
decreases-loop-held l = length l.stack.items
