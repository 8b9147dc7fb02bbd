use Rattle.std.proofs.Common.{refl}
use Rattle.rg_tree.proofs.Programs.{Grows-numbers, AreRows-numbers, Keeps-Grows, program_of-grows}
use Rattle.rg_tree.proofs.program.Program.add_order.Goals as goal

pub invariant_of-self-2 : goal.invariant_of-self-2
invariant_of-self-2 c = rw c.in_ok-span.ensures.row (AreRows-numbers _ c.self.invariant c.args.numbers.now)

pub returns-clause-keeps : goal.returns-clause-keeps
returns-clause-keeps c = rw (← c.self.view_is, c.in_ok-span.ensures.row)
    (Keeps-Grows (Grows-numbers _ c.self.invariant c.args.numbers.now) c.self.invariant)

pub returns-clause-program : goal.returns-clause-program
returns-clause-program c = rw (← c.self.view_is, c.in_ok-span.ensures.row)
    (program_of-grows (Grows-numbers _ c.self.invariant c.args.numbers.now) c.self.invariant refl refl refl refl)
