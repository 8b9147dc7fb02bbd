use Rattle.std.proofs.Common.{arith}
use Rattle.rg_tree.proofs.Programs.{AreRows-class, Grows-class, Keeps-Grows, program_of-class}
use Rattle.rg_tree.proofs.program.Program.add_class.Goals as goal

pub invariant_of-self-2 : goal.invariant_of-self-2
invariant_of-self-2 c =
    rw c.in_ok-number.ensures.row
    (AreRows-class _ c.self.invariant c.args.row (rw (← c.self.view_is) at c.requires) (omega (arith, c.in_ok-number.ensures.counted)))

pub returns-clause-keeps : goal.returns-clause-keeps
returns-clause-keeps c = rw (← c.self.view_is, c.in_ok-number.ensures.row)
    (Keeps-Grows
    (Grows-class _ c.self.invariant c.args.row (rw (← c.self.view_is) at c.requires)
    (omega (arith, c.in_ok-number.ensures.counted))) c.self.invariant)

pub returns-clause-program : goal.returns-clause-program
returns-clause-program c = rw (← c.self.view_is, c.in_ok-number.ensures.row)
    (program_of-class _ c.self.invariant c.args.row (rw (← c.self.view_is) at c.requires) (omega (arith, c.in_ok-number.ensures.counted)))
