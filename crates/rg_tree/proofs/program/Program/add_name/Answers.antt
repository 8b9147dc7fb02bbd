use Rattle.std.proofs.Common.{refl}
use Rattle.rg_tree.proofs.Programs.{Grows-name, AreRows-name, Keeps-Grows, program_of-grows}
use Rattle.rg_tree.proofs.program.Program.add_name.Goals as goal

pub invariant_of-self-2 : goal.invariant_of-self-2
invariant_of-self-2 c = rw c.in_ok-number.ensures.names (AreRows-name _ c.self.invariant c.args.bytes.now)

pub returns-clause-keeps : goal.returns-clause-keeps
returns-clause-keeps c = rw (← c.self.view_is, c.in_ok-number.ensures.names)
    (Keeps-Grows (Grows-name _ c.self.invariant c.args.bytes.now) c.self.invariant)

pub returns-clause-program : goal.returns-clause-program
returns-clause-program c = rw (← c.self.view_is, c.in_ok-number.ensures.names)
    (program_of-grows (Grows-name _ c.self.invariant c.args.bytes.now) c.self.invariant refl refl refl refl)
