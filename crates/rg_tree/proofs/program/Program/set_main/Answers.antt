use Rattle.rg_tree.proofs.Programs.{Grows-main, AreRows-main, Keeps-Grows, program_of-main}
use Rattle.rg_tree.proofs.program.Program.set_main.Goals as goal

pub invariant_of-self : goal.invariant_of-self
invariant_of-self c = AreRows-main _ c.self.invariant c.args.manager c.args.body c.args.line (rw (← c.self.view_is) at c.requires)

pub returns-clause-keeps : goal.returns-clause-keeps
returns-clause-keeps c = rw (← c.self.view_is)
    (Keeps-Grows (Grows-main _ c.self.invariant c.args.manager c.args.body c.args.line (rw (← c.self.view_is) at c.requires)) c.self.invariant)

pub returns-clause-program : goal.returns-clause-program
returns-clause-program c = rw (← c.self.view_is)
    (program_of-main _ c.self.invariant c.args.manager c.args.body c.args.line (rw (← c.self.view_is) at c.requires))
