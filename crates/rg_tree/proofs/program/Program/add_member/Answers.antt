use Rattle.std.proofs.Common.{refl}
use Rattle.rg_tree.proofs.Programs.{AreRows-member, Grows-member, Keeps-Grows, member_at-push, program_of-grows}
use Rattle.rg_tree.proofs.program.Program.add_member.Goals as goal

pub invariant_of-self-2 : goal.invariant_of-self-2
invariant_of-self-2 c = rw c.in_ok-number.ensures.row (AreRows-member _ c.self.invariant c.args.row (rw (← c.self.view_is) at c.requires))

pub returns-clause-tree : goal.returns-clause-tree
returns-clause-tree c = rw (← c.self.view_is, c.in_ok-number.ensures.row)
    (member_at-push _ c.self.invariant c.args.row (rw (← c.self.view_is) at c.requires) c.in_ok-number.number c.in_ok-number.ensures.number)

pub returns-clause-keeps : goal.returns-clause-keeps
returns-clause-keeps c = rw (← c.self.view_is, c.in_ok-number.ensures.row)
    (Keeps-Grows (Grows-member _ c.self.invariant c.args.row (rw (← c.self.view_is) at c.requires)) c.self.invariant)

pub returns-clause-program : goal.returns-clause-program
returns-clause-program c = rw (← c.self.view_is, c.in_ok-number.ensures.row)
    (program_of-grows (Grows-member _ c.self.invariant c.args.row (rw (← c.self.view_is) at c.requires)) c.self.invariant refl refl refl refl)
