use Rattle.std.proofs.Common.{◌≡◌, Some, slice_get}
use Rattle.rg_tree.proofs.Programs.{member_at-row}
use Rattle.rg_tree.proofs.program.Program.member.Goals as goal

pub returns-clause-tree : goal.returns-clause-tree
returns-clause-tree c =
    let read : slice_get c.self.inside.members.items c.args.i ≡ Some c.row_at.result = cc in
    rw (← c.self.view_is) (member_at-row _ c.args.i c.row_at.result read)

pub returns-clause-below : goal.returns-clause-below
returns-clause-below c =
    let read : slice_get c.self.inside.members.items c.args.i ≡ Some c.row_at.result = cc in
    rw (← c.self.view_is) (c.self.invariant.members c.args.i c.row_at.result read)
