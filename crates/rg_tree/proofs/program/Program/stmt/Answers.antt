use Rattle.std.proofs.Common.{◌≡◌, Some, slice_get}
use Rattle.rg_tree.proofs.Programs.{stmt_at-row}
use Rattle.rg_tree.proofs.program.Program.stmt.Goals as goal

pub returns-clause-tree : goal.returns-clause-tree
returns-clause-tree c =
    let read : slice_get c.self.inside.stmts.items c.args.i ≡ Some c.row_at.result = cc in
    rw (← c.self.view_is) (stmt_at-row _ c.self.invariant c.args.i c.row_at.result read)

pub returns-clause-below : goal.returns-clause-below
returns-clause-below c =
    let read : slice_get c.self.inside.stmts.items c.args.i ≡ Some c.row_at.result = cc in
    rw (← c.self.view_is) (c.self.invariant.stmts c.args.i c.row_at.result read)
