use Rattle.std.proofs.Common.{◌≡◌, Some, slice_get}
use Rattle.rg_tree.proofs.Programs.{classes_of-row}
use Rattle.rg_tree.proofs.program.Program.class.Goals as goal

pub returns-clause-tree : goal.returns-clause-tree
returns-clause-tree c =
    let read : slice_get c.self.inside.classes.items c.args.i ≡ Some c.row_at.result = cc in
    rw (← c.self.view_is) (classes_of-row _ c.args.i c.row_at.result read)

pub returns-clause-below : goal.returns-clause-below
returns-clause-below c =
    let read : slice_get c.self.inside.classes.items c.args.i ≡ Some c.row_at.result = cc in
    rw (← c.self.view_is) (c.self.invariant.classes c.args.i c.row_at.result read)
