use Rattle.std.proofs.Common.{[]}
use Rattle.rg_tree.specs.Rows.RowTrees.{param_at}
use Rattle.rg_tree.specs.Rows.RowsExist.{IsParamNumber}
use Rattle.rg_classes.specs.Written.{param_written}
use Rattle.rg_classes.proofs.Turns.{SoFar}
use Rattle.rg_classes.proofs.members.add_params.Given as goal

abbrev pub invariant-loop-ty : goal.invariant-loop-ty
invariant-loop-ty l = SoFar param_at IsParamNumber param_written 1 l.types l.fn.program [] l.program l.numbers.items l.ty-index l.slot
