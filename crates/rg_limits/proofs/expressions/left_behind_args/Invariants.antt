use Rattle.std.proofs.Common.{◌-◌, drop}
use Rattle.rg_tree.specs.Rows.RowTrees.{expr_at}
use Rattle.rg_tree.specs.Rows.Tables.{numbers_in}
use Rattle.rg_limits.proofs.Leaving.{GoesOn, args_signs, AreArgsFine}
use Rattle.rg_limits.proofs.expressions.left_behind_args.Given as goal

abbrev pub invariant-loop-arg : goal.invariant-loop-arg
invariant-loop-arg l =
    let at = expr_at l.program in
    GoesOn (args_signs at) (AreArgsFine (l.room - 1) at) (drop l.arg-index l.arg-items) l.rest (numbers_in l.program l.fn.args) l.fn.left
