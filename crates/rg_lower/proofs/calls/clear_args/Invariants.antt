use Rattle.std.proofs.Common.{◌≡◌, drop, map}
use Rattle.rg_tree.specs.Rows.RowTrees.{expr_at}
use Rattle.rg_code.specs.Lowering.{clears, used_by_all}
use Rattle.rg_lower.specs.Inner.Slots.{scope_of}
use Rattle.rg_lower.specs.Inner.Emitted.{with_ops}
use Rattle.rg_lower.proofs.calls.clear_args.Given as goal

abbrev pub invariant-loop-arg : goal.invariant-loop-arg
invariant-loop-arg l =
    with_ops l.code (clears (used_by_all (scope_of l.book.program l.slots) (map (expr_at l.book.program) (drop l.arg-index l.args))))
    ≡ with_ops l.fn.code (clears (used_by_all (scope_of l.book.program l.slots) (map (expr_at l.book.program) l.args)))
