use Rattle.std.proofs.Common.{◌≡◌, drop, length, map}
use Rattle.rg_tree.specs.Rows.RowTrees.{classes_of, expr_at}
use Rattle.rg_code.specs.Lowering.{exprs_code}
use Rattle.rg_lower.specs.Inner.Slots.{scope_of}
use Rattle.rg_lower.specs.Inner.Emitted.{with_ops}
use Rattle.rg_lower.proofs.calls.write_args.Given as goal

abbrev pub invariant-loop-arg : goal.invariant-loop-arg
invariant-loop-arg l =
    let t = l.book.program in
    let scope = scope_of t l.slots in
    with_ops l.code (exprs_code (classes_of t) scope (length l.code.ops) (map (expr_at t) (drop l.arg-index l.args)))
    ≡ with_ops l.fn.code (exprs_code (classes_of t) scope (length l.fn.code.ops) (map (expr_at t) l.args))
