use Rattle.std.proofs.Common.{◌≡◌, drop, map}
use Rattle.rg_tree.specs.Rows.RowTrees.{classes_of, param_at}
use Rattle.rg_code.specs.Lowering.{with_params}
use Rattle.rg_build.specs.Inner.Slots.{scope_of, AreHeldIn}
use Rattle.rg_build.proofs.bodies.push_params.Given as goal

abbrev pub invariant-loop-param : goal.invariant-loop-param
invariant-loop-param l =
    let t = l.book.program in
    (with_params (classes_of t) (scope_of t l.slots) (map (param_at t) (drop l.param-index l.params))
    ≡ with_params (classes_of t) (scope_of t l.fn.slots) (map (param_at t) l.params)) × AreHeldIn t l.slots
