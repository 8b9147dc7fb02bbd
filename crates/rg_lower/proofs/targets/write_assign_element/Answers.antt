use Rattle.std.proofs.lemmas.Result.{on_ok_weaker}
use Rattle.rg_tree.specs.Rows.RowTrees.{classes_of, expr_at, path_of, right_of}
use Rattle.rg_lower.specs.Inner.Slots.{scope_of}
use Rattle.rg_lower.proofs.Target.{assign-element}
use Rattle.rg_lower.proofs.targets.write_assign_element.Goals as goal

pub returns : goal.returns
returns c =
    let t = c.args.book.now.program in
    on_ok_weaker _
    (λ n. assign-element (classes_of t) (scope_of t c.args.slots.now) (path_of t c.args.path) (expr_at t c.args.index) (right_of t c.args.right)
    c.args.code.now c.write_index.new.code c.write_right.new.code c.push.new.self c.write_pace.new.code c.in_ok-write_index.ensures
    c.in_ok-write_right.ensures c.in_ok-push.ensures (n t))
    c.write_pace.ensures
