use Rattle.std.proofs.Common.{map}
use Rattle.std.proofs.lemmas.Result.{on_ok_weaker}
use Rattle.rg_tree.specs.Rows.Tables.{name_at, numbers_in}
use Rattle.rg_tree.specs.Rows.RowTrees.{classes_of, right_of}
use Rattle.rg_lower.specs.Inner.Slots.{scope_of, variable_of}
use Rattle.rg_lower.proofs.Target.{assign-field}
use Rattle.rg_lower.proofs.targets.write_assign.Goals as goal

pub returns-in_ok-push-in-Some-2 : goal.returns-in_ok-push-in-Some-2
returns-in_ok-push-in-Some-2 c =
    let t = c.args.book.now.program in
    on_ok_weaker _
    (λ n. assign-field (classes_of t) (scope_of t c.args.slots.now) (variable_of t c.args.path.base)
    (map (name_at t) (numbers_in t c.args.path.fields)) (right_of t c.args.right) c.in-Some.found c.args.code.now c.write_holder.new.code
    c.push.new.self c.write_right-in-Some.new.code c.push-in-Some.new.self c.write_pace-in-Some.new.code
    (rw c.in-Some.is at c.in_ok-write_holder.ensures) c.in_ok-push-in-Some.ensures c.in_ok-write_right-in-Some.ensures
    c.in_ok-push-in-Some-2.ensures (n t))
    c.write_pace-in-Some.ensures
