use Rattle.std.proofs.Common.{◌-◌, Some, None, map}
use Rattle.std.specs.List.{AllByRecursion}
use Rattle.rg_tree.specs.Rows.RowTrees.{expr_at}
use Rattle.rg_tree.specs.Rows.Tables.{numbers_in}
use Rattle.rg_limits.specs.Signs.{expr_signs}
use Rattle.rg_limits.specs.Numbers.{HasSmall}
use Rattle.rg_limits.specs.Opens.{exprs_opens}
use Rattle.rg_limits.proofs.Leaving.{in-brackets, no-args, args_signs, AreArgsFine, IsArgFine, args-first, ends-there, at-end}
use Rattle.rg_limits.proofs.expressions.left_behind_args.Goals as goal

pub returns-in_default : goal.returns-in_default
returns-in_default c =
    let at = expr_at c.args.program.now in
    let ks = numbers_in c.args.program.now c.args.args in
    let inner = c.args.room - 1 in
    in-brackets c.args.left (args_signs at ks) (exprs_opens (map at ks)) c.args.room (AllByRecursion HasSmall (map at ks)) None c.if-room-eq0.false
    (ends-there (args_signs at) (AreArgsFine inner at) (λ k. expr_signs (at k)) (IsArgFine inner at) (args-first inner at) _ _ _ _ _
    c.loop-arg-test.true c.loop-arg.invariant c.in_default.ensures)

pub returns : goal.returns
returns c =
    let at = expr_at c.args.program.now in
    let ks = numbers_in c.args.program.now c.args.args in
    let inner = c.args.room - 1 in
    in-brackets c.args.left (args_signs at ks) (exprs_opens (map at ks)) c.args.room (AllByRecursion HasSmall (map at ks)) (Some c.loop-arg.rest)
    c.if-room-eq0.false
    (at-end (args_signs at) (AreArgsFine inner at) (λ k. expr_signs (at k)) (IsArgFine inner at) (args-first inner at) _ _ _ _ _
    c.loop-arg-test.false c.loop-arg.invariant (no-args inner c.loop-arg.rest))
