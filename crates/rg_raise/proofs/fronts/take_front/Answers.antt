use Rattle.std.proofs.Common.{List, sym, subst, Some, arith}
use Rattle.std.proofs.lemmas.Bool.Decides.{nat_tests}
use Rattle.rg_verify_expressions.specs.declared.front.FrontRow.{FrontRow}
use Rattle.rg_raise.specs.Fronts.{TakesFront}
use Rattle.rg_raise.proofs.FrontRows.{takes-none, takes-front}
use Rattle.rg_raise.proofs.fronts.take_front.Goals as goal

pub returns-then-len-eq0 : goal.returns-then-len-eq0
returns-then-len-eq0 c t m fs a =
    takes-none t m c.args.rows.now.items c.args.rows.now.items fs (omega (arith, c.if-len-eq0.true, c.len.ensures)) a

pub returns : goal.returns
returns c t m fs a =
    let some = takes-front t m c.args.rows.now.items c.remove.result fs
    (λ e. let other = c.if-len-eq0.false in let n = c.len.ensures in grind (arith, nat_tests)) c.remove.ensures.value a in
    subst (λ (rs : List FrontRow). TakesFront t m rs fs (Some c.remove.result)) (sym c.remove.ensures.items) some
