use Rattle.std.proofs.Common.{◌≡◌, sym, ap, ◌∙◌, subst, length, Option, true, false, arith}
use Rattle.std.proofs.lemmas.Bool.Decides.{nat_tests}
use Rattle.rg_rules.specs.Capabilities.{is_iso}
use Rattle.rg_verify_expressions.specs.declared.signs.Target.{Target}
use Rattle.rg_verify_expressions.specs.Statements.{Kind, type_at}
use Rattle.rg_verify_expressions.specs.Blocks.{taken_by}
use Rattle.rg_raise.specs.Telling.{given, IsKindSaid}
use Rattle.rg_raise.specs.Telling.{MakesOne}
use Rattle.rg_raise.proofs.KindParts.{stored-next, stored-there, own-there}
use Rattle.rg_raise.proofs.kinds.taken_by.Goals as goal

pub returns-then-slot-len-clause-told : goal.returns-then-slot-len-clause-told
returns-then-slot-len-clause-told c r is =
    let t = c.args.program.now in
    let u = c.declared.new.program in
    let g = given c.args.source.now in
    let types = c.args.types.now.items in
    let same : c.in-Store.slot ≡ length types = omega (arith, c.if-slot-len.true, c.len.ensures) in
    let made = subst (λ (o : Option Kind). MakesOne (IsKindSaid c.args.source.now.body.in_method (length types)) t u o c.declared.result)
    (sym (stored-next g types r c.args.end c.in-Store.slot same)) (c.declared.ensures.told types r is same) in
    subst (λ (k : Target). MakesOne (IsKindSaid c.args.source.now.body.in_method (length types)) t u
    (taken_by g types r c.args.end k) c.declared.result)
    (sym c.in-Store.is) made

pub returns-then-is_iso-2-clause-told : goal.returns-then-is_iso-2-clause-told
returns-then-is_iso-2-clause-told c r is =
    let t = c.args.program.now in
    let u = c.assigned-then-is_iso-2.new.program in
    let g = given c.args.source.now in
    let types = c.args.types.now.items in
    let iso : is_iso (type_at types c.in-Own.slot) ≡ true = sym (c.if-is_iso-2.ensures ∙ ap is_iso c.type_at-in-Own.ensures) in
    let made =
    subst (λ (o : Option Kind). MakesOne (IsKindSaid c.args.source.now.body.in_method (length types)) t u o c.assigned-then-is_iso-2.result)
    (sym (own-there g types r c.args.end c.in-Own.slot iso)) (c.assigned-then-is_iso-2.ensures.told (length types) r is) in
    subst (λ (k : Target). MakesOne (IsKindSaid c.args.source.now.body.in_method (length types)) t u (taken_by g types r c.args.end k)
    c.assigned-then-is_iso-2.result) (sym c.in-Own.is) made

pub returns-else-is_iso-clause-told : goal.returns-else-is_iso-clause-told
returns-else-is_iso-clause-told c r is =
    let t = c.args.program.now in
    let u = c.assigned.new.program in
    let g = given c.args.source.now in
    let types = c.args.types.now.items in
    let iso : is_iso (type_at types c.in-Store.slot) ≡ false = sym (c.if-is_iso.ensures ∙ ap is_iso c.type_at.ensures) in
    let made = subst (λ (o : Option Kind). MakesOne (IsKindSaid c.args.source.now.body.in_method (length types)) t u o c.assigned.result)
    (sym (stored-there g types r c.args.end c.in-Store.slot
    (λ e. let other = c.if-slot-len.false in let n = c.len.ensures in grind (arith, nat_tests)) iso))
    (c.assigned.ensures.told (length types) r is) in
    subst (λ (k : Target). MakesOne (IsKindSaid c.args.source.now.body.in_method (length types)) t u
    (taken_by g types r c.args.end k) c.assigned.result)
    (sym c.in-Store.is) made
