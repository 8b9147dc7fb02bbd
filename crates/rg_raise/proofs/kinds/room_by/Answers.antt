use Rattle.std.proofs.Common.{◌≡◌, ◌+◌, sym, subst, length, None, Err}
use Rattle.std.proofs.lemmas.Result.{err_from_is_err_and}
use Rattle.rg_tree.proofs.Adding.{extends-trans}
use Rattle.rg_verify_expressions.specs.declared.refusal.Refusal.{Refusal}
use Rattle.rg_verify_expressions.specs.Statements.{Kind}
use Rattle.rg_verify_expressions.specs.Blocks.{Told, values_in, called}
use Rattle.rg_raise.specs.Fronts.{FindsExprs}
use Rattle.rg_raise.specs.Telling.{given, MakesAs, IsCallSaid, IsKindSaid}
use Rattle.rg_raise.proofs.Telling.{makes-some}
use Rattle.rg_raise.proofs.Objects.{room-written, room-refused, room-called}
use Rattle.rg_raise.proofs.kinds.room_by.Goals as goal

pub returns-in_err-call-in-Ok-clause-told : goal.returns-in_err-call-in-Ok-clause-told
returns-in_err-call-in-Ok-clause-told c s ks fs path left =
    let p = err_from_is_err_and c.from_residual.result c.from_residual.ensures.1 in
    let t = c.args.program.now in
    let m = c.args.source.now.body.in_method in
    let g = given c.args.source.now in
    let (rs, told, same, are) = c.in-Ok.ensures t m g.ops fs left in
    rw (p.1, p.2) (room-refused g c.args.types.now.items s ks fs (values_in fs) c.args.fronts.code.end rs told t c.called.new.program m
    c.in_err-call-in-Ok.field-0.0 (c.in_err-call-in-Ok.ensures.told s ks rs path are))

pub returns-in_ok-call-in-Ok-clause-told : goal.returns-in_ok-call-in-Ok-clause-told
returns-in_ok-call-in-Ok-clause-told c s ks fs path left =
    let t = c.args.program.now in
    let u = c.called.new.program in
    let m = c.args.source.now.body.in_method in
    let g = given c.args.source.now in
    let types = c.args.types.now.items in
    let end = c.args.fronts.code.end in
    let (rs, told, same, are) = c.in-Ok.ensures t m g.ops fs left in
    let (call, called_is, grown, said) = makes-some (IsCallSaid m) t u (called g types s ks rs (end + 1)) c.in_ok-call-in-Ok.call
    c.in_ok-call-in-Ok.end (c.in_ok-call-in-Ok.ensures.told s ks rs path are) in
    room-called g types s ks fs (values_in fs) end rs told t u c.call_by.new.program m call c.in_ok-call-in-Ok.end c.call_by.result called_is grown
    (c.call_by.ensures.told call said)

pub returns-in-Err-NotRaised-clause-told : goal.returns-in-Err-NotRaised-clause-told
returns-in-Err-NotRaised-clause-told c s ks fs path left =
    let t = c.args.program.now in
    let m = c.args.source.now.body.in_method in
    let g = given c.args.source.now in
    let types = c.args.types.now.items in
    let end = c.args.fronts.code.end in
    let none : values_in fs ≡ None =
    subst (λ (e : Refusal). FindsExprs t m g.ops c.args.fronts fs (Err e)) c.in-Err-NotRaised.field-0-is
    (c.in-Err-NotRaised.ensures t m g.ops fs left) in
    subst (λ (o : Told Kind). MakesAs (IsKindSaid m (length types)) t c.written_to.new.program o c.written_to.result)
    (sym (room-written g types s ks fs (values_in fs) end none)) (c.written_to.ensures.told s ks fs path left)

pub returns-in_ok-call-in-Ok-clause-grows : goal.returns-in_ok-call-in-Ok-clause-grows
returns-in_ok-call-in-Ok-clause-grows c = extends-trans c.in_ok-call-in-Ok.ensures.grows c.call_by.ensures.grows
