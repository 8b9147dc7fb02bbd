use Rattle.std.proofs.Common.{sym}
use Rattle.std.proofs.lemmas.Result.{err_from_is_err_and}
use Rattle.rg_verify_expressions.specs.Blocks.{values_in, result_by}
use Rattle.rg_raise.specs.Telling.{given, IsRightSaid}
use Rattle.rg_raise.proofs.FrontRows.{exprs-refuse}
use Rattle.rg_raise.proofs.RightSides.{result-unknown, result-unroomed, result-refused, result-made}
use Rattle.rg_raise.proofs.rights.result_by.Goals as goal

pub returns-in_err-args-clause-told : goal.returns-in_err-args-clause-told
returns-in_err-args-clause-told c s ks fs path left =
    let p = err_from_is_err_and c.from_residual.result c.from_residual.ensures.1 in
    let t = c.args.program.now in
    let m = c.args.source.now.body.in_method in
    let g = given c.args.source.now in
    let types = c.args.types.now.items in
    let end = c.args.fronts.now.code.end in
    rw (p.1, p.2) (exprs-refuse (IsRightSaid m) t m g.ops c.args.fronts.now fs t t (result_by g types s ks (values_in fs) end) c.in_err-args.field-0.0
    (c.in_err-args.ensures t m g.ops fs left) (result-unknown g types s ks (values_in fs) end))

pub returns-in_default-clause-told : goal.returns-in_default-clause-told
returns-in_default-clause-told c s ks fs path left =
    let t = c.args.program.now in
    let m = c.args.source.now.body.in_method in
    let g = given c.args.source.now in
    let room = rw c.code.ensures at c.in_default.ensures.told in
    let (rs, told, same, are) = c.in_ok-args.ensures t m g.ops fs left in
    result-unroomed g c.args.types.now.items s ks (values_in fs) c.args.fronts.now.code.end rs told (sym room)

pub returns-in_err-call-clause-told : goal.returns-in_err-call-clause-told
returns-in_err-call-clause-told c s ks fs path left =
    let p = err_from_is_err_and c.from_residual-in_err-call.result c.from_residual-in_err-call.ensures.1 in
    let t = c.args.program.now in
    let m = c.args.source.now.body.in_method in
    let g = given c.args.source.now in
    let room = rw c.code.ensures at c.in-Some.ensures.told in
    let (rs, told, same, are) = c.in_ok-args.ensures t m g.ops fs left in
    rw (p.1, p.2) (result-refused g c.args.types.now.items s ks (values_in fs) c.args.fronts.now.code.end rs told (sym room) t c.called.new.program m
    c.in_err-call.field-0.0 (c.in_err-call.ensures.told s ks rs path are))

pub returns-clause-told : goal.returns-clause-told
returns-clause-told c s ks fs path left =
    let t = c.args.program.now in
    let m = c.args.source.now.body.in_method in
    let g = given c.args.source.now in
    let room = rw c.code.ensures at c.in-Some.ensures.told in
    let (rs, told, same, are) = c.in_ok-args.ensures t m g.ops fs left in
    result-made g c.args.types.now.items s ks (values_in fs) c.args.fronts.now.code.end rs told (sym room) t c.called.new.program m
    c.in_ok-call.call c.in_ok-call.end (c.in_ok-call.ensures.told s ks rs path are)
