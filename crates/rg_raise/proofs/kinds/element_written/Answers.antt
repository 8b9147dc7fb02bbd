use Rattle.std.proofs.Common.{sym}
use Rattle.std.proofs.lemmas.Result.{err_from_is_err_and}
use Rattle.rg_verify_expressions.specs.Blocks.{right_behind}
use Rattle.rg_raise.specs.Telling.{given, IsRightSaid}
use Rattle.rg_raise.proofs.Telling.{makes-some}
use Rattle.rg_raise.proofs.KindParts.{element-refused, element-nowhere, element-unpaced, element-made}
use Rattle.rg_raise.proofs.kinds.element_written.Goals as goal

pub returns-in_err-right-clause-told : goal.returns-in_err-right-clause-told
returns-in_err-right-clause-told c s ks e fs path tree left =
    let p = err_from_is_err_and c.from_residual.result c.from_residual.ensures.1 in
    let t = c.args.program.now in
    let u = c.right_behind.new.program in
    rw (p.1, p.2) (element-refused (given c.args.source.now) c.args.types.now.items s ks fs c.args.fronts.code.end e t u t u
    c.args.source.now.body.in_method c.in_err-right.field-0.0 (c.in_err-right.ensures.told fs left))

pub returns-in_default-clause-told : goal.returns-in_default-clause-told
returns-in_default-clause-told c s ks e fs path tree left =
    let t = c.args.program.now in
    let m = c.args.source.now.body.in_method in
    let g = given c.args.source.now in
    let types = c.args.types.now.items in
    let put = rw c.code.ensures at c.in_default.ensures.told in
    let (r, told, grown, said) = makes-some (IsRightSaid m) t c.right_behind.new.program (right_behind g types fs c.args.fronts.code.end)
    c.in_ok-right.right c.in_ok-right.behind (c.in_ok-right.ensures.told fs left) in
    element-nowhere g types s ks fs c.args.fronts.code.end e r c.in_ok-right.behind told (sym put)

pub returns-in_default-behind_pace-clause-told : goal.returns-in_default-behind_pace-clause-told
returns-in_default-behind_pace-clause-told c s ks e fs path tree left =
    let t = c.args.program.now in
    let m = c.args.source.now.body.in_method in
    let g = given c.args.source.now in
    let types = c.args.types.now.items in
    let put = rw c.code.ensures at c.in-Some.ensures.told in
    let pace = rw c.code-2.ensures at c.in_default-behind_pace.ensures in
    let (r, told, grown, said) = makes-some (IsRightSaid m) t c.right_behind.new.program (right_behind g types fs c.args.fronts.code.end)
    c.in_ok-right.right c.in_ok-right.behind (c.in_ok-right.ensures.told fs left) in
    element-unpaced g types s ks fs c.args.fronts.code.end e r c.in_ok-right.behind told (sym put) c.in_ok-right.right.paces said.1 (sym pace)

pub returns-clause-told : goal.returns-clause-told
returns-clause-told c s ks e fs path tree left =
    let t = c.args.program.now in
    let m = c.args.source.now.body.in_method in
    let g = given c.args.source.now in
    let types = c.args.types.now.items in
    let put = rw c.code.ensures at c.in-Some.ensures.told in
    let pace = rw c.code-2.ensures at c.in-Some-behind_pace.ensures in
    let (r, told, grown, said) = makes-some (IsRightSaid m) t c.right_behind.new.program (right_behind g types fs c.args.fronts.code.end)
    c.in_ok-right.right c.in_ok-right.behind (c.in_ok-right.ensures.told fs left) in
    element-made g types s ks fs c.args.fronts.code.end e r c.in_ok-right.behind told (sym put) c.in_ok-right.right.paces said.1
    t c.right_behind.new.program m c.in-Some-behind_pace.end c.in_ok-right.right c.args.path c.args.index (sym pace) grown said path tree
