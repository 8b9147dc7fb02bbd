use Rattle.std.proofs.Common.{sym}
use Rattle.std.proofs.lemmas.Result.{err_from_is_err_and}
use Rattle.rg_raise.specs.Telling.{given}
use Rattle.rg_raise.proofs.KindParts.{taken-unpaced, taken-refused, taken-made}
use Rattle.rg_raise.proofs.kinds.taken.Goals as goal

pub returns-in_default-behind_pace-clause-told : goal.returns-in_default-behind_pace-clause-told
returns-in_default-behind_pace-clause-told c r is =
    let told = rw c.code.ensures at c.in-Some.ensures.told in
    let pace = rw c.code-2.ensures at c.in_default-behind_pace.ensures in
    taken-unpaced (given c.args.source.now) c.args.types.now.items r c.args.at c.in-Some.target (sym told) c.args.right.paces is.1 (sym pace)

pub returns-in_err-kind-clause-told : goal.returns-in_err-kind-clause-told
returns-in_err-kind-clause-told c r is =
    let p = err_from_is_err_and c.from_residual.result c.from_residual.ensures.1 in
    let told = rw c.code.ensures at c.in-Some.ensures.told in
    let pace = rw c.code-2.ensures at c.in-Some-behind_pace.ensures in
    rw (p.1, p.2) (taken-refused (given c.args.source.now) c.args.types.now.items r c.args.at c.in-Some.target (sym told) c.args.right.paces
    is.1 c.in-Some-behind_pace.end (sym pace) c.args.program.now c.taken_by.new.program c.args.source.now.body.in_method c.in_err-kind.field-0.0
    (c.in_err-kind.ensures.told r is))

pub returns-clause-told : goal.returns-clause-told
returns-clause-told c r is =
    let told = rw c.code.ensures at c.in-Some.ensures.told in
    let pace = rw c.code-2.ensures at c.in-Some-behind_pace.ensures in
    taken-made (given c.args.source.now) c.args.types.now.items r c.args.at c.in-Some.target (sym told) c.args.right.paces
    is.1 c.in-Some-behind_pace.end (sym pace) c.args.program.now c.taken_by.new.program c.args.source.now.body.in_method c.in_ok-kind.kind
    (c.in_ok-kind.ensures.told r is)
