-- Where raising or a test refuses, no program raises the module; what passes does.
use Rattle.std.proofs.Common.{subst, Bool as Truth}
use Rattle.std.proofs.lemmas.Result.{err_from_is_err_and}
use Rattle.rg_tree.specs.Rows.RowTrees.{program_of}
use Rattle.rg_compare.specs.Telling.{TellsSame}
use Rattle.rg_build.specs.ModuleOf.{module_of}
use Rattle.rg_verify.proofs.Verdicts.{is-told, raise-refused, allow-refused, none-same, all-passed}
use Rattle.rg_verify.proofs.whole.raised.Goals as goal

pub allowed-requires : goal.allowed-requires
allowed-requires c =
    (c.told_are_bounded.ensures c.args.«module».now _ (is-told c.args.«module».now c.in_ok-program.program c.in_ok-program.ensures)).parts

pub returns-in_err-program : goal.returns-in_err-program
returns-in_err-program c =
    let p = err_from_is_err_and c.from_residual.result c.from_residual.ensures.1 in
    rw (p.1, p.2) (raise-refused c.told_raises_if_any.ensures c.args.«module».now c.in_err-program.field-0.0 c.in_err-program.ensures)

pub returns-in_err-accepted : goal.returns-in_err-accepted
returns-in_err-accepted c =
    let p = err_from_is_err_and c.from_residual-in_err-accepted.result c.from_residual-in_err-accepted.ensures.1 in
    rw (p.1, p.2) (allow-refused c.told_raises_if_any.ensures c.args.«module».now c.in_ok-program.program c.in_err-accepted.field-0.0
    (is-told c.args.«module».now c.in_ok-program.program c.in_ok-program.ensures) c.in_err-accepted.ensures)

pub returns-in_default : goal.returns-in_default
returns-in_default c = tt

pub returns-then-not-is_its_own : goal.returns-then-not-is_its_own
returns-then-not-is_its_own c =
    let m = c.args.«module».now in
    none-same c.told_raises_if_any.ensures m c.in_ok-program.program c.in_ok-accepted.accepted
    (is-told m c.in_ok-program.program c.in_ok-program.ensures) c.in_ok-accepted.ensures
    (subst (λ (b : Truth). TellsSame b (module_of (program_of c.in_ok-accepted.accepted.program)) m) c.if-not-is_its_own.true c.in-Ok.ensures)

pub returns : goal.returns
returns c =
    let m = c.args.«module».now in
    all-passed c.told_are_numbered.ensures m c.in_ok-program.program c.in_ok-accepted.accepted
    (is-told m c.in_ok-program.program c.in_ok-program.ensures) c.in_ok-accepted.ensures
    (subst (λ (b : Truth). TellsSame b (module_of (program_of c.in_ok-accepted.accepted.program)) m) c.if-not-is_its_own.false c.in-Ok.ensures)
