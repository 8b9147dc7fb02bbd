use Rattle.std.proofs.Common.{◌∙◌}
use Rattle.std.proofs.lemmas.Result.{err_from_is_err_and}
use Rattle.rg_bodies.specs.Rows.{methods_named}
use Rattle.rg_raised.proofs.Few.{tables-parts, few-classes, few-fields}
use Rattle.rg_raised.proofs.Rows.{methods-fit, main-there, bodies-are, whole-told, none-told, no-callees}
use Rattle.rg_raised.proofs.whole.raise_module.Goals as goal

pub add_classes-requires : goal.add_classes-requires
add_classes-requires c =
    let m = c.args.«module».now in
    let f = rw (c.classes.ensures, c.methods.ensures) at c.in_ok-callees.ensures in
    let (few, thin, ordered) = tables-parts m.classes m.methods f.0 in
    record {
      methods = rw (c.methods-2.ensures, c.as_slice-2.ensures.value)
          (methods-fit m c.as_slice.result.now f.0 (c.as_slice.ensures.value ∙ f.1) c.new-program.result c.raise_bodies.new.program
          c.in_ok-bodies.bodies c.in_ok-bodies.ensures.told);
      few = rw c.classes-2.ensures (few-classes m.classes m.methods f.0);
      fields = rw c.classes-2.ensures (few-fields m.classes thin);
    }

pub set_main-requires : goal.set_main-requires
set_main-requires c =
    let m = c.args.«module».now in
    let f = rw (c.classes.ensures, c.methods.ensures) at c.in_ok-callees.ensures in
    let numbered = c.as_slice.ensures.value ∙ f.1 in
    let made = c.in_ok-bodies.ensures.told in
    let (x, told, bodies) = bodies-are m c.as_slice.result.now f.0 numbered c.new-program.result c.raise_bodies.new.program c.in_ok-bodies.bodies
    made in
    let adds = rw (c.as_slice-2.ensures.value, c.classes-2.ensures, c.methods-2.ensures) at c.in-Ok.ensures in
    main-there m c.as_slice.result.now f.0 numbered c.new-program.result c.raise_bodies.new.program c.in_ok-bodies.bodies made
    c.add_classes.new.program (adds (methods_named m.methods x.methods) bodies).keeps

pub returns-in_err-callees : goal.returns-in_err-callees
returns-in_err-callees c =
    let p = err_from_is_err_and c.from_residual.result c.from_residual.ensures.1 in
    rw (p.1, p.2) (no-callees c.args.«module».now c.classes.result.now c.methods.result.now c.in_err-callees.field-0.0 c.classes.ensures
    c.methods.ensures c.in_err-callees.ensures)

pub returns-in_err-bodies : goal.returns-in_err-bodies
returns-in_err-bodies c =
    let p = err_from_is_err_and c.from_residual-in_err-bodies.result c.from_residual-in_err-bodies.ensures.1 in
    let f = rw (c.classes.ensures, c.methods.ensures) at c.in_ok-callees.ensures in
    rw (p.1, p.2) (none-told c.args.«module».now c.as_slice.result.now f.0 (c.as_slice.ensures.value ∙ f.1) c.new-program.result
    c.raise_bodies.new.program c.in_err-bodies.field-0.0 c.in_err-bodies.ensures.told)

pub returns-in_default : goal.returns-in_default
returns-in_default c = tt

pub returns : goal.returns
returns c =
    let m = c.args.«module».now in
    let f = rw (c.classes.ensures, c.methods.ensures) at c.in_ok-callees.ensures in
    let adds = rw (c.as_slice-2.ensures.value, c.classes-2.ensures, c.methods-2.ensures) at c.in-Ok.ensures in
    let set = rw c.manager.ensures at c.set_main.ensures.program in
    whole-told m c.as_slice.result.now f.0 (c.as_slice.ensures.value ∙ f.1) c.new-program.result c.raise_bodies.new.program c.in_ok-bodies.bodies
    c.in_ok-bodies.ensures.told c.new-program.ensures.program c.add_classes.new.program c.set_main.new.self adds set
