use Rattle.std.proofs.Common.{List, Ok, Vec, Global, subst}
use Rattle.rg_tree.proofs.Adding.{extends-trans}
use Rattle.rg_spell.specs.declared.rows.Head.{Head}
use Rattle.rg_raise.specs.Telling.{MakesOne}
use Rattle.rg_classes.specs.declared.body_row.BodyRow.{BodyRow}
use Rattle.rg_bodies.specs.Bodies.{RaisedBody, methods_told}
use Rattle.rg_bodies.specs.Rows.{given_by, AreMethodsSaid}
use Rattle.rg_bodies.proofs.Making.{bodies-made}
use Rattle.rg_bodies.proofs.bodies.raise_bodies.Goals as goal

pub returns-in_err-methods-clause-grows : goal.returns-in_err-methods-clause-grows
returns-in_err-methods-clause-grows c = extends-trans c.in_ok-main.ensures.grows c.in_err-methods.ensures.grows

pub returns-clause-told : goal.returns-clause-told
returns-clause-told c =
    let g = given_by c.args.module.now c.args.callees.now in
    let raised = rw c.new-types.ensures.items at c.in_ok-main.ensures.told in
    let Told : List Head → Type 0 =
    λ hs. MakesOne {V = Vec BodyRow Global} {A = List RaisedBody} (λ w rows. AreMethodsSaid hs w rows.items) c.raise_body.new.program
    c.raise_methods.new.program (methods_told g c.args.depth hs c.in_ok-main.behind) (Ok c.in_ok-methods.methods) in
    let made : Told c.args.module.now.methods = subst Told c.methods.ensures c.in_ok-methods.ensures.told in
    bodies-made g c.args.depth c.args.module.now.methods c.args.program.now c.raise_body.new.program c.in_ok-main.main c.in_ok-main.behind
    raised c.raise_methods.new.program c.in_ok-methods.methods made

pub returns-clause-grows : goal.returns-clause-grows
returns-clause-grows c = extends-trans c.in_ok-main.ensures.grows c.in_ok-methods.ensures.grows
