use Rattle.std.proofs.Common.{◌≡◌, length, subst, arith, ◌∙◌}
use Rattle.rg_begin.specs.Inner.Laid.{Laid}
use Rattle.rg_begin.proofs.Owning.{laid-width}
use Rattle.rg_begin.proofs.contents.take_contents.Goals as goal
use Rattle.rg_begin.proofs.contents.take_contents.Goals.{After-size-fields}

many : (c : After-size-fields) → c.size-fields.result ≡ length c.args.given.now
many c =
    c.size-fields.ensures
    ∙ laid-width c.args.heap.now c.args.frames.now c.args.object c.args.class c.args.given.now c.requires.may c.is_forest.ensures.serials
    c.requires.laid

pub take_content-requires-clause-within : goal.take_content-requires-clause-within
take_content-requires-clause-within c =
    let lt = c.loop-field-test.true in
    omega (arith, lt, many (goal.at.take_content-requires-clause-within c).After-size-fields)

pub returns : goal.returns
returns c =
    let at-end = c.loop-field-test.false in
    let le = c.loop-field.auto.field-end in
    let e : c.loop-field.field ≡ length c.args.given.now = omega (arith, at-end, le, many (goal.at.returns c).After-size-fields) in
    subst (Laid c.loop-field.heap c.args.frames.now c.args.object c.args.class c.args.given.now) e c.loop-field.invariant
