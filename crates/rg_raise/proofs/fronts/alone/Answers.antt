use Rattle.std.proofs.Common.{◌≡◌, ◌<◌, ◌+◌, ℕ, List, [], ◌∷◌, drop, sym, ◌∙◌, ap, subst, length, arith}
use Rattle.rg_verify_expressions.specs.declared.front.FrontRow.{FrontRow}
use Rattle.rg_raise.specs.Fronts.{rows_alone}
use Rattle.rg_raise.proofs.FrontRows.{alone-next, alone-ends, alone-not, alone-on}
use Rattle.rg_raise.proofs.fronts.alone.Goals as goal

pub returns-in_default : goal.returns-in_default
returns-in_default c =
    let rows = c.args.rows.now.items in
    let at = c.loop-at.at in
    let lt : at < length rows = omega (arith, c.loop-at-test.true, c.len.ensures) in
    alone-not rows at c.loop-at.found.items c.index.result.now (alone-next rows at c.index.result.now lt c.index.ensures) c.loop-at.invariant
    c.in_default.not-Expression

pub returns : goal.returns
returns c =
    alone-ends c.args.rows.now.items c.loop-at.at c.loop-at.found.items (omega (arith, c.loop-at-test.false, c.len.ensures)) c.loop-at.invariant

pub loop-at-preserved : goal.loop-at-preserved
loop-at-preserved c =
    let rows = c.args.rows.now.items in
    let at = c.loop-at.at in
    let lt : at < length rows = omega (arith, c.loop-at-test.true, c.len.ensures) in
    let next = alone-next rows at c.index.result.now lt c.index.ensures ∙ ap (λ (r : FrontRow). r ∷ drop (at + 1) rows) c.in-Expression.is in
    subst (λ (ns : List ℕ). rows_alone ns (drop (at + 1) rows) ≡ rows_alone [] rows) (sym c.in-Ok.ensures.items)
    (alone-on rows at c.loop-at.found.items c.in-Expression.row next c.loop-at.invariant)
