use Rattle.std.proofs.Common.{◌≡◌, ◌+◌, ◌∷◌, ◌∙◌, length, drop, sym, ap, refl, arith}
use Rattle.std.proofs.lemmas.Bool.{eq-eqb}
use Rattle.std.proofs.lemmas.Bool.Decides.{nat_tests}
use Rattle.std.proofs.lemmas.List.{drop_more}
use Rattle.rg_tree.proofs.Adding.{extends-trans}
use Rattle.rg_code.specs.Code.{Code}
use Rattle.rg_raise.specs.Telling.{given}
use Rattle.rg_bodies.proofs.Turns.{methods-more, methods-all}
use Rattle.rg_bodies.proofs.bodies.raise_methods.Goals as goal

pub returns-in_err-row-clause-grows : goal.returns-in_err-row-clause-grows
returns-in_err-row-clause-grows c = extends-trans c.loop-head.invariant.grown c.in_err-row.ensures.grows

pub returns-in_default-clause-grows : goal.returns-in_default-clause-grows
returns-in_default-clause-grows c = extends-trans c.loop-head.invariant.grown c.in_ok-row.ensures.grows

pub loop-head-preserved : goal.loop-head-preserved
loop-head-preserved c =
    let hs = c.args.heads.now in
    let i = c.loop-head.head-index in
    let here = drop_more hs i _ c.loop-head-test.true ∙ ap (λ s. s ∷ drop (i + 1) hs) (sym c.head-item.is) in
    methods-more (given c.args.source.now) c.args.depth hs c.args.at c.args.program.now c.loop-head.program i c.loop-head.end
    c.loop-head.rows.items c.loop-head.invariant c.head-item.result here c.args.source.now.body.in_method c.requires c.raise_method.new.program
    c.in_ok-row.row c.in_ok-row.behind c.push.new.self.items c.in_ok-row.ensures.told c.in-Ok.ensures.items

pub returns-clause-told : goal.returns-clause-told
returns-clause-told c =
    let ops = c.args.source.now.parts.now.code.ops in
    let same : length c.code.result.now.ops ≡ length ops = ap (λ (k : Code). length k.ops) c.code.ensures in
    let ends : c.loop-head.end ≡ length ops = grind (arith, nat_tests, c.if-end-len.false, c.len.ensures, same) in
    methods-all (given c.args.source.now) c.args.depth c.args.heads.now c.args.at c.args.program.now c.loop-head.program
    c.loop-head.head-index c.loop-head.end c.loop-head.rows.items c.loop-head.invariant c.loop-head-test.false c.loop-head.rows refl
    (eq-eqb c.loop-head.end (length ops) ends)
