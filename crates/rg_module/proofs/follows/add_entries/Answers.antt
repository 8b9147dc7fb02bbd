use Rattle.std.proofs.Common.{◌≤◌, ◌∙◌, ◌+◌, ◌∷◌, List, length, drop, sym, ap, subst}
use Rattle.std.proofs.lemmas.List.{drop_more, drop_all}
use Rattle.rg_code.specs.declared.op.Op.{Op}
use Rattle.rg_code.specs.Code.{Code}
use Rattle.rg_module.proofs.Bodies.{Entered, entered-next, entered-end}
use Rattle.rg_module.proofs.follows.add_entries.Goals as goal

pub add_entry-requires : goal.add_entry-requires
add_entry-requires c =
    let now = c.loop-head.invariant in
    subst (λ (os : List Op). c.loop-head.at ≤ length os) (sym (ap (λ (d : Code). d.ops) now.same)) now.within

pub loop-head-preserved : goal.loop-head-preserved
loop-head-preserved c =
    let heads = c.args.heads.now in
    let i = c.loop-head.head-index in
    let old = c.args.code.now in
    let here = drop_more heads i _ c.loop-head-test.true ∙ ap (λ h. h ∷ drop (i + 1) heads) (sym c.head-item.is) in
    let now = subst (Entered old c.args.from heads c.loop-head.code c.loop-head.at) here c.loop-head.invariant in
    entered-next old c.args.from heads c.loop-head.code _ c.loop-head.at _ _ (drop (i + 1) heads) now c.in_ok-at.ensures.ok c.in_ok-at.ensures.end

pub returns : goal.returns
returns c =
    let heads = c.args.heads.now in
    let i = c.loop-head.head-index in
    let none = drop_all i heads c.loop-head-test.false in
    entered-end c.args.code.now c.args.from heads c.loop-head.code c.loop-head.at
    (subst (Entered c.args.code.now c.args.from heads c.loop-head.code c.loop-head.at) none c.loop-head.invariant)
