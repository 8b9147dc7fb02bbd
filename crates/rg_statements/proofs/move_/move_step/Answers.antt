use Rattle.std.proofs.Common.{◌<◌, length, ◌∙◌, sym, ap, subst, refl, Some, None, IfSome}
use Rattle.std.proofs.lemmas.Result.{err_from_is_err_and}
use Rattle.rg_base.specs.declared.object.Label.{Label}
use Rattle.rg_base.specs.declared.value.Val.{Val}
use Rattle.rg_tree.specs.Rows.RowTrees.{classes_of}
use Rattle.rg_rules.specs.State.{State}
use Rattle.rg_values.specs.Kept.{Kept, kept_of, plain_of, shown}
use Rattle.rg_statements.specs.Inner.Moves.{regions_with, label_of, carried}
use Rattle.rg_statements.proofs.Statements.Moves.{move-cut, move-held, carried-moved}
use Rattle.rg_statements.proofs.move_.move_step.Goals as goal

pub returns-in_err-held-clause-step : goal.returns-in_err-held-clause-step
returns-in_err-held-clause-step c input =
    let t = c.args.book.now.program in
    let p = err_from_is_err_and c.from_residual-in_err-held.result c.from_residual-in_err-held.ensures.1 in
    rw (p.1, p.2) (
      move-cut t (kept_of c.args.m.now) input c.args.to.at.number c.args.to.at.line c.args.to.left c.args.name c.args.how c.in_ok-aim.aim
          c.requires.assigns.stands.at.rest _
          c.in_ok-aim.ensures c.in_err-held.ensures c.requires.assigns.stands.at.items c.requires.assigns.stands.tree,
      refl,
    )

pub returns-in_default-clause-step : goal.returns-in_default-clause-step
returns-in_default-clause-step c input =
    let t = c.args.book.now.program in
    move-held t (kept_of c.args.m.now) input c.args.to.at.number c.args.to.at.line c.args.to.left c.args.name c.args.how c.in_ok-aim.aim
    c.in_ok-held.held None c.advance.new.items.items _ c.in_ok-aim.ensures c.in_ok-held.ensures c.in_default.is c.advance.ensures.rest
    c.requires.assigns.stands.tree refl

pub regions_with-requires-clause-made : goal.regions_with-requires-clause-made
regions_with-requires-clause-made c =
    let made : IfSome c.in_ok-held.held.region (λ r. r < length c.args.m.now.managers.items) = c.in_ok-held.ensures.made in
    let here : c.in-Some.region < length c.args.m.now.managers.items = rw c.in-Some.is at made in
    subst (λ (q : Kept). c.in-Some.region < length q.managers) (sym c.in_ok-make_room.ensures.kept) here

pub carry-requires-clause-regions : goal.carry-requires-clause-regions
carry-requires-clause-regions c =
    let k = kept_of c.make_room.new.m in (
      regions_with (classes_of c.args.book.now.program) k.store (length k.managers) c.args.how c.in-Some.region,
      c.in_ok-regions.ensures,
    )

pub returns-clause-step : goal.returns-clause-step
returns-clause-step c input =
    let t = c.args.book.now.program in
    let cs = classes_of t in
    let k = kept_of c.args.m.now in
    let held = c.in_ok-held.held in
    let holds = c.in_ok-held.ensures in
    let kept = c.in_ok-make_room.ensures.kept in
    let region = c.in-Some.region in
    let how = c.args.how in
    let aim = c.in_ok-aim.aim in
    let items = c.advance-2.new.items.items in
    let room = kept_of c.make_room.new.m in
    let new : Kept → Label → Val → State =
    λ q l v. carried t aim c.args.name (plain_of t (record q { items = items }) input) (regions_with cs q.store (length q.managers) how region) l v in
    move-held t k input c.args.to.at.number c.args.to.at.line c.args.to.left c.args.name how aim held (Some region) items _ c.in_ok-aim.ensures holds
    c.in-Some.is
    (sym (ap (λ (q : Kept). shown t q.items) kept) ∙ c.advance-2.ensures.rest) c.requires.assigns.stands.tree
    (c.carry.ensures.carried input (regions_with cs room.store (length room.managers) how region) c.in_ok-regions.ensures
    ∙ ap (λ l. new room l held.value) (c.new_label-label.ensures.label t input)
    ∙ ap (λ (q : Kept). new q (label_of (plain_of t q input).windows how) held.value) kept
    ∙ ap (new k (label_of (plain_of t k input).windows how)) holds.value_is
    ∙ carried-moved t (plain_of t (record k { items = items }) input) aim c.args.name how region)
