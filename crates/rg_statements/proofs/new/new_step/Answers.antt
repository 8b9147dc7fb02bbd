use Rattle.std.proofs.Common.{[], ◌∙◌, sym, ap, subst, length, option_map}
use Rattle.std.proofs.lemmas.Result.{err_from_is_err_and}
use Rattle.rg_base.specs.declared.object.Label.{Label}
use Rattle.rg_base.specs.declared.object.Seen.{Seen}
use Rattle.rg_base.specs.declared.value.Val.TheVariants.{Obj}
use Rattle.rg_tree.specs.Rows.RowTrees.{expr_at}
use Rattle.rg_rules.specs.State.{State}
use Rattle.rg_store.specs.Shown.{seen_of}
use Rattle.rg_store.specs.Regions.{LabelFits}
use Rattle.rg_values.specs.Kept.{Kept, kept_of, plain_of, shown}
use Rattle.rg_statements.specs.Inner.Makes.{with_object, use_with, managers_with, label_in}
use Rattle.rg_statements.proofs.Statements.Make.{made-step, made-refused, made-label, label-made}
use Rattle.rg_statements.proofs.new.new_step.Goals as goal

pub make-requires-clause-class : goal.make-requires-clause-class
make-requires-clause-class c =
    rw c.in_ok-object.ensures.1 c.in-Some.ensures.within

pub make-requires-clause-label : goal.make-requires-clause-label
make-requires-clause-label c =
    let t = c.args.book.now.program in
    let m = c.args.m.now in
    let what = c.args.made.kind in
    let windows = (plain_of t (kept_of m) []).windows in
    let o = c.in_ok-object.object in
    let made = label-made what m.managers.items windows c.requires.assigns.stands.fit.regions.active in
    let label_is = made-label t (kept_of m) c.in-Some.class (label_in t (kept_of m) what) (option_map (expr_at t) c.args.made.size) (seen_of o)
    c.in_ok-object.ensures.0 in
    subst (λ (q : Kept). LabelFits (length (managers_with what q.managers)) o.label) (sym c.in_ok-make_rooms.ensures.kept)
    (subst (λ (q : Label). LabelFits (length (managers_with what m.managers.items)) q) (sym label_is) made)

pub returns-in_err-object-clause-step : goal.returns-in_err-object-clause-step
returns-in_err-object-clause-step c input =
    let t = c.args.book.now.program in
    let p = err_from_is_err_and c.from_residual-in_err-object.result c.from_residual-in_err-object.ensures.1 in
    rw (p.1, p.2) (made-refused t (kept_of c.args.m.now) input c.args.to.at.number c.args.to.at.line c.args.to.left c.args.made c.in-Some.class
    c.in_ok-aim.aim c.requires.assigns.stands.at.rest _ c.in_ok-aim.ensures c.requires.assigns.stands.at.items c.requires.assigns.stands.tree
    c.in-Some.ensures.is c.in_err-object.ensures)

pub returns-clause-step : goal.returns-clause-step
returns-clause-step c input =
    let t = c.args.book.now.program in
    let k = kept_of c.args.m.now in
    let items = c.advance-2.new.items.items in
    let kept = c.in_ok-make_rooms.ensures.kept in
    let new : Kept → Seen → State =
    λ q o. use_with t c.in_ok-aim.aim c.args.made.kind (with_object (plain_of t (record q { items = items }) input) o) (Obj (length q.store)) in
    made-step t k input c.args.to.at.number c.args.to.at.line c.args.to.left c.args.made c.in-Some.class c.in_ok-aim.aim items
    (seen_of c.in_ok-object.object) _
    c.in_ok-aim.ensures (sym (ap (λ (q : Kept). shown t q.items) kept) ∙ c.advance-2.ensures.rest) c.requires.assigns.stands.tree
    c.in-Some.ensures.is c.in_ok-object.ensures.0
    (c.make.ensures.made input ∙ ap (λ q. new q (seen_of c.in_ok-object.object)) kept)
