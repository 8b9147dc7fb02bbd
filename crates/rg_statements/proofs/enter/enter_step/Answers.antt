use Rattle.std.proofs.Common.{◌≡◌, ℕ, List, length, ◌∙◌, sym, ap, subst, refl, Some, None, option_map}
use Rattle.std.proofs.lemmas.Result.{err_from_is_err_and}
use Rattle.rg_rules.specs.Items.{leave_of}
use Rattle.rg_rules.specs.State.{State}
use Rattle.rg_rules.specs.Evaluation.{object_at}
use Rattle.rg_rules.specs.Steps.{with_window}
use Rattle.rg_tree.specs.Rows.Tables.{name_at}
use Rattle.rg_tree.specs.Rows.RowTrees.{block_of}
use Rattle.rg_store.specs.declared.objects.ObjectRow.{ObjectRow}
use Rattle.rg_store.specs.Regions.{LabelsFit}
use Rattle.rg_store.specs.Shown.{store_of}
use Rattle.rg_values.specs.Kept.{Kept, kept_of, plain_of, shown}
use Rattle.rg_statements.specs.Inner.Windows.{BridgeIs}
use Rattle.rg_statements.proofs.Statements.Window.{owner-refused, enter-cut, enter-at, found}
use Rattle.rg_statements.proofs.enter.enter_step.Goals as goal

pub returns-in_err-owner-clause-step : goal.returns-in_err-owner-clause-step
returns-in_err-owner-clause-step c input =
    let t = c.args.book.now.program in
    let p = err_from_is_err_and c.from_residual.result c.from_residual.ensures.1 in
    rw (p.1, p.2) (owner-refused t (kept_of c.args.m.now) input c.args.at.number c.args.at.line c.args.entrance.path (name_at t c.args.entrance.name)
    (block_of t c.args.body) (option_map (name_at t) c.args.entrance.giving) _ c.requires.stands.at.rest c.in_err-owner.ensures
    c.requires.stands.at.items c.requires.stands.tree)

pub returns-in_err-place-clause-step : goal.returns-in_err-place-clause-step
returns-in_err-place-clause-step c input =
    let t = c.args.book.now.program in
    let cut = ap (λ q. object_at (store_of q) c.in_ok-owner.owner.bridge) (sym c.deref.ensures.value) ∙ c.in_err-place.ensures in
    let p = err_from_is_err_and c.from_residual-in_err-place.result c.from_residual-in_err-place.ensures.1 in
    rw (p.1, p.2) (
      enter-cut t (kept_of c.args.m.now) input c.args.at.number c.args.at.line c.args.entrance.path (name_at t c.args.entrance.name)
          (block_of t c.args.body) (option_map (name_at t) c.args.entrance.giving)
          c.in_ok-owner.owner c.requires.stands.at.rest _ c.in_ok-owner.ensures cut c.requires.stands.at.items c.requires.stands.tree,
      refl,
    )

pub returns-in_default-clause-step : goal.returns-in_default-clause-step
returns-in_default-clause-step c input =
    let t = c.args.book.now.program in
    let f = found c.args.m.now.store.items c.deref.result.now c.deref-2.result.now c.in_ok-owner.owner.bridge c.in_ok-place.place
    c.deref.ensures.value c.deref-2.ensures.value c.in_ok-place.ensures.0 c.in_ok-place.ensures.1 in
    let none : BridgeIs f.object None = rw c.in_default.is at (c.bridge_at.ensures.bridge f.object f.there) in
    enter-at t (kept_of c.args.m.now) input c.args.at.number c.args.at.line c.args.entrance.path (name_at t c.args.entrance.name)
    (block_of t c.args.body) (option_map (name_at t) c.args.entrance.giving)
    c.in_ok-owner.owner c.advance.new.items.items f.object _ None _ c.in_ok-owner.ensures f.at refl none c.advance.ensures.rest
    c.requires.stands.tree refl

pub returns-clause-step : goal.returns-clause-step
returns-clause-step c input =
    let t = c.args.book.now.program in
    let k = kept_of c.args.m.now in
    let w = c.in_ok-owner.owner in
    let b = c.in-Some.bridge in
    let m = c.args.m.now in
    let kept : kept_of (record m {
      outer = c.reserve.new.self;
      frame = record m.frame { locals = c.reserve-2.new.self };
      items = c.reserve-3.new.self;
    })
    ≡ kept_of m = rw (c.reserve.ensures.items, c.reserve-2.ensures.items, c.reserve-3.ensures.items) refl in
    let items = c.advance-2.new.items.items in
    let f = found c.args.m.now.store.items c.deref.result.now c.deref-2.result.now c.in_ok-owner.owner.bridge c.in_ok-place.place
    c.deref.ensures.value c.deref-2.ensures.value c.in_ok-place.ensures.0 c.in_ok-place.ensures.1 in
    let some : BridgeIs f.object (Some b) = c.in-Some.ensures.bridge f.object f.there in
    let giving = option_map (name_at t) c.args.entrance.giving in
    let new : ℕ → Kept → State =
    λ line q. with_window (plain_of t (record q { items = items }) input) w.place (name_at t c.args.entrance.name) (block_of t c.args.body)
    (λ stay. leave_of line stay giving) w.bridge b.class (Some b.region) in
    enter-at t k input c.args.at.number c.args.at.line c.args.entrance.path (name_at t c.args.entrance.name) (block_of t c.args.body) giving
    w items f.object b.class (Some b.region) _ c.in_ok-owner.ensures f.at some.0 some.1
    (sym (ap (λ (q : Kept). shown t q.items) kept) ∙ c.advance-2.ensures.rest) c.requires.stands.tree
    (c.open_window.ensures.opened input ∙ ap (new c.args.entrance.line) kept ∙ ap (λ line. new line k) c.requires.line)

pub open_window-requires-clause-region : goal.open_window-requires-clause-region
open_window-requires-clause-region c =
    let m = c.args.m.now in
    let count = length m.managers.items in
    let fits = subst (λ (q : List ObjectRow). LabelsFit count (store_of q)) (sym c.deref-2.ensures.value) c.requires.stands.fit.regions.labels in
    c.in-Some.ensures.region count fits
