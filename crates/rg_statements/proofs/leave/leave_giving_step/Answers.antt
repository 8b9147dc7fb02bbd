use Rattle.std.proofs.Common.{◌≡◌, ◌≢◌, ℕ, List, [], ◌∷◌, ◌++◌, length, Some, refl, sym, ◌∙◌, ap, rules}
use Rattle.std.proofs.lemmas.Result.{err_from_is_err_and}
use Rattle.rg_tree.specs.Rows.Tables.{Tables, name_at}
use Rattle.rg_rules.specs.Items.{LeaveGiving}
use Rattle.rg_rules.specs.State.{value_in}
use Rattle.rg_rules.specs.Evaluation.{object_at}
use Rattle.rg_rules.specs.Steps.{put_at}
use Rattle.rg_store.specs.Shown.{store_of}
use Rattle.rg_values.specs.declared.state.rows.ItemRow.{ItemRow}
use Rattle.rg_values.specs.declared.state.rows.ItemRow.TheVariants as row
use Rattle.rg_values.specs.Kept.{kept_of, plain_of, shown}
use Rattle.rg_values.specs.Printing.{first_prints}
use Rattle.rg_values.specs.Shown.{locals_of}
use Rattle.rg_values.proofs.Item.{shown-push}
use Rattle.rg_statements.proofs.Statements.Giving.{giving-alone, giving-cut, giving-ends}
use Rattle.rg_statements.proofs.Statements.Window.{found}
use Rattle.rg_statements.proofs.leave.leave_giving_step.Goals as goal

-- the item that was first
first : (t : Tables) (rows below : List ItemRow) (line kept name : ℕ) → rows ≡ below ++ row.LeaveGiving line kept name ∷ [] →
    shown t rows ≡ LeaveGiving line kept (name_at t name) ∷ shown t below
first t rows below line kept name is = ap (shown t) is ∙ shown-push t below (row.LeaveGiving line kept name)

pub returns-then-is_empty-clause-step : goal.returns-then-is_empty-clause-step
returns-then-is_empty-clause-step c input =
    let none : length c.args.m.now.outer.items ≡ 0 = search rules in
    giving-alone c.args.book.now.program (kept_of c.args.m.now) input c.args.line c.args.kept (name_at c.args.book.now.program c.args.name) _ _
    c.shut.ensures.items none (c.shut.ensures.shut input)

pub returns-in_err-object_place-clause-step : goal.returns-in_err-object_place-clause-step
returns-in_err-object_place-clause-step c input =
    let t = c.args.book.now.program in
    let m = c.args.m.now in
    let some : length m.outer.items ≢ 0 = search rules in
    let given = ap (λ q. value_in (locals_of t q) (Some (name_at t c.args.name))) (sym c.deref.ensures.value) ∙ sym c.variable-given.ensures in
    let cut = ap (object_at (store_of m.store.items)) given
    ∙ ap (λ q. object_at (store_of q) c.variable-given.result) (sym c.deref-2.ensures.value) ∙ c.in_err-object_place.ensures in
    let p = err_from_is_err_and c.from_residual.result c.from_residual.ensures.1 in
    rw (p.1, p.2) (
      giving-cut t (kept_of m) input c.args.line c.args.kept (name_at t c.args.name) _ _
          (first t m.items.items c.requires.top.0 c.args.line c.args.kept c.args.name c.requires.top.1) some cut,
      refl,
    )

pub returns-in_err-object_place-clause-quiet : goal.returns-in_err-object_place-clause-quiet
returns-in_err-object_place-clause-quiet c =
    ap first_prints (first c.args.book.now.program c.args.m.now.items.items c.requires.top.0 c.args.line c.args.kept c.args.name c.requires.top.1)

pub returns-clause-step : goal.returns-clause-step
returns-clause-step c input =
    let t = c.args.book.now.program in
    let m = c.args.m.now in
    let x = name_at t c.args.name in
    let some : length m.outer.items ≢ 0 = search rules in
    let given = ap (λ q. value_in (locals_of t q) (Some x)) (sym c.deref.ensures.value) ∙ sym c.variable-given.ensures in
    let f = found m.store.items c.deref-2.result.now c.deref-2.result.now c.variable-given.result _ c.deref-2.ensures.value c.deref-2.ensures.value
    c.in_ok-object_place.ensures.0 c.in_ok-object_place.ensures.1 in
    let mid = plain_of t (kept_of c.shut-2.new.m) input in
    giving-ends t (kept_of m) input c.args.line c.args.kept x _ f.object mid _ c.shut-2.ensures.items some
    (ap (object_at (store_of m.store.items)) given ∙ f.at) (c.shut-2.ensures.shut input)
    (c.put_owner.ensures.put input ∙ ap (put_at m.window.owner mid) (sym given))
