use Rattle.std.proofs.Common.{List, length, ◌∙◌, sym, ap, subst, Some}
use Rattle.std.proofs.lemmas.Result.{err_from_is_err_and}
use Rattle.rg_tree.specs.Rows.Tables.{name_at}
use Rattle.rg_rules.specs.Evaluation.{object_at}
use Rattle.rg_rules.specs.State.{value_in}
use Rattle.rg_store.specs.declared.objects.ObjectRow.{ObjectRow}
use Rattle.rg_store.specs.Regions.{LabelsFit}
use Rattle.rg_store.specs.Shown.{store_of}
use Rattle.rg_values.specs.Shown.{locals_of}
use Rattle.rg_statements.proofs.Statements.Moves.{made-at}
use Rattle.rg_statements.proofs.Statements.Window.{found}
use Rattle.rg_statements.proofs.move_.value_held.Goals as goal

pub returns : goal.returns
returns c =
    let t = c.args.book.now.program in
    let m = c.args.m.now in
    let f = found m.store.items c.deref-2.result.now c.deref-3.result.now c.variable-value.result c.in_ok-place.place c.deref-2.ensures.value
    c.deref-3.ensures.value c.in_ok-place.ensures.0 c.in_ok-place.ensures.1 in
    let count = length m.managers.items in record {
      value_is = c.variable-value.ensures ∙ ap (λ ls. value_in (locals_of t ls) (Some (name_at t c.args.name))) c.deref.ensures.value;
      object = f.object;
      at = f.at;
      region_is = c.region_at.ensures.region f.object f.there;
      made =
          made-at (store_of c.deref-3.result.now) count c.region_at.result
          (subst (λ (q : List ObjectRow). LabelsFit count (store_of q)) (sym c.deref-3.ensures.value) c.requires.fit.regions.labels)
          c.region_at.ensures.made;
    }

pub returns-in_err-place : goal.returns-in_err-place
returns-in_err-place c =
    let t = c.args.book.now.program in
    let value_is = c.variable-value.ensures ∙ ap (λ ls. value_in (locals_of t ls) (Some (name_at t c.args.name))) c.deref.ensures.value in
    let p = err_from_is_err_and c.from_residual.result c.from_residual.ensures.1 in
    rw (p.1, p.2) (ap (object_at (store_of c.args.m.now.store.items)) (sym value_is)
    ∙ ap (λ q. object_at (store_of q) c.variable-value.result) (sym c.deref-2.ensures.value) ∙ c.in_err-place.ensures)
