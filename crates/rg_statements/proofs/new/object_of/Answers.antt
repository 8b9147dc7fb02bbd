use Rattle.std.proofs.Common.{[], ap, sym, ◌∙◌}
use Rattle.rg_tree.specs.Rows.RowTrees.{classes_of, expr_at}
use Rattle.rg_store.specs.Shown.{seen_of, opened_as, array_as, store_of}
use Rattle.rg_rules.specs.Evaluation.{value_of}
use Rattle.rg_values.specs.Shown.{locals_of}
use Rattle.rg_values.specs.Kept.{kept_of}
use Rattle.rg_statements.specs.Inner.Makes.{label_in}
use Rattle.rg_statements.proofs.Statements.Make.{made-object, made-elements}
use Rattle.rg_statements.proofs.new.object_of.Goals as goal

pub returns-in_ok-object-in-None : goal.returns-in_ok-object-in-None
returns-in_ok-object-in-None c =
    let t = c.args.book.now.program in
    let k = kept_of c.args.m.now in
    let made = c.in_ok-object-in-None in (
      made-object t k c.args.class (label_in t k c.args.made.kind) c.args.made.size (seen_of made.object) c.in-None.is
          (made.ensures.shown ∙ ap (opened_as (classes_of t) c.args.class) (c.label-label.ensures t [])),
      made.ensures.class,
    )

pub returns-in_ok-object-in-Some : goal.returns-in_ok-object-in-Some
returns-in_ok-object-in-Some c =
    let t = c.args.book.now.program in
    let m = c.args.m.now in
    let k = kept_of m in
    let made = c.in_ok-object-in-Some in
    let value = ap (λ q. value_of (classes_of t) (store_of q) (locals_of t m.frame.locals.items) (expr_at t c.in-Some.e)) (sym c.deref.ensures.value)
    ∙ ap (λ q. value_of (classes_of t) (store_of c.deref.result.now) (locals_of t q) (expr_at t c.in-Some.e)) (sym c.deref-in-Some.ensures.value)
    ∙ sym c.in_ok-v-in-Some.ensures in (
      made-elements t k c.args.class (label_in t k c.args.made.kind) c.args.made.size c.in-Some.e c.in_ok-v-in-Some.v c.in_ok-size-in-Some.size
          (seen_of made.object) c.in-Some.is value (sym c.in_ok-size-in-Some.ensures)
          (made.ensures.shown ∙ ap (array_as (classes_of t) c.args.class c.in_ok-size-in-Some.size) (c.label-label.ensures t [])),
      made.ensures.class,
    )
