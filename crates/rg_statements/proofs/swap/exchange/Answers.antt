use Rattle.std.proofs.Common.{◌∙◌, ap, Some}
use Rattle.rg_base.specs.declared.value.Val.TheVariants.{Obj}
use Rattle.rg_tree.specs.Rows.Tables.{name_at}
use Rattle.rg_tree.specs.Rows.RowTrees.{classes_of}
use Rattle.rg_rules.specs.Evaluation.{field_value}
use Rattle.rg_rules.specs.State.{State, value_in, put_local}
use Rattle.rg_rules.specs.Steps.{put_field}
use Rattle.rg_store.specs.Shown.{seen_of}
use Rattle.rg_store.proofs.Callers.Write.{object-there}
use Rattle.rg_values.specs.Kept.{kept_of, plain_of}
use Rattle.rg_values.specs.Shown.{locals_of}
use Rattle.rg_statements.proofs.swap.exchange.Goals as goal

pub returns-clause-exchanged : goal.returns-clause-exchanged
returns-clause-exchanged c input o there =
    let t = c.args.book.now.program in
    let cs = classes_of t in
    let old = plain_of t (kept_of c.args.m.now) input in
    let y = name_at t c.args.name in
    let f = name_at t c.args.field in
    let a = c.args.place in
    let now : State = put_field cs (Obj a) f old (value_in (locals_of t c.args.m.now.frame.locals.items) (Some y)) in
    let held = c.field_value-held.result in
    c.put-2.ensures.put input
    ∙ ap (λ s. put_local (Some y) s held) (c.put.ensures.put input)
    ∙ ap (λ v. put_local (Some y) (put_field cs (Obj a) f old v) held)
    (c.variable-v.ensures ∙ ap (λ ls. value_in (locals_of t ls) (Some y)) c.deref.ensures.value)
    ∙ ap (put_local (Some y) now)
    (c.field_value-held.ensures
    ∙ ap (λ q. field_value cs q f) (ap seen_of c.index.ensures ∙ object-there c.args.m.now.store.items a c.index.result.now o c.requires.there there))
