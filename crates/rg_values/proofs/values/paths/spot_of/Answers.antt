use Rattle.std.proofs.Common.{sym, subst, List, ℕ, All}
use Rattle.rg_tree.specs.Rows.RowsExist.{IsNameIn}
use Rattle.rg_store.specs.Shown.{store_of}
use Rattle.rg_values.specs.Shown.{locals_of}
use Rattle.rg_values.proofs.Expressions.Spots.{is_cut, is_field}
use Rattle.rg_values.proofs.values.paths.spot_of.Goals as goal

pub returns-in-Ok : goal.returns-in-Ok
returns-in-Ok c =
    let t = c.args.book.now.program in
    let P : List ℕ → Type 0 = λ ns. All (IsNameIn t) ns in
    is_field t (store_of c.args.store.now) (locals_of t c.args.locals.now) c.args.path c.order.result.now c.variable-from.result
    c.in-Ok.place c.order.ensures c.in-len1-up.len_at_least c.variable-from.ensures (subst P (sym c.order.ensures) c.requires.path.fields.each)
    c.in-Ok.ensures.0 c.in-Ok.ensures.1

pub returns-in-Err : goal.returns-in-Err
returns-in-Err c =
    let t = c.args.book.now.program in
    is_cut t (store_of c.args.store.now) (locals_of t c.args.locals.now) c.args.path c.order.result.now c.variable-from.result
    c.in-Err.kind c.order.ensures c.in-len1-up.len_at_least c.variable-from.ensures c.in-Err.ensures
