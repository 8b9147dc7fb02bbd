use Rattle.std.proofs.Common.{◌≡◌, ◌∷◌, ◌++◌, [], map, Some, sym, ap, ◌∙◌}
use Rattle.std.proofs.lemmas.List.{map-append}
use Rattle.std.proofs.lemmas.List.Elements.{All-pop}
use Rattle.rg_tree.specs.Rows.Tables.{name_at, numbers_in}
use Rattle.rg_tree.specs.Rows.RowTrees.{classes_of}
use Rattle.rg_tree.specs.Rows.RowsExist.{IsNameIn}
use Rattle.rg_lower.specs.Inner.Slots.{scope_of, variable_of}
use Rattle.rg_lower.proofs.Target.{holder-front}
use Rattle.rg_lower.proofs.holders.write_holder.Goals as goal

pub write_walk-requires-clause-fields : goal.write_walk-requires-clause-fields
write_walk-requires-clause-fields c =
    let e : numbers_in c.args.book.now.program c.args.path.fields ≡ c.in-Some.front.now ++ c.in-Some.last.now ∷ [] =
    sym c.order.ensures ∙ c.in-Some.ensures.cases.0 in
    (All-pop (IsNameIn c.args.book.now.program) _ c.in-Some.front.now (Some c.in-Some.last.now) e c.requires.path.fields.each).0

pub field-requires : goal.field-requires
field-requires c =
    let e : numbers_in c.args.book.now.program c.args.path.fields ≡ c.in-Some.front.now ++ c.in-Some.last.now ∷ [] =
    sym c.order.ensures ∙ c.in-Some.ensures.cases.0 in
    (All-pop (IsNameIn c.args.book.now.program) _ c.in-Some.front.now (Some c.in-Some.last.now) e c.requires.path.fields.each).1

pub returns : goal.returns
returns c =
    let t = c.args.book.now.program in
    let e : numbers_in t c.args.path.fields ≡ c.in-Some.front.now ++ c.in-Some.last.now ∷ [] =
    sym c.order.ensures ∙ c.in-Some.ensures.cases.0 in
    let m : map (name_at t) (numbers_in t c.args.path.fields) ≡ map (name_at t) c.in-Some.front.now ++ name_at t c.in-Some.last.now ∷ [] =
    ap (map (name_at t)) e ∙ map-append (name_at t) c.in-Some.front.now (c.in-Some.last.now ∷ []) in
    rw m (holder-front (classes_of t) (scope_of t c.args.slots.now) (variable_of t c.args.path.base) (map (name_at t) c.in-Some.front.now)
    (name_at t c.in-Some.last.now) c.args.code.now c.write_walk.new.code c.in_ok-ty.ty c.field.result c.in_ok-ty.ensures.code
    c.in_ok-ty.ensures.ty c.field.ensures.index c.field.ensures.ty)
