use Rattle.std.proofs.Common.{◌∙◌, sym, ap}
use Rattle.rg_base.specs.declared.ty.Ty.TheVariants.{Ref}
use Rattle.rg_tree.specs.Rows.Tables.{name_at}
use Rattle.rg_tree.specs.Rows.RowTrees.{classes_of, type_of as written}
use Rattle.rg_rules.specs.Types.{type_of}
use Rattle.rg_values.proofs.Expressions.Types.{class_number-unplaced}
use Rattle.rg_values.proofs.values.types.written_type.Goals as goal

pub returns-in-None : goal.returns-in-None
returns-in-None c =
    let t = c.args.book.now.program in
    ap (Ref c.in-Ref.cap) (c.class_count.ensures ∙ sym (class_number-unplaced (classes_of t) (name_at t c.in-Ref.name) c.in-None.ensures.is))
    ∙ ap (λ y. type_of (classes_of t) (written t y)) (sym c.in-Ref.is)
