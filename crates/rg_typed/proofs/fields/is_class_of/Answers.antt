use Rattle.std.proofs.Common.{sym, inl, inr}
use Rattle.std.proofs.lemmas.Bool.Decides.{eqb_tells}
use Rattle.rg_tree.specs.Rows.Tables.{name_at}
use Rattle.rg_tree.specs.Rows.RowTrees as rows
use Rattle.rg_rules.specs.Types as types
use Rattle.rg_typed.proofs.ClassNumber.{class_number-named}
use Rattle.rg_typed.proofs.fields.is_class_of.Goals as goal

pub returns-then-is_same : goal.returns-then-is_same
returns-then-is_same c =
    let t = c.args.book.now.program in
    let classes = rows.classes_of t in
    let x = name_at t c.args.name in
    let good = c.tables_are_of_good_headers.ensures t c.args.book.now.classes c.program.ensures.table in
    let number = class_number-named classes x c.args.class (rows.class_of t c.class.result) good.names (c.class.ensures.tree)
    (sym c.if-is_same.ensures) in
    elim (eqb_tells c.args.class (types.class_number classes x)) [
      | inl t ↦ sym t.0
      | inr t ↦ absurd (t.1 (sym number))
    ]
