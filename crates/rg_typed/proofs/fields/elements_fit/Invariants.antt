use Rattle.std.proofs.Common.{◌≡◌, drop}
use Rattle.std.specs.List.{list_all}
use Rattle.rg_tree.specs.Rows.RowTrees as rows
use Rattle.rg_rules.specs.Types.{type_of}
use Rattle.rg_typed.specs.Typed.{value_fits}
use Rattle.rg_typed.proofs.fields.elements_fit.Given as goal

abbrev pub invariant-loop-k : goal.invariant-loop-k
invariant-loop-k l = list_all
    (value_fits l.cells l.own (type_of (rows.classes_of l.book.program) (rows.type_of l.book.program l.element)))
    (drop l.k l.values)
    ≡ list_all (value_fits l.cells l.own (type_of (rows.classes_of l.book.program) (rows.type_of l.book.program l.element))) l.values
