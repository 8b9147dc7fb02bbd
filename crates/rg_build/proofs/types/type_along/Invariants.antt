use Rattle.std.proofs.Common.{◌≡◌, map, drop}
use Rattle.rg_tree.specs.Rows.Tables.{name_at}
use Rattle.rg_tree.specs.Rows.RowTrees.{classes_of}
use Rattle.rg_code.specs.Lowering.{type_along}
use Rattle.rg_build.proofs.types.type_along.Given as goal

abbrev pub invariant-loop-name : goal.invariant-loop-name
invariant-loop-name l =
    type_along (classes_of l.book.program) l.here (map (name_at l.book.program) (drop l.name-index l.fields))
    ≡ type_along (classes_of l.book.program) l.fn.owner (map (name_at l.book.program) l.fields)
