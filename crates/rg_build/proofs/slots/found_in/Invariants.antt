use Rattle.std.proofs.Common.{◌≡◌, drop}
use Rattle.rg_tree.specs.Rows.RowTrees.{variable_of}
use Rattle.rg_code.specs.Lowering.{type_in}
use Rattle.rg_build.specs.Inner.Slots.{scope_of}
use Rattle.rg_build.proofs.slots.found_in.Given as goal

abbrev pub invariant-loop-one : goal.invariant-loop-one
invariant-loop-one l =
    type_in (scope_of l.book.program l.held) (variable_of l.book.program l.name)
    ≡ type_in (scope_of l.book.program (drop l.one-index l.held)) (variable_of l.book.program l.name)
