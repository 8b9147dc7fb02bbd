use Rattle.std.proofs.Common.{◌≡◌, drop}
use Rattle.std.specs.Prelude.{IfSome}
use Rattle.std.specs.List.{list_all}
use Rattle.rg_tree.specs.Rows.RowTrees.{classes_of}
use Rattle.rg_typed.specs.Typed.{cell_fits}
use Rattle.rg_typed.specs.Known.{AreFieldsOf}
use Rattle.rg_typed.proofs.objects.is_typed.Given as goal

abbrev pub invariant-loop-cell : goal.invariant-loop-cell
invariant-loop-cell l = record {
  rest : list_all (cell_fits (classes_of l.book.program) l.cells) (drop l.cell-index l.cells)
      ≡ list_all (cell_fits (classes_of l.book.program) l.cells) l.cells;
  known : IfSome l.these (λ k. AreFieldsOf l.book.program l.known k.now);
}
