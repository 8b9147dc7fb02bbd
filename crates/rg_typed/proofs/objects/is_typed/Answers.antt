use Rattle.std.proofs.Common.{sym, ◌∙◌, refl, length}
use Rattle.std.proofs.lemmas.Option.{slice_get_read}
use Rattle.rg_tree.specs.Rows.RowTrees.{classes_of}
use Rattle.rg_typed.specs.Typed.{cell_fits}
use Rattle.rg_typed.proofs.OneByOne.{all-next}
use Rattle.rg_typed.proofs.objects.is_typed.Goals as goal

pub loop-cell-preserved : goal.loop-cell-preserved
loop-cell-preserved c =
    let classes = classes_of c.new-book.result.program in
    let cells = c.cells-cells.result.now in
    let at = slice_get_read cells (length cells) c.loop-cell.cell-index c.cell-item.result refl c.loop-cell-test.true c.cell-item.is in
    record {
      rest = sym (all-next (cell_fits classes cells) cells c.loop-cell.cell-index c.cell-item.result at (sym c.if-not-known_fits.ensures))
          ∙ c.loop-cell.invariant.rest;
      known = c.fields_for-these.ensures;
    }

pub fields_for-these-requires : goal.fields_for-these-requires
fields_for-these-requires c = c.loop-cell.invariant.known
