use Rattle.std.proofs.Common.{ℕ, List, ap, sym, ◌∙◌, slice_get}
use Rattle.rg_base.specs.declared.value.Word.TheVariants.{Slot}
use Rattle.rg_regions.proofs.Callers.Told.{lies_held}
use Rattle.rg_heap_tests.proofs.CellsTraced.{only_word}
use Rattle.rg_heap_tests.proofs.collections.kept.Goals as goal

pub collect-kept-requires-clause-slots : goal.collect-kept-requires-clause-slots
collect-kept-requires-clause-slots g c = λ k s e.
    let at = c.word_to-word.ensures s (only_word c.word_to-word.result (Slot s) k e) in
    let l = c.in_ok-slots.ensures.slots c.args.root s
    (ap (λ (z : List ℕ). slice_get z c.args.root) (sym c.deref.ensures.value) ∙ at) in
    lies_held c.add_cells.new.cells.heap l.0.number s l.3
