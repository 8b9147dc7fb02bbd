use Rattle.std.proofs.Common.{List, drop, sym, subst}
use Rattle.rg_base.specs.declared.value.Word.{Word}
use Rattle.rg_regions.specs.Collection.{WordsLeadToHeld}
use Rattle.rg_heap.specs.Parts.{Parts}
use Rattle.rg_heap.proofs.heap.Heap.collect.Goals as goal

pub collect_by-requires-clause-slots : goal.collect_by-requires-clause-slots
collect_by-requires-clause-slots g c =
    let top = c.top-key.result in
    let W : List Word → Type 0 = λ ws. WordsLeadToHeld c.self.inside.cells.heap ws in
    let P : Parts → Type 0 = λ (p : Parts). WordsLeadToHeld p.cells.heap (drop top.base c.args.frames.now.slots) in
    subst W (sym (c.slots-slots.ensures top c.top-key.ensures)) (subst P (sym c.self.view_is) (c.requires.slots top c.top-key.ensures))
