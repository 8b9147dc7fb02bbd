use Rattle.std.proofs.Common.{◌∙◌, sym}
use Rattle.rg_heap.proofs.Left.{no_temps, released_none}
use Rattle.rg_heap.proofs.ending.end_temps.Goals as goal

pub returns-then-is_empty-clause-released : goal.returns-then-is_empty-clause-released
returns-then-is_empty-clause-released c =
    let none = sym c.temps.ensures ∙ no_temps c.temps.result.now (sym c.is_empty.ensures ∙ c.if-is_empty.true) in
    released_none (record { cells = c.args.cells.now; regions = c.args.regions.now }) c.args.frames.now none
