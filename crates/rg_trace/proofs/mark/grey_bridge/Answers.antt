use Rattle.std.proofs.Common.{Option, ℕ, subst, sym}
use Rattle.rg_trace.specs.Inner.Marking.{ScannedBridge}
use Rattle.rg_trace.proofs.Marks.Turns.{bridged-some}
use Rattle.rg_trace.proofs.mark.grey_bridge.Goals as goal

pub returns : goal.returns
returns c =
    let B : Option ℕ → Type 0 = λ o.
    ScannedBridge c.args.cells.now.heap c.args.region o c.args.cells.now c.grey.new.cells c.grey.result in
    subst B (sym c.in-Some.is) (bridged-some c.args.region c.in-Some.slot c.args.cells.now c.grey.new.cells
    c.grey.result c.grey.ensures)
