use Rattle.std.proofs.Common.{sym}
use Rattle.rg_image.proofs.Counts.{entry-adds}
use Rattle.rg_image.proofs.entries.count_value.Goals as goal

pub returns-then-enters : goal.returns-then-enters
returns-then-enters c =
    entry-adds c.args.cells.now c.args.own c.args.value c.in-Obj.object c.in-Some.region _ _ c.in-Obj.is (sym c.in-Some.ensures)
    (sym c.if-enters.ensures) c.count_entry.ensures
