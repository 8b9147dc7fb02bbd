use Rattle.rg_copy.proofs.Passes.{temps-joined}
use Rattle.rg_copy.proofs.forward.forward_temps.Goals as goal

pub returns-clause-forwarded : goal.returns-clause-forwarded
returns-clause-forwarded g c =
    temps-joined c.args.cells.now c.forward_marked.new.cells c.clear_marks.new.cells c.args.region c.args.temps.now
    c.requires.clean c.forward_marked.ensures.forwarded c.clear_marks.ensures
