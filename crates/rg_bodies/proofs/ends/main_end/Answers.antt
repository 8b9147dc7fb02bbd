use Rattle.std.proofs.Common.{sym, ◌∙◌}
use Rattle.rg_bodies.proofs.Reading.{main-none}
use Rattle.rg_bodies.proofs.ends.main_end.Goals as goal

pub returns-in_err-halt_at : goal.returns-in_err-halt_at
returns-in_err-halt_at c =
    c.from_residual-in_err-halt_at.ensures
    ∙ sym (main-none c.args.code.now.ops c.args.at c.in_ok-line.line c.in_ok-end_at.field-0 (sym c.in_ok-line.ensures.told)
    (sym c.in_ok-end_at.ensures.told) (sym c.in_err-halt_at.ensures.told))
