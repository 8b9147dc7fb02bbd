use Rattle.std.proofs.Common.{sym, ap, ◌∙◌}
use Rattle.rg_cown.specs.Cargo.{is_in}
use Rattle.rg_image.proofs.Alone.{sound-alone}
use Rattle.rg_image.proofs.sound.is_sound.Goals as goal

pub returns-then-is_one : goal.returns-then-is_one
returns-then-is_one c =
    sound-alone c.args.cargo.now c.cells-cells.result.now c.managers-managers.result.now c.cells-cells.ensures c.managers-managers.ensures (sym c.if-is_one.ensures)
    (ap (is_in 0) (sym c.label_of.ensures) ∙ sym c.if-not-is_in.ensures) c.if-not-are_in_order.ensures
