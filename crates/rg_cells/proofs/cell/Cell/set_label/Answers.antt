use Rattle.std.proofs.Common.{◌∙◌, ap, refl}
use Rattle.rg_cells.specs.Inner.Layout.{label_in}
use Rattle.rg_cells.proofs.cell.Cell.set_label.Goals as goal

pub returns : goal.returns
returns c = (
  c.with_label-self.result,
  c.number_of-self.result,
  refl,
  c.with_label-self.ensures.free,
  ap (label_in c.with_label-self.result) c.number_of-self.ensures ∙ c.with_label-self.ensures.label,
  c.with_label-self.ensures.link,
)
