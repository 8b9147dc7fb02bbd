use Rattle.std.proofs.Common.{◌∙◌}
use Rattle.rg_store.proofs.List.{listed-read}
use Rattle.rg_store.proofs.marks.list_of.Goals as goal

pub returns : goal.returns
returns c = c.deref.ensures.value ∙ listed-read c.args.led.now c.args.region c.index-led-region.result c.requires c.index-led-region.is
