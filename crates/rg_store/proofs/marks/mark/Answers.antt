use Rattle.std.proofs.Common.{refl, rules}
use Rattle.rg_store.proofs.Subregions.{FindsToo-new}
use Rattle.rg_store.proofs.marks.mark.Goals as goal

pub returns : goal.returns
returns c = FindsToo-new c.args.found.now _ c.args.region c.requires.fit c.requires.there refl (search rules)
