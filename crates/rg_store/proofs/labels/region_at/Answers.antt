use Rattle.rg_store.proofs.Callers.Label.{region-made}
use Rattle.rg_store.proofs.labels.region_at.Goals as goal

pub returns-clause-made : goal.returns-clause-made
returns-clause-made c =
    region-made c.args.store.now c.args.place c.index-store-place.result c.region.result c.requires c.index-store-place.is c.region.ensures
