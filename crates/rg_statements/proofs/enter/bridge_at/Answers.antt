use Rattle.std.proofs.Common.{◌∙◌, sym, ap}
use Rattle.rg_base.specs.declared.object.Seen.{Seen}
use Rattle.rg_rules.specs.Regions.{region_of}
use Rattle.rg_store.proofs.Callers.Label.{some-below, LabelsFit-at}
use Rattle.rg_store.proofs.Callers.Write.{seen-there}
use Rattle.rg_statements.proofs.enter.bridge_at.Goals as goal

pub returns-in-Some-clause-bridge : goal.returns-in-Some-clause-bridge
returns-in-Some-clause-bridge c o at =
    let same = seen-there c.args.store.now c.args.place c.index-store-place.result o c.requires c.index-store-place.is at in (
      ap (λ (q : Seen). q.class) (sym same),
      ap (λ (q : Seen). region_of q.label) (sym same) ∙ sym c.in-Some.ensures,
    )

pub returns-in-Some-clause-region : goal.returns-in-Some-clause-region
returns-in-Some-clause-region c count fits =
    some-below count c.index-store-place.result.label c.in-Some.region
    (LabelsFit-at count c.args.store.now c.args.place c.index-store-place.result c.requires c.index-store-place.is fits) (sym c.in-Some.ensures)

pub returns-in-None : goal.returns-in-None
returns-in-None c = record {
  bridge = λ o at.
      ap (λ (q : Seen). region_of q.label)
      (sym (seen-there c.args.store.now c.args.place c.index-store-place.result o c.requires c.index-store-place.is at)) ∙ sym c.in-None.ensures;
  region = tt;
}
