use Rattle.std.proofs.Common.{◌≡◌, refl, ap, ◌∙◌}
use Rattle.std.proofs.lemmas.Option.{same_Some}
use Rattle.rg_regions.specs.declared.region.Region.{Region}
use Rattle.rg_regions.specs.Table.{without_member}
use Rattle.rg_regions.specs.Inner.Layout.{record_of}
use Rattle.rg_regions.proofs.places.take_member.Goals as goal

pub returns : goal.returns
returns c = λ r e.
    let same : c.in-Some.region.now ≡ r = same_Some c.in-Some.region.now r (c.in-Some.ensures.value ∙ e) in (
      c.shorten.new.region,
      refl,
      c.shorten.ensures.link ∙ ap (λ (z : Region). z.link) same,
      c.shorten.ensures.shows ∙ ap (λ (z : Region). without_member c.args.place (record_of z)) same,
    )
