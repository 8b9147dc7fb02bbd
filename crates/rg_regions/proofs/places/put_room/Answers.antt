use Rattle.std.proofs.Common.{◌≡◌, OnErr, refl, ap, ◌∙◌, subst}
use Rattle.std.proofs.lemmas.Option.{same_Some}
use Rattle.rg_regions.specs.declared.region.Region.{Region}
use Rattle.rg_regions.specs.Table.{with_room}
use Rattle.rg_regions.specs.Inner.Layout.{record_of}
use Rattle.rg_regions.proofs.places.put_room.Goals as goal

pub returns : goal.returns
returns c = λ r e.
    let same : c.in-Some.region.now ≡ r = same_Some c.in-Some.region.now r (c.in-Some.ensures.value ∙ e) in
    let E : Region → Type 0 = λ z. OnErr c.widen.result (record_of c.widen.new.region ≡ record_of z) in (
      c.widen.new.region,
      refl,
      c.widen.ensures.link ∙ ap (λ (z : Region). z.link) same,
      c.widen.ensures.shows ∙ ap (λ (z : Region). with_room (record_of c.widen.new.region).room (record_of z)) same,
      c.widen.ensures.ok,
      subst E same c.widen.ensures.err,
    )
