use Rattle.std.proofs.Common.{◌≡◌, refl, ap, ◌∙◌, subst, IsPermutation}
use Rattle.std.proofs.lemmas.Option.{same_Some}
use Rattle.rg_regions.specs.declared.region.Region.{Region}
use Rattle.rg_regions.specs.Ordered.{with_members}
use Rattle.rg_regions.specs.Inner.Layout.{record_of}
use Rattle.rg_regions.proofs.places.order_members.Goals as goal

pub returns : goal.returns
returns c = λ r e.
    let same : c.in-Some.region.now ≡ r = same_Some c.in-Some.region.now r (c.in-Some.ensures.value ∙ e) in
    let now : Region = c.sort.new.region in
    let P : Region → Type 0 = λ z. IsPermutation z.members.items now.members.items in (
      now,
      refl,
      c.sort.ensures.link ∙ ap (λ (z : Region). z.link) same,
      c.sort.ensures.shows ∙ ap (λ (z : Region). with_members now.members.items (record_of z)) same,
      c.sort.ensures.rise,
      subst P same c.sort.ensures.same,
    )
