use Rattle.std.proofs.Common.{ap, ◌∙◌, subst, sym, refl, Some}
use Rattle.slab.specs.Slab.{Slab}
use Rattle.rg_regions.specs.declared.region.Region.{Region}
use Rattle.rg_regions.specs.Table.{RegionTable, changed, with_bridge}
use Rattle.rg_regions.specs.Inner.Layout.{table_of, IsIndexed}
use Rattle.rg_regions.proofs.Written.{region_at, rewritten, indexed-written}
use Rattle.rg_regions.proofs.regions.Regions.set_bridge.Goals as goal

pub put_bridge-requires : goal.put_bridge-requires
put_bridge-requires c = let s = c.self.inside in region_at s.records.slots s.next c.args.key c.args.self.now c.self.view_is c.requires

pub invariant_of-self : goal.invariant_of-self
invariant_of-self c =
    let s = c.self.inside in
    let h = region_at s.records.slots s.next c.args.key c.args.self.now c.self.view_is c.requires in
    let P : Slab Region → Type 0 = λ p. IsIndexed s.keys.entries (table_of p.slots s.next) in
    let new = record h.0 { bridge = Some c.args.slot } in
    subst P (sym (c.put_bridge.ensures h.0 h.1))
    (indexed-written s.keys.entries s.records.slots s.next c.args.key h.0 new h.1 refl c.self.invariant)

pub returns : goal.returns
returns c =
    let s = c.self.inside in
    let h = region_at s.records.slots s.next c.args.key c.args.self.now c.self.view_is c.requires in
    let new = record h.0 { bridge = Some c.args.slot } in
    ap (λ (p : Slab Region). table_of p.slots s.next) (c.put_bridge.ensures h.0 h.1)
    ∙ rewritten s.records.slots s.next c.args.key h.0 new (with_bridge c.args.slot) h.1 refl refl
    ∙ ap (λ (t : RegionTable). changed t c.args.key (with_bridge c.args.slot)) c.self.view_is
