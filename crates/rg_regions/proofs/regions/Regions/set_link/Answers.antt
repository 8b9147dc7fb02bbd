use Rattle.std.proofs.Common.{set, ap, ◌∙◌, subst, sym, refl}
use Rattle.slab.specs.Slab.{Slab}
use Rattle.rg_regions.specs.declared.region.Region.{Region}
use Rattle.rg_regions.specs.Table.{RegionTable}
use Rattle.rg_regions.specs.Inner.Layout.{table_of, IsIndexed}
use Rattle.rg_regions.proofs.Written.{region_at, linked, indexed-written}
use Rattle.rg_regions.proofs.regions.Regions.set_link.Goals as goal

pub put_link-requires : goal.put_link-requires
put_link-requires c = let s = c.self.inside in region_at s.records.slots s.next c.args.key c.args.self.now c.self.view_is c.requires

pub returns-clause-set : goal.returns-clause-set
returns-clause-set c =
    let s = c.self.inside in
    let h = region_at s.records.slots s.next c.args.key c.args.self.now c.self.view_is c.requires in
    ap (λ (p : Slab Region). table_of p.slots s.next) (c.put_link.ensures h.0 h.1)
    ∙ linked s.records.slots s.next c.args.key c.args.next h.0 h.1
    ∙ ap (λ (t : RegionTable). record t { links = set t.links c.args.key c.args.next }) c.self.view_is

pub invariant_of-self : goal.invariant_of-self
invariant_of-self c =
    let s = c.self.inside in
    let h = region_at s.records.slots s.next c.args.key c.args.self.now c.self.view_is c.requires in
    let P : Slab Region → Type 0 = λ p. IsIndexed s.keys.entries (table_of p.slots s.next) in
    let new = record h.0 { link = c.args.next } in
    subst P (sym (c.put_link.ensures h.0 h.1))
    (indexed-written s.keys.entries s.records.slots s.next c.args.key h.0 new h.1 refl c.self.invariant)
