use Rattle.std.proofs.Common.{ap, ◌∙◌}
use Rattle.slab.specs.Slab.{Slab}
use Rattle.rg_regions.specs.declared.region.Region.{Region}
use Rattle.rg_regions.specs.Table.{Record, RegionTable, changed, without_member}
use Rattle.rg_regions.specs.Inner.Layout.{table_of}
use Rattle.rg_regions.proofs.Written.{members_at, rewritten, index-stays}
use Rattle.rg_regions.proofs.regions.Regions.drop_member.Goals as goal

pub take_member-requires : goal.take_member-requires
take_member-requires c =
    let s = c.self.inside in
    members_at s.records.slots s.next c.args.key c.args.place c.args.self.now c.requires.0 c.self.view_is c.requires.1 c.requires.2

pub invariant_of-self : goal.invariant_of-self
invariant_of-self c =
    let s = c.self.inside in
    let h = members_at s.records.slots s.next c.args.key c.args.place c.args.self.now c.requires.0 c.self.view_is c.requires.1 c.requires.2 in
    let n = c.take_member.ensures h.0 h.1 in
    index-stays s.keys.entries s.records _ s.next c.args.key h.0 n.0 h.1 n.1 (ap (λ (z : Record). z.number) n.3) c.self.invariant

pub returns : goal.returns
returns c =
    let s = c.self.inside in
    let h = members_at s.records.slots s.next c.args.key c.args.place c.args.self.now c.requires.0 c.self.view_is c.requires.1 c.requires.2 in
    let n = c.take_member.ensures h.0 h.1 in
    ap (λ (p : Slab Region). table_of p.slots s.next) n.1
    ∙ rewritten s.records.slots s.next c.args.key h.0 n.0 (without_member c.args.place) h.1 n.2 n.3
    ∙ ap (λ (t : RegionTable). changed t c.args.key (without_member c.args.place)) c.self.view_is
