use Rattle.std.proofs.Common.{ap, ◌∙◌}
use Rattle.slab.specs.Slab.{Slab}
use Rattle.rg_regions.specs.declared.region.Region.{Region}
use Rattle.rg_regions.specs.Table.{Record, RegionTable, changed, with_member}
use Rattle.rg_regions.specs.Inner.Layout.{table_of}
use Rattle.rg_regions.proofs.Written.{room_at, rewritten, index-stays}
use Rattle.rg_regions.proofs.regions.Regions.push_member.Goals as goal

pub put_member-requires : goal.put_member-requires
put_member-requires c =
    let s = c.self.inside in
    room_at s.records.slots s.next c.args.key c.args.self.now c.requires.0 c.self.view_is c.requires.1 c.requires.2

pub invariant_of-self : goal.invariant_of-self
invariant_of-self c =
    let s = c.self.inside in
    let h = room_at s.records.slots s.next c.args.key c.args.self.now c.requires.0 c.self.view_is c.requires.1 c.requires.2 in
    let n = c.put_member.ensures h.0 h.1 in
    index-stays s.keys.entries s.records _ s.next c.args.key h.0 n.0 h.1 n.1 (ap (λ (z : Record). z.number) n.3) c.self.invariant

pub returns : goal.returns
returns c =
    let s = c.self.inside in
    let h = room_at s.records.slots s.next c.args.key c.args.self.now c.requires.0 c.self.view_is c.requires.1 c.requires.2 in
    let n = c.put_member.ensures h.0 h.1 in
    ap (λ (p : Slab Region). table_of p.slots s.next) n.1
    ∙ rewritten s.records.slots s.next c.args.key h.0 n.0 (with_member c.args.slot) h.1 n.2 n.3
    ∙ ap (λ (t : RegionTable). changed t c.args.key (with_member c.args.slot)) c.self.view_is
