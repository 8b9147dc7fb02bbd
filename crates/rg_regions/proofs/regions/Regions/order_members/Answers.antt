use Rattle.std.proofs.Common.{◌≡◌, Some, ap, ◌∙◌, subst, sym, IsPermutation}
use Rattle.std.proofs.lemmas.Option.{same_Some}
use Rattle.slab.specs.Slab.{Slab}
use Rattle.rg_regions.specs.declared.region.Region.{Region}
use Rattle.rg_regions.specs.Table.{Record, RegionTable, record_at, changed}
use Rattle.rg_regions.specs.Ordered.{with_members}
use Rattle.rg_regions.specs.Inner.Layout.{record_of, shown, table_of}
use Rattle.rg_regions.proofs.Written.{region_at, rewritten, index-stays, shown-at}
use Rattle.rg_regions.proofs.regions.Regions.order_members.Goals as goal

pub order_members-requires : goal.order_members-requires
order_members-requires c = let s = c.self.inside in region_at s.records.slots s.next c.args.key c.args.self.now c.self.view_is c.requires

pub invariant_of-self : goal.invariant_of-self
invariant_of-self c =
    let s = c.self.inside in
    let h = region_at s.records.slots s.next c.args.key c.args.self.now c.self.view_is c.requires in
    let n = c.order_members.ensures h.0 h.1 in
    index-stays s.keys.entries s.records _ s.next c.args.key h.0 n.0 h.1 n.1 (ap (λ (z : Record). z.number) n.3) c.self.invariant

pub returns : goal.returns
returns c =
    let s = c.self.inside in
    let h = region_at s.records.slots s.next c.args.key c.args.self.now c.self.view_is c.requires in
    let n = c.order_members.ensures h.0 h.1 in
    let there : record_at (table_of s.records.slots s.next) c.args.key ≡ Some (record_of h.0) =
    shown-at s.records.slots c.args.key ∙ ap shown h.1 in
    let P : RegionTable → Type 0 = λ t. record_at t c.args.key ≡ Some (record_of h.0) in
    record {
      members = n.0.members.items;
      rise = n.4;
      same = λ r e.
          let Q : Record → Type 0 = λ z. IsPermutation z.members n.0.members.items in
          subst Q (same_Some (record_of h.0) r (sym (subst P c.self.view_is there) ∙ e)) n.5;
      changed = ap (λ (p : Slab Region). table_of p.slots s.next) n.1
          ∙ rewritten s.records.slots s.next c.args.key h.0 n.0 (with_members n.0.members.items) h.1 n.2 n.3
          ∙ ap (λ (t : RegionTable). changed t c.args.key (with_members n.0.members.items)) c.self.view_is;
    }
