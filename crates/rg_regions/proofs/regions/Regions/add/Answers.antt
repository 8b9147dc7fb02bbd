use Rattle.std.proofs.Common.{◌≡◌, ◌+◌, ap, ◌∙◌, subst, sym, refl, ℕ, Option, Some, None, option_map, [], cond, nat_eq, List, length}
use Rattle.std.proofs.Common.{◌-◌}
use Rattle.std.specs.Map.{lookup}
use Rattle.slab.specs.Slab.{Slab}
use Rattle.rg_regions.specs.declared.region.Region.{Region}
use Rattle.rg_regions.specs.Table.{Record, RegionTable, Added, fresh}
use Rattle.rg_regions.specs.Inner.Layout.{table_of, IsIndexed}
use Rattle.rg_regions.proofs.Entries.{added-is, indexed-added}
use Rattle.rg_regions.proofs.regions.Regions.add.Goals as goal
use Rattle.rg_regions.proofs.regions.Regions.add.Goals.{After-insert_reserved-key}

-- making room left the records as they were
same : (c : After-insert_reserved-key) → c.reserve.new.self.slots ≡ c.self.inside.records.slots
same c = ap (λ (p : Slab Region). p.slots) c.reserve.ensures.rest_kept

-- what the region that came shows
come : (c : After-insert_reserved-key) → Added (table_of c.reserve.new.self.slots c.self.inside.next)
    (table_of c.insert_reserved-key.new.self.slots (c.self.inside.next + 1)) c.insert_reserved-key.result (record {
      number = c.self.inside.next;
      manager = c.args.manager;
      members = c.new.result.items;
      bridge = None;
      room = c.new.result.capacity - length c.new.result.items;
    })
come c =
    let put = c.insert_reserved-key in
    added-is c.reserve.new.self.slots put.new.self.slots c.self.inside.next put.result _ put.ensures.was_vacant
    put.ensures.updates.changed put.ensures.updates.others refl

pub returns-clause-added : goal.returns-clause-added
returns-clause-added c =
    let s = c.self.inside in
    let xs = s.records.slots in
    let w = (goal.at.returns-clause-added c).After-insert_reserved-key in
    let put = c.insert_reserved-key in
    let new = table_of put.new.self.slots (s.next + 1) in
    let shape : List ℕ → ℕ → Record = λ ms n. record { number = s.next; manager = c.args.manager; members = ms; bridge = None; room = n } in
    let made : Record = shape c.new.result.items (c.new.result.capacity - length c.new.result.items) in
    let blank : made ≡ shape [] 1 =
    ap (λ (m : List ℕ). shape m (c.new.result.capacity - length m)) c.new.ensures.items
    ∙ ap (λ (n : ℕ). shape [] (n - 0)) c.new.ensures.capacity in
    let A : Record → Type 0 = λ r. Added (table_of xs s.next) new put.result r in
    let S : List (Option Region) → Type 0 = λ ys. Added (table_of ys s.next) new put.result made in
    let V : RegionTable → Type 0 = λ t. Added t new put.result (fresh t c.args.manager) in
    subst V c.self.view_is (subst A blank (subst S (same w) (come w)))

pub invariant_of-self-2 : goal.invariant_of-self-2
invariant_of-self-2 c =
    let s = c.self.inside in
    let w = (goal.at.invariant_of-self-2 c).After-insert_reserved-key in
    let put = c.insert_reserved-key in
    let a = come w in
    let I : List (Option Region) → Type 0 = λ ys. IsIndexed s.keys.entries (table_of ys s.next) in
    let K : ℕ → Type 0 = λ k.
    (q : ℕ) → lookup (nat_eq q) c.insert.new.self.entries ≡ cond (nat_eq s.next q) (Some k) (lookup (nat_eq q) s.keys.entries) in
    let entries = subst K (c.vacant_key.ensures.value ∙ sym put.ensures.key) c.in-Ok-insert.ensures.updates.0 in
    indexed-added s.keys.entries c.insert.new.self.entries
    (table_of c.reserve.new.self.slots s.next) (table_of put.new.self.slots (s.next + 1)) put.result a.vacant
    (ap (option_map (λ (r : Record). r.number)) a.is) a.others refl entries (subst I (sym (same w)) c.self.invariant)
