use Rattle.std.proofs.Common.{◌≡◌, ℕ, Option, Some, IsSome, ap, sym, ◌∙◌, subst, refl, arith}
use Rattle.rg_regions.specs.Table.{Record, RegionTable, record_at, HasRoom, IsKey, Roomier, changed, with_room, with_member}
use Rattle.rg_regions.specs.Ordered.{with_members, Orders}
use Rattle.rg_regions.proofs.Callers.Changed.{changed_at}
use Rattle.rg_heap_tests.proofs.regions.is_ordered.Goals as goal

-- the record of a key behind a change
after : (t u : RegionTable) (key : ℕ) (f : Record → Record) (r : Record) → record_at t key ≡ Some r → u ≡ changed t key f
    → record_at u key ≡ Some (f r)
after t u key f r e n = ap (λ z. record_at z key) n ∙ changed_at t key r f e

is_key : (t : RegionTable) (key : ℕ) (r : Record) → record_at t key ≡ Some r → IsKey t key
is_key t key r e = let P : Option Record → Type 0 = λ o. IsSome o in subst P (sym e) refl

-- Room is made for two members, they come, and they are put in order.
module _ (t u : RegionTable) (key : ℕ) (r : Record) (e : record_at t key ≡ Some r) (w : Roomier t u key 2) where
  reserved : record_at u key ≡ Some (with_room w.0 r)
  reserved = after t u key (with_room w.0) r e w.2

  first_fits : HasRoom u key
  first_fits = (with_room w.0 r, reserved, omega (arith, w.1))

  module _ (v : RegionTable) (a : ℕ) (n : v ≡ changed u key (with_member a)) where
    one_more : record_at v key ≡ Some (with_member a (with_room w.0 r))
    one_more = after u v key (with_member a) (with_room w.0 r) reserved n

    second_fits : HasRoom v key
    second_fits = (with_member a (with_room w.0 r), one_more, omega (arith, w.1))

    module _ (x : RegionTable) (b : ℕ) (m : x ≡ changed v key (with_member b)) where
      two_more : record_at x key ≡ Some (with_member b (with_member a (with_room w.0 r)))
      two_more = after v x key (with_member b) (with_member a (with_room w.0 r)) one_more m

      is_there : IsKey x key
      is_there = is_key x key (with_member b (with_member a (with_room w.0 r))) two_more

      is_ordered : (y : RegionTable) → Orders x y key → IsKey y key
      is_ordered y o =
          let s : Record = with_member b (with_member a (with_room w.0 r)) in
          is_key y key (with_members o.members s) (after x y key (with_members o.members) s two_more o.changed)

pub push_member-requires : goal.push_member-requires
push_member-requires c =
    first_fits c.add.new.self c.reserve.new.self c.in_ok-again.again _ c.in_ok-again.ensures.added.is c.in_ok-reserve.ensures.ok

pub push_member-requires-2 : goal.push_member-requires-2
push_member-requires-2 c =
    second_fits c.add.new.self c.reserve.new.self c.in_ok-again.again _ c.in_ok-again.ensures.added.is c.in_ok-reserve.ensures.ok
    c.push_member.new.self 9 c.push_member.ensures

pub order_members-requires : goal.order_members-requires
order_members-requires c =
    is_there c.add.new.self c.reserve.new.self c.in_ok-again.again _ c.in_ok-again.ensures.added.is c.in_ok-reserve.ensures.ok
    c.push_member.new.self 9 c.push_member.ensures c.push_member-2.new.self 4 c.push_member-2.ensures

pub members-requires-2 : goal.members-requires-2
members-requires-2 c =
    is_ordered c.add.new.self c.reserve.new.self c.in_ok-again.again _ c.in_ok-again.ensures.added.is c.in_ok-reserve.ensures.ok
    c.push_member.new.self 9 c.push_member.ensures c.push_member-2.new.self 4 c.push_member-2.ensures c.order_members.new.self c.order_members.ensures
