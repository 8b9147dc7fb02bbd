-- The numbers of regions (docs/architecture.md, "Regions").
use Rattle.std.specs.Prelude.{◌≡◌, ◌≢◌, ◌<◌, ℕ, Option, None, Some, IsSome}
use Rattle.rg_regions.specs.Table.{Record, RegionTable, record_at}

-- they are below the next one, and differ
pub record Numbers (t : RegionTable) : Type 0 where
  pub below : (key : ℕ) (r : Record) → record_at t key ≡ Some r → r.number < t.next
  pub differ : (key other : ℕ) (r u : Record) → record_at t key ≡ Some r → record_at t other ≡ Some u → r.number ≡ u.number → key ≡ other

-- a region has a bridge, but for region 0, which has none
abbrev pub Bridged : (number : ℕ) → (bridge : Option ℕ) → Type 0
Bridged n bridge = (n ≢ 0 → IsSome bridge) × (n ≡ 0 → bridge ≡ None)

abbrev pub HasBridges : RegionTable → Type 0
HasBridges t = (key : ℕ) (r : Record) → record_at t key ≡ Some r → Bridged r.number r.bridge
