-- Members of one region are dropped one by one (docs/architecture.md, "Regions").
use Rattle.std.specs.Prelude.{◌≡◌, ◌≢◌, ℕ, List, Some}
use Rattle.rg_regions.specs.Table.{Record, RegionTable, record_at}

-- Of one region the members may have changed, with what is said of its number and of those that are left; of the table
-- nothing else has changed.
pub record MembersLeft (t : RegionTable) (key : ℕ) (P : (number : ℕ) → (members : List ℕ) → Type 0)
    (regions : RegionTable) : Type 0 where
  pub links : regions.links ≡ t.links
  pub next : regions.next ≡ t.next
  pub others : (k : ℕ) → k ≢ key → record_at regions k ≡ record_at t k
  pub left : (r : Record) → record_at t key ≡ Some r → (now : Record) × (record_at regions key ≡ Some now)
      × (now.number ≡ r.number) × (now.manager ≡ r.manager) × (now.bridge ≡ r.bridge) × P r.number now.members
