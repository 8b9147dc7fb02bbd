-- Members that move to another record, and the first fields that are counted (docs/architecture.md, "Freeze and merge").
use Rattle.std.specs.Prelude.{◌≡◌, ◌≢◌, ℕ, ◌-◌, ◌≤◌, ◌++◌, List, length, Some, None, Option, take, count_by}
use Rattle.rg_cells.specs.declared.cell.Body.{Body}
use Rattle.rg_regions.specs.Table.{Record, RegionTable, record_at}
use Rattle.rg_regions.specs.Grove.{leads_to}

-- the first members of the one record stand behind those of the other, which has room for all
pub record PushedFirst (old : RegionTable) (from into : ℕ) (a b : Record) (i : ℕ) (new : RegionTable) : Type 0 where
  pub pushed : record_at new into ≡ Some (record b { members = b.members ++ take i a.members; room = b.room - i })
  pub others : (k : ℕ) → k ≢ into → record_at new k ≡ record_at old k
  pub links : new.links ≡ old.links
  pub next : new.next ≡ old.next

-- two records, the second of which has room for the members of the first
pub record HasRoomToMove (t : RegionTable) (from into : ℕ) : Type 0 where
  pub one : Record
  pub other : Record
  pub at : record_at t from ≡ Some one
  pub to : record_at t into ≡ Some other
  pub differ : from ≢ into
  pub room : length one.members ≤ other.room

-- the number of the first fields of a body that lead to a slot
abbrev pub led_first : (slot : ℕ) → Option Body → (k : ℕ) → ℕ
led_first x None k = 0
led_first x (Some b) k = count_by (leads_to x) (take k b.fields)
