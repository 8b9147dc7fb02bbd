-- Two tables of regions whose records have the same numbers, managers and bridges at the same keys (docs/architecture.md,
-- "The heap").
use Rattle.std.proofs.Common.{◌≡◌, ℕ, Some, sym, ◌∙◌}
use Rattle.rg_regions.specs.Table.{Record, RegionTable, record_at, HasNumber, IsBridge}
use Rattle.rg_regions.proofs.Callers.Told.{number_of, record_there}

-- two records have the same number, manager and bridge
pub record IsKin (a b : Record) : Type 0 where
  pub number : a.number ≡ b.number
  pub manager : a.manager ≡ b.manager
  pub bridge : a.bridge ≡ b.bridge

-- so numbers and bridges are the same in both
pub record Kin (t regions : RegionTable) : Type 0 where
  pub number_back : (k n : ℕ) → HasNumber regions k n → HasNumber t k n
  pub number_on : (k n : ℕ) → HasNumber t k n → HasNumber regions k n
  pub bridge_on : (q s : ℕ) → IsBridge t q s → IsBridge regions q s

pub kin_of : (t regions : RegionTable)
    → ((k : ℕ) (z : Record) → record_at regions k ≡ Some z → (y : Record) × (record_at t k ≡ Some y) × IsKin y z)
    → ((k : ℕ) (y : Record) → record_at t k ≡ Some y → (z : Record) × (record_at regions k ≡ Some z) × IsKin y z)
    → Kin t regions
kin_of t regions back on = record {
  number_back = λ k n a.
      let z = record_there (record_at regions k) n a in
      let y = back k z.0 z.1 in
      number_of t k n y.0 y.1 (y.2.number ∙ z.2);
  number_on = λ k n a.
      let y = record_there (record_at t k) n a in
      let z = on k y.0 y.1 in
      number_of regions k n z.0 z.1 (sym z.2.number ∙ y.2);
  bridge_on = λ q s v.
      let z = on v.0 v.1 v.2 in
      (v.0, z.0, z.1, sym z.2.number ∙ v.3, sym z.2.bridge ∙ v.4);
}
