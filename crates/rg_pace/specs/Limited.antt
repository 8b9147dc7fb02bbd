-- A pacer with a limit on the cells of a region (docs/architecture.md, "Pacers").
use Rattle.std.specs.Prelude.{ℕ, ◌*◌, ◌-◌, ◌^◌, min}
use Rattle.rg_pace.specs.Asked.{Asked}

-- what it was asked, and its limit
pub record Limited : Type 0 where
  pub tally : Asked
  pub limit : ℕ

-- twice as many; at most the greatest u64
abbrev pub doubled : ℕ → ℕ
doubled held = min (2 * held) (2 ^ 64 - 1)
