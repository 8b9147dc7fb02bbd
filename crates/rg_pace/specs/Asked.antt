-- What a pacer tells of itself, and how an ask and a tuning change it (docs/architecture.md, "Pacers").
use Rattle.std.specs.Prelude.{ℕ, ◌+◌, ◌-◌, ◌^◌, Bool, if◌then◌else◌, nat_lt}
use Rattle.rg_base.specs.declared.event.Census.{Census}

-- one more; the greatest u64 stays
abbrev pub one_more : ℕ → ℕ
one_more n = if nat_lt n (2 ^ 64 - 1) then n + 1 else n

-- how often it was asked, how often it said yes, what it was told last, and the number that it was tuned to
pub record Asked : Type 0 where
  pub asks : ℕ
  pub yeses : ℕ
  pub told : Census
  pub tuned : ℕ

-- nothing was asked, told or tuned
abbrev pub never_asked : Asked
never_asked = record { asks = 0; yeses = 0; told = record { held = 0; since = 0 }; tuned = 0 }

-- it was tuned to that number
abbrev pub with_tune : Asked → ℕ → Asked
with_tune a every = record a { tuned = every }

-- it was asked with that census, and gave that answer
abbrev pub with_ask : Asked → Census → Bool → Asked
with_ask a census answer = record a { asks = one_more a.asks; yeses = if answer then one_more a.yeses else a.yeses; told = census }
