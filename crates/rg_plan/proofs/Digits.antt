-- The values of at most four digits.
use Rattle.std.proofs.Common.{ℕ, zero, suc, ◌+◌, ◌*◌, ◌<◌, ◌≤◌, arith}

-- the greatest value in front of so many digits more
abbrev pub most : ℕ → ℕ
most zero = 9999
most (suc zero) = 999
most (suc (suc zero)) = 99
most (suc (suc (suc zero))) = 9
most (suc (suc (suc (suc n)))) = 0

pub most-step : (k v d : ℕ) → k < 4 → v ≤ most (suc k) → d ≤ 9 → v * 10 + d ≤ most k
most-step zero v d l h g = omega arith
most-step (suc zero) v d l h g = omega arith
most-step (suc (suc zero)) v d l h g = omega arith
most-step (suc (suc (suc zero))) v d l h g = omega arith
most-step (suc (suc (suc (suc k)))) v d l h g = absurd (omega arith)

pub most-least : (k : ℕ) → most k ≤ 9999
most-least zero = omega arith
most-least (suc zero) = omega arith
most-least (suc (suc zero)) = omega arith
most-least (suc (suc (suc zero))) = omega arith
most-least (suc (suc (suc (suc k)))) = omega arith
