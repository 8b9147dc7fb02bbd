-- The brackets of a text that are open together (docs/language.md, "Limits").
use Rattle.std.specs.Prelude.{ℕ, ◌+◌, ◌-◌, ◌==◌, max, Bool, ◌||◌, if◌then◌else◌, List, [], ◌∷◌}

-- whether a byte is `{`, `(` or `[`
abbrev pub opens : ℕ → Bool
opens b = b == 123 || b == 40 || b == 91

-- whether a byte is `}`, `)` or `]`
abbrev pub closes : ℕ → Bool
closes b = b == 125 || b == 41 || b == 93

-- how many are open behind a byte, where n are in front of it
abbrev pub open_behind : ℕ → (n : ℕ) → ℕ
open_behind b n = if opens b then n + 1 else (if closes b then n - 1 else n)

-- the most that are open together from a place of a text on, at which n are
abbrev pub most_open_from : (n : ℕ) → List ℕ → ℕ
most_open_from n [] = n
most_open_from n (b ∷ bs) = max n (most_open_from (open_behind b n) bs)

-- the most that are open together in a text
abbrev pub most_open : List ℕ → ℕ
most_open text = most_open_from 0 text
