-- The next number of an input: blanks are skipped, and the run of other bytes behind them is its token (docs/language.md, "Input numbers").
use Rattle.std.specs.Prelude.{ℕ, zero, suc, ◌+◌, ◌^◌, ℤ, pos, negsuc, neg_ℤ, Bool, not, ◌==◌, nat_lt, if◌then◌else◌, List, [], ◌∷◌, length}
use Rattle.std.specs.Prelude.{take_while, drop, Option, Some, None, option_map, option_and_then}
use Rattle.std.specs.List.{list_all}
use Rattle.rg_base.specs.declared.limits.TheConstants.{INPUT_BLANKS, INPUT_TOKEN}
use Rattle.rg_base.specs.Pieces.{is_blank, is_digit}
use Rattle.rg_base.specs.Tokens.{value_of}

-- what the next number is: a number with the bytes behind it, no number, or none left
pub data NextNumber : Type 0 where
  found : ℤ → List ℕ → NextNumber
  malformed : NextNumber
  at_end : NextNumber

-- whether an integer is one of 64 bits
abbrev pub in_range : ℤ → Bool
in_range (pos n) = nat_lt n (2 ^ 63)
in_range (negsuc n) = nat_lt n (2 ^ 63)

-- the bytes behind at most so many blanks
abbrev pub skip_blanks : ℕ → List ℕ → List ℕ
skip_blanks zero bytes = bytes
skip_blanks (suc n) [] = []
skip_blanks (suc n) (b ∷ bytes) = if is_blank b then skip_blanks n bytes else b ∷ bytes

-- the number that one or more digits write
abbrev pub digits_number : List ℕ → Option ℕ
digits_number [] = None
digits_number (b ∷ bytes) = if list_all is_digit (b ∷ bytes) then Some (value_of (b ∷ bytes)) else None

-- the number that digits write behind an optional minus
abbrev pub signed_number : List ℕ → Option ℤ
signed_number [] = None
signed_number (b ∷ bytes) = if b == 45 then option_map (λ n. neg_ℤ (pos n)) (digits_number bytes) else option_map pos (digits_number (b ∷ bytes))

-- an integer of 64 bits
abbrev pub ranged : ℤ → Option ℤ
ranged z = if in_range z then Some z else None

-- the number that a token is
abbrev pub token_number : List ℕ → Option ℤ
token_number token = if nat_lt (length token) (INPUT_TOKEN + 1) then option_and_then ranged (signed_number token) else None

-- a number with the bytes behind its token, or no number
abbrev pub found_or_malformed : List ℕ → Option ℤ → NextNumber
found_or_malformed rest (Some z) = found z rest
found_or_malformed rest None = malformed

-- what a token in front of other bytes is
abbrev pub of_token : List ℕ → List ℕ → NextNumber
of_token token bytes = found_or_malformed (drop (length token) bytes) (token_number token)

-- what stands behind the blanks that are skipped: another blank is no number
abbrev pub behind_blanks : List ℕ → NextNumber
behind_blanks [] = at_end
behind_blanks (b ∷ bytes) = if is_blank b then malformed else of_token (take_while (λ c. not (is_blank c)) (b ∷ bytes)) (b ∷ bytes)

-- the next number of an input
abbrev pub next_number : List ℕ → NextNumber
next_number bytes = behind_blanks (skip_blanks INPUT_BLANKS bytes)
