-- The bytes of an input that were read and not taken (docs/language.md, "Input numbers").
use Rattle.std.specs.Prelude.{◌≡◌, ℕ, ◌<◌, Bool, true, false, not, ◌||◌, nat_lt, List, [], ◌∷◌, ◌++◌, length, Option, is_some}
use Rattle.std.specs.List.{list_all, list_any}
use Rattle.std.specs.Option.{ForSome, option_to_list}
use Rattle.rg_base.specs.declared.limits.TheConstants.{INPUT_BLANKS, INPUT_TOKEN}
use Rattle.rg_base.specs.Input.{skip_blanks}
use Rattle.rg_base.specs.Pieces.{is_blank}

-- a byte of a token
abbrev pub is_in_token : ℕ → Bool
is_in_token b = not (is_blank b)

-- blanks, then the bytes of a token, then the blank behind it
pub record IsRead (blanks token : List ℕ) (behind : Option ℕ) : Type 0 where
  pub blanks_alone : list_all is_blank blanks ≡ true
  pub no_blank : list_all is_in_token token ≡ true
  pub behind_a_token : ForSome behind (λ b. (is_blank b ≡ true) × (0 < length token))

-- all that was read
abbrev pub read_bytes : List ℕ → List ℕ → Option ℕ → List ℕ
read_bytes blanks token behind = blanks ++ token ++ option_to_list behind

-- whether a token is over or too long, or there are too many blanks: no more has to be read
abbrev pub is_enough : List ℕ → List ℕ → Option ℕ → Bool
is_enough blanks token behind =
    is_some behind || nat_lt INPUT_BLANKS (length blanks) || nat_lt INPUT_TOKEN (length token)

-- the same of bytes behind blanks that may be skipped
abbrev pub is_whole_behind : List ℕ → Bool
is_whole_behind [] = false
is_whole_behind (b ∷ bytes) = list_any is_blank (b ∷ bytes) || nat_lt INPUT_TOKEN (length (b ∷ bytes))

-- whether bytes say what the next number is, whatever stands behind them
abbrev pub is_whole : List ℕ → Bool
is_whole bytes = is_whole_behind (skip_blanks INPUT_BLANKS bytes)
