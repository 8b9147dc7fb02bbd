-- What one piece of a source is: a blank, a comment, a name or reserved word, a number, a sign (docs/language.md, "Tokens").
use Rattle.std.specs.Prelude.{ℕ, zero, suc, ◌==◌, Bool, true, false, not, ◌&&◌, ◌||◌, if◌then◌else◌, nat_le, List, [], ◌∷◌, length, take, Option}
use Rattle.std.specs.Prelude.{Some, None, is_some, option_map}
use Rattle.std.specs.List.{list_all}
use Rattle.rg_base.specs.declared.words.Sign.{Sign}
use Rattle.rg_base.specs.Words.{sign_of}

-- a space, a tab, the end of a line, a carriage return
abbrev pub is_blank : ℕ → Bool
is_blank b = b == 32 || b == 9 || b == 10 || b == 13

-- 0 to 9
abbrev pub is_digit : ℕ → Bool
is_digit b = nat_le 48 b && nat_le b 57

-- A to Z, a to z, and _
abbrev pub is_letter : ℕ → Bool
is_letter b = nat_le 65 b && nat_le b 90 || nat_le 97 b && nat_le b 122 || b == 95

-- what stands in a name behind its first byte
abbrev pub is_in_name : ℕ → Bool
is_in_name b = is_letter b || is_digit b

-- what stands in a comment
abbrev pub is_in_comment : ℕ → Bool
is_in_comment b = not (b == 10)

-- the kinds of pieces; a reserved word is a name here
pub data Piece : Type 0 where
  blank : Piece
  comment : Piece
  name : Piece
  number : Piece
  sign : Sign → Piece

-- a piece under a condition
abbrev pub only_if : Bool → Piece → Option Piece
only_if true p = Some p
only_if false p = None

-- no bytes
abbrev pub is_empty : List ℕ → Bool
is_empty [] = true
is_empty (b ∷ bs) = false

-- two slashes, and no end of a line behind them
abbrev pub is_comment : List ℕ → Bool
is_comment (a ∷ b ∷ bs) = a == 47 && b == 47 && list_all is_in_comment bs
is_comment (a ∷ []) = false
is_comment [] = false

-- the kind of a text that is one piece whole
abbrev pub piece_of : List ℕ → Option Piece
piece_of [] = None
piece_of (b ∷ bs) =
    if is_blank b then only_if (is_empty bs) blank else
    if is_letter b then only_if (list_all is_in_name bs) name else
    if is_digit b then only_if (list_all is_digit bs) number else
    if is_comment (b ∷ bs) then Some comment else option_map sign (sign_of (b ∷ bs))

-- the greatest length up to n of a front that is one piece; 0 where there is none
abbrev pub longest : List ℕ → ℕ → ℕ
longest bytes zero = 0
longest bytes (suc n) = if is_some (piece_of (take (suc n) bytes)) then suc n else longest bytes n

-- the length of the piece that begins the bytes: it is as long as can be
unfoldable pub front : List ℕ → ℕ
front bytes = longest bytes (length bytes)
