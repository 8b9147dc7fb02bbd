-- The tokens of a source, with places and lines, or its first fault (docs/language.md, "Tokens").
use Rattle.std.specs.Prelude.{ℕ, zero, suc, pos, ◌+◌, ◌-◌, ◌*◌, ◌==◌, Bool, true, false, if◌then◌else◌, nat_lt, List, [], ◌∷◌, length, take, drop}
use Rattle.std.specs.Prelude.{Option, Some, None, Result, Ok, Err}
use Rattle.rg_base.specs.declared.words.Keyword.{Keyword}
use Rattle.rg_base.specs.declared.token.Kind.{Kind}
use Rattle.rg_base.specs.declared.token.Kind.TheVariants as k
use Rattle.rg_base.specs.declared.token.Token.{Token}
use Rattle.rg_base.specs.declared.fault.Code.{Code}
use Rattle.rg_base.specs.declared.fault.Code.TheVariants as code
use Rattle.rg_base.specs.declared.fault.Fault.{Fault}
use Rattle.rg_base.specs.declared.limits.TheConstants.{NAME_BYTES, GREATEST_NUMBER}
use Rattle.rg_base.specs.Words.{keyword_of}
use Rattle.rg_base.specs.Pieces.{Piece, blank, comment, name, number, sign, is_letter, piece_of, front}

-- digits read behind a value
abbrev pub value_onto : ℕ → List ℕ → ℕ
value_onto n [] = n
value_onto n (b ∷ bs) = value_onto (n * 10 + (b - 48)) bs

-- the number that digits write
abbrev pub value_of : List ℕ → ℕ
value_of text = value_onto 0 text

-- whether a letter or _ comes first
abbrev pub begins_name : List ℕ → Bool
begins_name [] = false
begins_name (b ∷ bs) = is_letter b

-- a name that is a reserved word is that word
abbrev pub word_or_name : Option Keyword → Kind
word_or_name None = k.Name
word_or_name (Some w) = k.Word w

-- a name of a length, within the limit
abbrev pub name_within : Bool → Kind → Result (Option Kind) Code
name_within true kind = Ok (Some kind)
name_within false kind = Err code.Name

-- a number within its limit, with no letter right behind it
abbrev pub number_within : Bool → Bool → Kind → Result (Option Kind) Code
number_within false letter kind = Err code.Number
number_within true true kind = Err code.Number
number_within true false kind = Ok (Some kind)

-- what a piece with the bytes behind it is to the reader: a token, nothing, or a fault
abbrev pub reading : Option Piece → List ℕ → List ℕ → Result (Option Kind) Code
reading None text after = Err code.Byte
reading (Some blank) text after = Ok None
reading (Some comment) text after = Ok None
reading (Some name) text after = name_within (nat_lt (length text) (NAME_BYTES + 1)) (word_or_name (keyword_of text))
reading (Some number) text after = number_within (nat_lt (value_of text) (GREATEST_NUMBER + 1)) (begins_name after) (k.Number (pos (value_of text)))
reading (Some (sign s)) text after = Ok (Some (k.Mark s))

-- what the first n bytes are to the reader
abbrev pub read_front : ℕ → List ℕ → Result (Option Kind) Code
read_front n bytes = reading (piece_of (take n bytes)) (take n bytes) (drop n bytes)

-- a token in front of those behind it
abbrev pub with_token : Token → Result (List Token) Fault → Result (List Token) Fault
with_token t (Ok ts) = Ok (t ∷ ts)
with_token t (Err e) = Err e

-- what was read of n bytes at a place and a line, in front of what comes behind it
abbrev pub placed : ℕ → ℕ → ℕ → Result (Option Kind) Code → Result (List Token) Fault → Result (List Token) Fault
placed from n line (Err c) rest = Err (record { code = c; line = line })
placed from n line (Ok None) rest = rest
placed from n line (Ok (Some kind)) rest = with_token (record { kind = kind; from = from; to = from + n; line = line }) rest

-- the line behind a byte
abbrev pub line_after : ℕ → ℕ → ℕ
line_after line b = if b == 10 then line + 1 else line

-- The tokens of the bytes from a place and a line on.
-- So many bytes are left of the piece before, and behind them begins the next.
unfoldable pub cut_from : ℕ → ℕ → ℕ → List ℕ → Result (List Token) Fault
cut_from left from line [] = Ok []
cut_from (suc left) from line (b ∷ bs) = cut_from left (suc from) (line_after line b) bs
cut_from zero from line (b ∷ bs) =
    let n = front (b ∷ bs) in
    placed from n line (read_front n (b ∷ bs)) (cut_from (n - 1) (suc from) (line_after line b) bs)

-- the tokens of a source, or its first fault
abbrev pub cut : List ℕ → Result (List Token) Fault
cut bytes = cut_from 0 0 1 bytes

-- the line that bytes lead to
abbrev pub line_behind : ℕ → List ℕ → ℕ
line_behind line [] = line
line_behind line (b ∷ bs) = line_behind (line_after line b) bs

-- the line of the end: one more than the ends of lines
abbrev pub end_line : List ℕ → ℕ
end_line bytes = line_behind 1 bytes
