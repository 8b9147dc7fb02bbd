-- What one step of the lexer reads (docs/language.md, "Tokens").
use Rattle.std.specs.Prelude.{ℕ, List, Option, Some, None, Result, Ok, Err}
use Rattle.rg_base.specs.declared.words.Sign.{Sign}
use Rattle.rg_base.specs.declared.token.Kind.{Kind}
use Rattle.rg_base.specs.declared.token.Kind.TheVariants as k
use Rattle.rg_base.specs.declared.fault.Code.{Code}
use Rattle.rg_base.specs.declared.fault.Code.TheVariants as code
use Rattle.rg_base.specs.Pieces.{front}
use Rattle.rg_base.specs.Tokens.{read_front}
use Rattle.rg_lex.specs.declared.piece.Front.{Front}

-- what so many bytes are to the reader
abbrev pub with_length : ℕ → Result (Option Kind) Code → Result Front Code
with_length n (Ok kind) = Ok (record { kind = kind; len = n })
with_length n (Err c) = Err c

-- what the piece that begins the bytes is to the reader
abbrev pub front_of : List ℕ → Result Front Code
front_of bytes = with_length (front bytes) (read_front (front bytes) bytes)

-- a sign of one byte, or a byte of no piece
abbrev pub marked : Option Sign → Result Front Code
marked (Some s) = Ok (record { kind = Some (k.Mark s); len = 1 })
marked None = Err code.Byte
