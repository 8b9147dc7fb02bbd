-- A piece of a file, and what comes of taking it (docs/architecture.md).
use Rattle.std.specs.Prelude.{◌≡◌, ℕ, ◌+◌, ◌<◌, List, ◌++◌, length, Result, Ok, Err}
use Rattle.rg_io.specs.declared.files.Taken.{Taken}

-- a piece came behind the bytes, and so many may still come; it is longer than what might come; no memory was found
abbrev pub AddsPiece : Result ℕ Taken → (old new piece : List ℕ) → (left : ℕ) → Type 0
AddsPiece (Ok now) old new piece left = (new ≡ old ++ piece) × (now + length piece ≡ left)
AddsPiece (Err Taken.Long) old new piece left = left < length piece
AddsPiece (Err Taken.Memory) old new piece left = Unit {0}
AddsPiece (Err Taken.SourceFault) old new piece left = ⊥
