-- The two laws of a part that is spelled and read: what is read was spelled, and what is spelled is read, whatever stands behind it
-- (docs/architecture.md, "Modules").
use Rattle.std.specs.Prelude.{◌≡◌, ◌<◌, ◌^◌, ℕ, List, [], ◌∷◌, ◌++◌, get_or, Option, Some}
use Rattle.std.specs.Int.{w32}
use Rattle.rg_spell.specs.Spelling.{four, manager_number, counted, Counted, shape_bytes, FitsShape, head_bytes, FitsHead, row_bytes, FitsRow}
use Rattle.rg_code.specs.declared.op.Op.{Op}
use Rattle.rg_code.specs.Operands.{number_of, operands_of}
use Rattle.rg_spell.specs.Makings.{of_parts}
use Rattle.rg_spell.specs.Reading.{number_at, manager_at, counted_at, shape_at, head_at, row_at}

-- a list of bytes
abbrev pub IsBytes : List ℕ → Type 0
IsBytes bytes = (i : ℕ) → get_or bytes i 0 < 256

-- bytes that begin with a text, and what is behind it
pub record Takes (bytes text rest : List ℕ) : Type 0 where
  pub parts : bytes ≡ text ++ rest
  pub rest_fits : IsBytes rest

-- the two laws of a part
pub record Reads {A : Type 0} (reader : List ℕ → Option (A × List ℕ)) (text : A → List ℕ) (Fits : A → Type 0) : Type 0 where
  pub takes : (bytes : List ℕ) (x : A × List ℕ) → IsBytes bytes → reader bytes ≡ Some x → Takes bytes (text x.0) x.1 × Fits x.0
  pub again : (a : A) (rest : List ℕ) → Fits a → reader (text a ++ rest) ≡ Some (a, rest)

-- they hold of each part of which a module consists
pub record AreReadBack : Type 0 where
  pub counts : Reads (number_at w32) four (λ n. n < 2 ^ 32)
  pub managers : Reads manager_at (λ m. manager_number m ∷ []) (λ m. Unit {0})
  pub classes : Reads (counted_at shape_at) (counted shape_bytes) (Counted FitsShape)
  pub heads : Reads (counted_at head_at) (counted head_bytes) (Counted FitsHead)
  pub rows : Reads (counted_at row_at) (counted row_bytes) (Counted FitsRow)
  -- an instruction is the one that its number and its operands make
  pub parts : (o : Op) → of_parts (number_of o) (operands_of o) ≡ Some o
