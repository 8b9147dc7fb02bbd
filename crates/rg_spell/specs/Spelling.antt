-- The bytes of each part of a module (docs/architecture.md, "Modules"). Numbers have the greatest byte first.
use Rattle.std.specs.Prelude.{◌≡◌, ◌<◌, ◌≤◌, ◌^◌, ℕ, ℤ, Bool as Truth, false, true, List, [], ◌∷◌, ◌++◌, length, Option, Some, None}
use Rattle.std.specs.List.{flat_map, AllByRecursion}
use Rattle.std.specs.Int.{w32, w64, to_be_bytes, cast_unsigned}
use Rattle.std.specs.Int.RustNames.{FitsSigned}
use Rattle.rg_base.specs.declared.words.Cap.{Cap}
use Rattle.rg_base.specs.declared.words.Cap.TheVariants as cap
use Rattle.rg_base.specs.declared.words.Manager.{Manager}
use Rattle.rg_base.specs.declared.words.Manager.TheVariants as managers
use Rattle.rg_base.specs.declared.ty.Ty.{Ty}
use Rattle.rg_base.specs.declared.ty.Ty.TheVariants as ty
use Rattle.rg_code.specs.declared.op.Op.{Op}
use Rattle.rg_code.specs.declared.operands.Operand.{Operand}
use Rattle.rg_code.specs.declared.operands.Operand.TheVariants as p
use Rattle.rg_code.specs.Operands.{number_of, operands_of}
use Rattle.rg_code.specs.Places.{is_mark}
use Rattle.rg_spell.specs.declared.rows.Shape.{Shape}
use Rattle.rg_spell.specs.declared.rows.Head.{Head}

-- Numbers

-- of four bytes
abbrev pub four : ℕ → List ℕ
four n = to_be_bytes w32 n

-- of eight bytes
abbrev pub eight : ℕ → List ℕ
eight n = to_be_bytes w64 n

-- a number with a sign, in two's complement
abbrev pub signed : ℤ → List ℕ
signed z = to_be_bytes w64 (cast_unsigned w64 z)

-- a truth value
abbrev pub bool_number : Truth → ℕ
bool_number false = 0
bool_number true = 1

-- a count of parts, and the parts
abbrev pub counted : {A : Type 0} → (A → List ℕ) → List A → List ℕ
counted part xs = four (length xs) ++ flat_map part xs

-- parts that have a spelling, so many that their count has one
abbrev pub Counted : {A : Type 0} → (A → Type 0) → List A → Type 0
Counted Fits xs = (length xs < 2 ^ 32) × AllByRecursion Fits xs

-- Managers, types, classes, methods

abbrev pub manager_number : Manager → ℕ
manager_number managers.Arena = 0
manager_number managers.Count = 1
manager_number managers.Trace = 2

abbrev pub cap_number : Cap → ℕ
cap_number cap.Mut = 2
cap_number cap.Tmp = 3
cap_number cap.Paused = 4
cap_number cap.Imm = 5
cap_number cap.Iso = 6

-- a type
abbrev pub ty_bytes : Ty → List ℕ
ty_bytes ty.Int = 0 ∷ []
ty_bytes ty.Bool = 1 ∷ []
ty_bytes (ty.Ref k c) = cap_number k ∷ four c

abbrev pub FitsTy : Ty → Type 0
FitsTy ty.Int = Unit {0}
FitsTy ty.Bool = Unit {0}
FitsTy (ty.Ref k c) = c < 2 ^ 32

-- the fields of a class, or the elements of an array class
abbrev pub members_bytes : (fields : List Ty) → (element : Option Ty) → List ℕ
members_bytes fields None = 0 ∷ counted ty_bytes fields
members_bytes fields (Some t) = 1 ∷ ty_bytes t

abbrev pub FitsMembers : (fields : List Ty) → (element : Option Ty) → Type 0
FitsMembers fields None = Counted FitsTy fields
FitsMembers fields (Some t) = (fields ≡ []) × FitsTy t

-- a class
abbrev pub shape_bytes : Shape → List ℕ
shape_bytes s = bool_number s.is_tmp ∷ members_bytes s.fields s.element

abbrev pub FitsShape : Shape → Type 0
FitsShape s = FitsMembers s.fields s.element

-- the result of a method
abbrev pub result_bytes : Option Ty → List ℕ
result_bytes None = 0 ∷ []
result_bytes (Some t) = 1 ∷ ty_bytes t

abbrev pub FitsResult : Option Ty → Type 0
FitsResult None = Unit {0}
FitsResult (Some t) = FitsTy t

-- the head of a method
abbrev pub head_bytes : Head → List ℕ
head_bytes h = four h.class ++ cap_number h.cap ∷ (counted ty_bytes h.params ++ result_bytes h.result)

pub record FitsHead (h : Head) : Type 0 where
  pub class : h.class < 2 ^ 32
  pub params : Counted FitsTy h.params
  pub result : FitsResult h.result

-- Instructions

abbrev pub operand_bytes : Operand → List ℕ
operand_bytes (p.Line n) = eight n
operand_bytes (p.Int z) = signed z
operand_bytes (p.Bool b) = bool_number b ∷ []
operand_bytes (p.Slot s) = four s
operand_bytes (p.From s) = four s
operand_bytes (p.Field k) = four k
operand_bytes (p.Class c) = four c
operand_bytes (p.Method m) = four m
operand_bytes (p.Address t) = four t
operand_bytes (p.Manager m) = manager_number m ∷ []

abbrev pub FitsOperand : Operand → Type 0
FitsOperand (p.Line n) = n < 2 ^ 64
FitsOperand (p.Int z) = FitsSigned w64 z
FitsOperand (p.Bool b) = Unit {0}
FitsOperand (p.Slot s) = s ≤ 256
FitsOperand (p.From s) = s ≤ 256
FitsOperand (p.Field k) = k < 2 ^ 32
FitsOperand (p.Class c) = c < 2 ^ 32
FitsOperand (p.Method m) = m < 2 ^ 32
FitsOperand (p.Address t) = t < 2 ^ 32
FitsOperand (p.Manager m) = Unit {0}

-- an instruction
abbrev pub op_bytes : Op → List ℕ
op_bytes o = number_of o ∷ flat_map operand_bytes (operands_of o)

abbrev pub FitsOp : Op → Type 0
FitsOp o = AllByRecursion FitsOperand (operands_of o)

-- what stands behind an instruction: the map of a mark, nothing behind any other
abbrev pub map_bytes : (mark : Truth) → List Ty → List ℕ
map_bytes true ts = counted ty_bytes ts
map_bytes false ts = []

abbrev pub FitsMap : (mark : Truth) → List Ty → Type 0
FitsMap true ts = Counted FitsTy ts
FitsMap false ts = ts ≡ []

-- an instruction and its map
abbrev pub row_bytes : Op × List Ty → List ℕ
row_bytes r = op_bytes r.0 ++ map_bytes (is_mark (Some r.0)) r.1

abbrev pub FitsRow : Op × List Ty → Type 0
FitsRow r = FitsOp r.0 × FitsMap (is_mark (Some r.0)) r.1

-- Where no memory is found

-- a prefix of these bytes came behind the old ones, which stay
pub record AppendsPart (old new bytes : List ℕ) : Type 0 where
  pub part : List ℕ
  pub rest : List ℕ
  pub bytes_are : bytes ≡ part ++ rest
  pub new_is : new ≡ old ++ part
