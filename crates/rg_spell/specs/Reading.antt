-- Parts of a module, read from the front of bytes: a part and the bytes behind it, or nothing where no such part begins them
-- (docs/architecture.md, "Modules"). What is read is what was spelled (Laws).
use Rattle.std.specs.Prelude.{◌≡◌, ℕ, zero, suc, ℤ, nat_lt, ◌==◌, Bool as Truth, false, true, if◌then◌else◌, List, [], ◌∷◌, length, take, drop}
use Rattle.std.specs.Prelude.{slice_get, Option, Some, None, Result, Ok, Err}
use Rattle.std.specs.Int.{Width, w32, w64, byte_len, from_be_bytes, cast_signed}
use Rattle.rg_base.specs.declared.words.Cap.{Cap}
use Rattle.rg_base.specs.declared.words.Cap.TheVariants as cap
use Rattle.rg_base.specs.declared.words.Manager.{Manager}
use Rattle.rg_base.specs.declared.words.Manager.TheVariants as managers
use Rattle.rg_base.specs.declared.ty.Ty.{Ty}
use Rattle.rg_base.specs.declared.ty.Ty.TheVariants as ty
use Rattle.rg_code.specs.declared.op.Op.{Op}
use Rattle.rg_code.specs.declared.operands.Operand.{Operand}
use Rattle.rg_code.specs.declared.operands.Operand.TheVariants as p
use Rattle.rg_code.specs.Operands.{operands_of}
use Rattle.rg_code.specs.Places.{is_mark}
use Rattle.rg_spell.specs.declared.refusal.Refusal.{Refusal}
use Rattle.rg_spell.specs.declared.refusal.Refusal.TheVariants as refusal
use Rattle.rg_spell.specs.declared.makings.TheConstants.{BLANKS}
use Rattle.rg_spell.specs.declared.rows.Shape.{Shape}
use Rattle.rg_spell.specs.declared.rows.Head.{Head}
use Rattle.rg_spell.specs.Makings.{with_operands}

infixl 10 ◌>>=◌
abbrev pub ◌>>=◌ : {A B : Type 0} → Option A → (A → Option B) → Option B
(Some x) >>= f = f x
None >>= f = None

-- what a function found, seen by view, is what reading gives
abbrev pub Finds : {X Y : Type 0} → (X → Y) → Option X → Option Y → Type 0
Finds view (Some x) read = read ≡ Some (view x)
Finds view None read = read ≡ None

-- the same, unless there was no memory
abbrev pub Fails : {Y : Type 0} → Refusal → Option Y → Type 0
Fails refusal.NotSpelt read = read ≡ None
Fails refusal.Memory read = Unit {0}

abbrev pub Gives : {X Y : Type 0} → (X → Y) → Result X Refusal → Option Y → Type 0
Gives view (Ok x) read = read ≡ Some (view x)
Gives view (Err e) read = Fails e read

-- Numbers

abbrev pub number_at : Width → List ℕ → Option (ℕ × List ℕ)
number_at w bytes = if nat_lt (length bytes) (byte_len w) then None else Some (from_be_bytes w (take (byte_len w) bytes), drop (byte_len w) bytes)

abbrev pub byte_at : List ℕ → Option (ℕ × List ℕ)
byte_at [] = None
byte_at (b ∷ bytes) = Some (b, bytes)

unfoldable pub signed_at : List ℕ → Option (ℤ × List ℕ)
signed_at bytes = do
  n ← number_at w64 bytes
  Some (cast_signed w64 n.0, n.1)

unfoldable pub slot_at : List ℕ → Option (ℕ × List ℕ)
slot_at bytes = do
  n ← number_at w32 bytes
  if nat_lt 256 n.0 then None else Some n

abbrev pub bool_of : ℕ → Option Truth
bool_of n = if n == 0 then Some false else if n == 1 then Some true else None

unfoldable pub bool_at : List ℕ → Option (Truth × List ℕ)
bool_at bytes = do
  n ← byte_at bytes
  b ← bool_of n.0
  Some (b, n.1)

-- so many parts, one behind the other
unfoldable pub many_at : {A : Type 0} → (List ℕ → Option (A × List ℕ)) → (count : ℕ) → List ℕ → Option (List A × List ℕ)
many_at part zero bytes = Some ([], bytes)
many_at part (suc n) bytes = do
  first ← part bytes
  others ← many_at part n first.1
  Some (first.0 ∷ others.0, others.1)

-- a count of parts, and the parts
unfoldable pub counted_at : {A : Type 0} → (List ℕ → Option (A × List ℕ)) → List ℕ → Option (List A × List ℕ)
counted_at part bytes = do
  n ← number_at w32 bytes
  many_at part n.0 n.1

-- Managers, types, classes, methods

abbrev pub manager_of : ℕ → Option Manager
manager_of n = if n == 0 then Some managers.Arena else if n == 1 then Some managers.Count else if n == 2 then Some managers.Trace else None

unfoldable pub manager_at : List ℕ → Option (Manager × List ℕ)
manager_at bytes = do
  n ← byte_at bytes
  m ← manager_of n.0
  Some (m, n.1)

abbrev pub cap_of : ℕ → Option Cap
cap_of n =
    if n == 2 then Some cap.Mut else if n == 3 then Some cap.Tmp else if n == 4 then Some cap.Paused else
    if n == 5 then Some cap.Imm else if n == 6 then Some cap.Iso else None

-- a reference, behind its first byte
unfoldable pub ref_at : ℕ → List ℕ → Option (Ty × List ℕ)
ref_at n bytes = do
  k ← cap_of n
  c ← number_at w32 bytes
  Some (ty.Ref k c.0, c.1)

-- a type, behind its first byte
unfoldable pub ty_behind : ℕ → List ℕ → Option (Ty × List ℕ)
ty_behind n bytes = if n == 0 then Some (ty.Int, bytes) else if n == 1 then Some (ty.Bool, bytes) else ref_at n bytes

unfoldable pub ty_at : List ℕ → Option (Ty × List ℕ)
ty_at bytes = do
  n ← byte_at bytes
  ty_behind n.0 n.1

-- the fields of a class, or the elements of an array class
unfoldable pub members_at : (is_tmp is_array : Truth) → List ℕ → Option (Shape × List ℕ)
members_at is_tmp false bytes = do
  fields ← counted_at ty_at bytes
  Some (record { is_tmp = is_tmp; fields = fields.0; element = None }, fields.1)
members_at is_tmp true bytes = do
  element ← ty_at bytes
  Some (record { is_tmp = is_tmp; fields = []; element = Some element.0 }, element.1)

unfoldable pub shape_at : List ℕ → Option (Shape × List ℕ)
shape_at bytes = do
  is_tmp ← bool_at bytes
  is_array ← bool_at is_tmp.1
  members_at is_tmp.0 is_array.0 is_array.1

unfoldable pub cap_at : List ℕ → Option (Cap × List ℕ)
cap_at bytes = do
  n ← byte_at bytes
  k ← cap_of n.0
  Some (k, n.1)

-- the result of a method, behind the byte that says whether there is one
unfoldable pub result_behind : (has : Truth) → List ℕ → Option (Option Ty × List ℕ)
result_behind false bytes = Some (None, bytes)
result_behind true bytes = do
  t ← ty_at bytes
  Some (Some t.0, t.1)

unfoldable pub result_at : List ℕ → Option (Option Ty × List ℕ)
result_at bytes = do
  has ← bool_at bytes
  result_behind has.0 has.1

unfoldable pub head_at : List ℕ → Option (Head × List ℕ)
head_at bytes = do
  class ← number_at w32 bytes
  cap ← cap_at class.1
  params ← counted_at ty_at cap.1
  result ← result_at params.1
  Some (record { class = class.0; cap = cap.0; params = params.0; result = result.0 }, result.1)

-- Instructions

-- an operand of the kind of a given one
unfoldable pub operand_at : Operand → List ℕ → Option (Operand × List ℕ)
operand_at (p.Line n) bytes = do
  x ← number_at w64 bytes
  Some (p.Line x.0, x.1)
operand_at (p.Int z) bytes = do
  x ← signed_at bytes
  Some (p.Int x.0, x.1)
operand_at (p.Bool b) bytes = do
  x ← bool_at bytes
  Some (p.Bool x.0, x.1)
operand_at (p.Slot s) bytes = do
  x ← slot_at bytes
  Some (p.Slot x.0, x.1)
operand_at (p.From s) bytes = do
  x ← slot_at bytes
  Some (p.From x.0, x.1)
operand_at (p.Field k) bytes = do
  x ← number_at w32 bytes
  Some (p.Field x.0, x.1)
operand_at (p.Class c) bytes = do
  x ← number_at w32 bytes
  Some (p.Class x.0, x.1)
operand_at (p.Method m) bytes = do
  x ← number_at w32 bytes
  Some (p.Method x.0, x.1)
operand_at (p.Address t) bytes = do
  x ← number_at w32 bytes
  Some (p.Address x.0, x.1)
operand_at (p.Manager m) bytes = do
  x ← manager_at bytes
  Some (p.Manager x.0, x.1)

-- operands of the kinds of given ones
unfoldable pub operands_at : List Operand → List ℕ → Option (List Operand × List ℕ)
operands_at [] bytes = Some ([], bytes)
operands_at (a ∷ ps) bytes = do
  first ← operand_at a bytes
  others ← operands_at ps first.1
  Some (first.0 ∷ others.0, others.1)

unfoldable pub op_at : List ℕ → Option (Op × List ℕ)
op_at bytes = do
  n ← byte_at bytes
  o ← slice_get BLANKS n.0
  ps ← operands_at (operands_of o) n.1
  Some (with_operands o ps.0, ps.1)

-- the map of a mark, and nothing behind any other instruction
unfoldable pub map_at : (mark : Truth) → List ℕ → Option (List Ty × List ℕ)
map_at true bytes = counted_at ty_at bytes
map_at false bytes = Some ([], bytes)

unfoldable pub row_at : List ℕ → Option ((Op × List Ty) × List ℕ)
row_at bytes = do
  o ← op_at bytes
  ts ← map_at (is_mark (Some o.0)) o.1
  Some ((o.0, ts.0), ts.1)
