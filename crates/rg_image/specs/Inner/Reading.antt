-- A content read from the front of bytes, part by part: a part and the bytes behind it, or nothing where no such part begins them.
use Rattle.std.specs.Prelude.{ℕ, nat_lt, ◌==◌, if◌then◌else◌, bytes_eq, codes, List, [], ◌∷◌, ◌++◌, length, take, drop, Option, Some, None}
use Rattle.std.specs.Int.{w32, w64}
use Rattle.rg_base.specs.declared.object.Label.{Label}
use Rattle.rg_base.specs.declared.object.Label.TheVariants.{Region, Frozen}
use Rattle.rg_base.specs.declared.value.Val.{Val}
use Rattle.rg_base.specs.declared.value.Val.TheVariants.{Nil, Int, Bool, Obj}
use Rattle.rg_cown.specs.declared.cargo.CargoCell.{CargoCell}
use Rattle.rg_cown.specs.Cargo.{CargoList}
use Rattle.rg_spell.specs.Reading.{◌>>=◌, number_at, byte_at, signed_at, bool_at, manager_at, many_at}

-- a count of parts; where it is more than there are bytes, there are not so many parts
unfoldable pub count_at : List ℕ → Option (ℕ × List ℕ)
count_at bytes = do
  n ← number_at w64 bytes
  if nat_lt (length n.1) n.0 then None else Some n

-- a count of parts, and the parts
unfoldable pub counted_at : {A : Type 0} → (List ℕ → Option (A × List ℕ)) → List ℕ → Option (List A × List ℕ)
counted_at part bytes = do
  n ← count_at bytes
  many_at part n.0 n.1

-- a value, behind its first byte

unfoldable pub int_at : List ℕ → Option (Val × List ℕ)
int_at bytes = do
  i ← signed_at bytes
  Some (Int i.0, i.1)

unfoldable pub truth_at : List ℕ → Option (Val × List ℕ)
truth_at bytes = do
  b ← bool_at bytes
  Some (Bool b.0, b.1)

unfoldable pub object_at : List ℕ → Option (Val × List ℕ)
object_at bytes = do
  a ← number_at w64 bytes
  Some (Obj a.0, a.1)

unfoldable pub value_behind : ℕ → List ℕ → Option (Val × List ℕ)
value_behind n bytes =
    if n == 0 then Some (Nil, bytes) else if n == 1 then int_at bytes else if n == 2 then truth_at bytes else
    if n == 3 then object_at bytes else None

unfoldable pub value_at : List ℕ → Option (Val × List ℕ)
value_at bytes = do
  n ← byte_at bytes
  value_behind n.0 n.1

-- a label, behind its first byte

unfoldable pub region_at : List ℕ → Option (Label × List ℕ)
region_at bytes = do
  r ← number_at w64 bytes
  Some (Region r.0, r.1)

unfoldable pub label_behind : ℕ → List ℕ → Option (Label × List ℕ)
label_behind n bytes = if n == 0 then region_at bytes else if n == 1 then Some (Frozen, bytes) else None

unfoldable pub label_at : List ℕ → Option (Label × List ℕ)
label_at bytes = do
  n ← byte_at bytes
  label_behind n.0 n.1

-- an object
unfoldable pub cell_at : List ℕ → Option (CargoCell × List ℕ)
cell_at bytes = do
  class ← number_at w32 bytes
  label ← label_at class.1
  fields ← counted_at value_at label.1
  Some (record { class = class.0; label = label.0; fields = fields.0 }, fields.1)

-- an object of a class and with a label, with the values that are read
abbrev pub with_values : ℕ → Label → Option (List Val × List ℕ) → Option (CargoCell × List ℕ)
with_values class label read = do
  fields ← read
  Some (record { class = class; label = label; fields = fields.0 }, fields.1)

-- a part behind others that were read
abbrev pub behind : {A : Type 0} → List A → Option (A × List ℕ) → Option (List A × List ℕ)
behind others None = None
behind others (Some x) = Some (others ++ x.0 ∷ [], x.1)

-- managers and objects
unfoldable pub cargo_at : List ℕ → Option (CargoList × List ℕ)
cargo_at bytes = do
  managers ← counted_at manager_at bytes
  cells ← counted_at cell_at managers.1
  Some (record { cells = cells.0; managers = managers.0 }, cells.1)

-- a content, behind its first byte

unfoldable pub held_at : List ℕ → Option (Option CargoList × List ℕ)
held_at bytes = do
  c ← cargo_at bytes
  Some (Some c.0, c.1)

unfoldable pub content_behind : ℕ → List ℕ → Option (Option CargoList × List ℕ)
content_behind n bytes = if n == 0 then Some (None, bytes) else if n == 1 then held_at bytes else None

unfoldable pub content_at : List ℕ → Option (Option CargoList × List ℕ)
content_at bytes = do
  n ← byte_at bytes
  content_behind n.0 n.1

-- the bytes behind `RGI1`
abbrev pub magic_at : List ℕ → Option (List ℕ)
magic_at bytes = if bytes_eq (take 4 bytes) (codes "RGI1") then Some (drop 4 bytes) else None

-- a content and nothing behind it
unfoldable pub image_at : List ℕ → Option (Option CargoList)
image_at bytes = do
  rest ← magic_at bytes
  content ← content_at rest
  if length content.1 == 0 then Some content.0 else None
