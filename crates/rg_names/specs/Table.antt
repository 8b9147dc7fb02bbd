-- What contracts see of a class table: lists in source order, with names by their numbers (docs/language.md, "Headers").
use Rattle.std.specs.Prelude.{ℕ, ◌<◌, Bool as Truth, List, length, map, position, nat_eq, slice_get, Option, None, Some, option_and_then, ok_or, Ok}
use Rattle.std.specs.List.{position_or_len}
use Rattle.std.specs.Map.{lookup, keys_of}
use Rattle.rg_base.specs.declared.ty.Ty.{Ty}
use Rattle.rg_base.specs.declared.ty.Ty.TheVariants.{Int, Bool, Ref}
use Rattle.rg_base.specs.declared.fault.Code.TheVariants.{Unknown, BadType}
use Rattle.rg_tree.specs.declared.rows.TypeRow.{TypeRow}
use Rattle.rg_tree.specs.declared.rows.TypeRow.TheVariants as row
use Rattle.rg_rules.specs.Answers.{◌>>=◌, ◌>>◌, test, Answer}
use Rattle.rg_rules.specs.Types.{suits_class}
use Rattle.rg_names.specs.declared.entry.FieldAt.{FieldAt}
use Rattle.rg_names.specs.declared.entry.Sig.{Sig}
use Rattle.rg_names.specs.declared.entry.Entry.{Entry}
use Rattle.rg_names.specs.declared.entry.Entry.TheVariants.{Field, Method}

-- each class's name with whether it is a tmp class, each class's members by their names, and the type of its elements, which only an array
-- class has
pub record Table : Type 0 where
  pub heads : List (ℕ × Truth)
  pub members : List (List (ℕ × Entry))
  pub elements : List (Option Ty)

-- the values without their names
abbrev pub values_of : {V : Type 0} → List (ℕ × V) → List V
values_of es = map (λ e. e.1) es

-- the number is that of a class
abbrev pub IsClass : Table → ℕ → Type 0
IsClass t c = c < length t.heads

-- the class of a name
abbrev pub class_in : Table → ℕ → Option ℕ
class_in t name = position (nat_eq name) (keys_of t.heads)

-- the member of a name in a class
abbrev pub entry_in : Table → ℕ → ℕ → Option Entry
entry_in t class name = option_and_then (lookup (nat_eq name)) (slice_get t.members class)

-- the type of the elements of a class
abbrev pub element_in : Table → ℕ → Option Ty
element_in t class = option_and_then (λ (o : Option Ty). o) (slice_get t.elements class)

-- a member that is a field
abbrev pub as_field : Entry → Option FieldAt
as_field (Field f) = Some f
as_field (Method s) = None

-- a member that is a method
abbrev pub as_method : Entry → Option Sig
as_method (Field f) = None
as_method (Method s) = Some s

-- the field of a name in a class
abbrev pub field_in : Table → ℕ → ℕ → Option FieldAt
field_in t class name = option_and_then as_field (entry_in t class name)

-- the method of a name in a class
abbrev pub method_in : Table → ℕ → ℕ → Option Sig
method_in t class name = option_and_then as_method (entry_in t class name)

-- the type that is written so: its class is known, and its capability goes with that class
abbrev pub judge_type : List (ℕ × Truth) → TypeRow → Answer Ty
judge_type heads row.Int = Ok Int
judge_type heads row.Bool = Ok Bool
judge_type heads (row.Ref cap name) = do
  is_tmp ← ok_or (lookup (nat_eq name) heads) Unknown
  test (suits_class cap is_tmp) BadType
  Ok (Ref cap (position_or_len (nat_eq name) (keys_of heads)))
