-- The slots that instructions of expressions use up.
use Rattle.std.specs.Prelude.{ℕ, zero, suc, ◌+◌, Bool as Truth, true, false, if◌then◌else◌, List, [], ◌∷◌, ◌++◌, Option, Some, None}
use Rattle.rg_base.specs.declared.ty.Ty.{Ty}
use Rattle.rg_rules.specs.Capabilities.{is_iso}
use Rattle.rg_code.specs.declared.op.Op.{Op}
use Rattle.rg_verify_expressions.specs.declared.part.Part.{Part}
use Rattle.rg_verify_expressions.specs.declared.part.Part.TheVariants as part
use Rattle.rg_verify_expressions.specs.Parts.{part_of}
use Rattle.rg_verify_expressions.specs.Raised.{Front, expression, object, place}
use Rattle.rg_verify_expressions.specs.Statements.{type_at, used}
use Rattle.rg_verify_expressions.specs.Blocks.{sign}

-- whether what stands in front goes on with an instruction: a path, an object or a place
abbrev pub goes_by : Option Part → Truth
goes_by (Some (part.Field k)) = true
goes_by (Some part.IsNil) = true
goes_by (Some part.Size) = true
goes_by (Some part.Check) = true
goes_by (Some part.Element) = true
goes_by p = false

-- the slot of a variable that is a value, by whether its path goes on
abbrev pub value_by : Option Part → (goes : Truth) → Option ℕ
value_by (Some (part.Load s)) false = Some s
value_by p goes = None

-- whether a place ends with an instruction, by whether it goes on
abbrev pub ends_by : Option Part → (goes : Truth) → Truth
ends_by (Some part.Bound) false = true
ends_by p goes = false

-- the slot of an `iso` variable
abbrev pub iso_slot : (types : List Ty) → Option ℕ → Option ℕ
iso_slot types None = None
iso_slot types (Some s) = if is_iso (type_at types s) then Some s else None

-- a slot, if there is one, in front of others
abbrev pub and_then : Option ℕ → List ℕ → List ℕ
and_then None ss = ss
and_then (Some s) ss = s ∷ ss

-- the slot that the instruction at an address uses up, with that of the next one
abbrev pub use_at : (types : List Ty) → (ops : List Op) → (at next : ℕ) → Option ℕ
use_at types ops at next = iso_slot types (value_by (sign part_of ops at) (goes_by (sign part_of ops next)))

-- the slots that so many instructions from an address on use up
abbrev pub uses : (types : List Ty) → (ops : List Op) → (many : ℕ) → (at : ℕ) → List ℕ
uses types ops zero at = []
uses types ops (suc n) at = and_then (use_at types ops at (at + 1)) (uses types ops n (at + 1))

-- whether a place ends with the instruction at an address, with the next one
abbrev pub ends_at : (ops : List Op) → (at next : ℕ) → Truth
ends_at ops at next = ends_by (sign part_of ops at) (goes_by (sign part_of ops next))

-- the address behind the first place that ends among so many instructions from an address on
abbrev pub behind_place : (ops : List Op) → (many : ℕ) → (at : ℕ) → ℕ
behind_place ops zero at = at
behind_place ops (suc n) at = if ends_at ops at (at + 1) then at + 1 else behind_place ops n (at + 1)

-- the slots that fronts use up, in order
abbrev pub used_in : (types : List Ty) → List Front → List ℕ
used_in types [] = []
used_in types (expression e ∷ fs) = used types e ++ used_in types fs
used_in types (object s ks ∷ fs) = used_in types fs
used_in types (place s ks e ∷ fs) = used types e ++ used_in types fs
