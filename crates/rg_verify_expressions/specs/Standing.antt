-- Blocks that stand in code, by what they are and the code alone, however they are found (docs/architecture.md, "Modules").
use Rattle.std.specs.Prelude.{◌≡◌, ℕ, suc, ◌+◌, ◌≤◌, max, Bool as Truth, true, false, if◌then◌else◌, List, ◌∷◌, [], ◌++◌, length, slice_get}
use Rattle.std.specs.Prelude.{Option, Some, None, option_map}
use Rattle.rg_base.specs.declared.words.Cap.TheVariants as cap
use Rattle.rg_base.specs.declared.ty.Ty.{Ty}
use Rattle.rg_base.specs.declared.ty.Ty.TheVariants as ty
use Rattle.rg_code.specs.declared.op.Op.{Op}
use Rattle.rg_code.specs.declared.op.Op.TheVariants as i
use Rattle.rg_verify_expressions.specs.declared.callee.Callee.{Callee}
use Rattle.rg_verify_expressions.specs.Raised.{path_ops}
use Rattle.rg_verify_expressions.specs.Statements.{Right, value, new, new_tmp, new_iso, freeze, merge, read, more, result_of, Kind, declare, assign, write}
use Rattle.rg_verify_expressions.specs.Statements.{write_element, call, swap, branch, while, enter, enter_field, print, collect, return, Else, no_else, otherwise}
use Rattle.rg_verify_expressions.specs.Statements.{Block, empty, next, types_behind, types_inside, whole_ops, kind_ops, block_ops}
use Rattle.rg_verify_expressions.specs.Signs.{mark_of, closing_of}
use Rattle.rg_verify_expressions.specs.Blocks.{◌>>=◌, Given, Told, sign, is_last, block_told, Piece}

-- How many blocks stand in one another

abbrev mutual
  -- in a statement
  pub kind_depth : Kind → ℕ
  kind_depth (declare t r) = 0
  kind_depth (assign s r) = 0
  kind_depth (write s ks k r) = 0
  kind_depth (write_element s ks e r) = 0
  kind_depth (call c) = 0
  kind_depth (swap y s ks k) = 0
  kind_depth (branch e b other) = max (block_depth b) (else_depth other)
  kind_depth (while e b) = block_depth b
  kind_depth (enter s c b w) = block_depth b
  kind_depth (enter_field s ks k c b w) = block_depth b
  kind_depth (print e) = 0
  kind_depth collect = 0
  kind_depth (return e) = 0

  -- in what stands behind the first block of an `if`
  pub else_depth : Else → ℕ
  else_depth no_else = 0
  else_depth (otherwise b) = block_depth b

  -- in a block, which counts itself
  pub block_depth : Block → ℕ
  block_depth empty = 1
  block_depth (next line k b) = max (suc (kind_depth k)) (block_depth b)

-- What code doesn't tell

-- a method that is called is that of its number
abbrev pub IsCallee : (methods : List Callee) → Callee → Type 0
IsCallee methods c = option_map (λ (m : Callee). record m { number = c.number }) (slice_get methods c.number) ≡ Some c

-- so is the one that a right side calls, if it calls one
abbrev pub IsRightFit : (methods : List Callee) → Right → Type 0
IsRightFit methods (value e) = Unit {0}
IsRightFit methods (new c n) = Unit {0}
IsRightFit methods (new_tmp c n) = Unit {0}
IsRightFit methods (new_iso c n m) = Unit {0}
IsRightFit methods (freeze s) = Unit {0}
IsRightFit methods (merge s) = Unit {0}
IsRightFit methods read = Unit {0}
IsRightFit methods more = Unit {0}
IsRightFit methods (result_of c) = IsCallee methods c.callee

-- the type in a slot, by the map at an address
abbrev pub type_mapped : (maps : List (List Ty)) → (at : ℕ) → (slot : ℕ) → Option Ty
type_mapped maps at s = ◌>>=◌ (slice_get maps at) (λ (types : List Ty). slice_get types s)

-- From an address on: the map behind a `let` has its type, that in front of the block of an `enter` has the class of the bridge, the slot
-- that comes next isn't assigned, what is called is there, and nothing stands behind a `return`

abbrev mutual
  -- a statement of a line
  pub IsKindFit : Given → (types : List Ty) → (at : ℕ) → (line : ℕ) → Kind → Type 0
  IsKindFit g types at line (declare t r) =
      IsRightFit g.methods r × (type_mapped g.maps (at + length (kind_ops types at line (declare t r))) (length types) ≡ Some t)
  IsKindFit g types at line (assign s r) = IsRightFit g.methods r × (s ≡ length types → ⊥)
  IsKindFit g types at line (write s ks k r) = IsRightFit g.methods r
  IsKindFit g types at line (write_element s ks e r) = IsRightFit g.methods r
  IsKindFit g types at line (call c) = IsCallee g.methods c.callee
  IsKindFit g types at line (swap y s ks k) = Unit {0}
  IsKindFit g types at line (branch e b other) =
      let inside = at + 1 + length (whole_ops types (at + 1) e) + 1 in
      IsBlockFit g types inside b × IsElseFit g types (inside + length (block_ops types inside b) + 2) other
  IsKindFit g types at line (while e b) = IsBlockFit g types (at + 1 + length (whole_ops types (at + 1) e) + 1) b
  IsKindFit g types at line (enter s c b w) =
      (type_mapped g.maps (at + 1 + 1) (length types) ≡ Some (ty.Ref cap.Mut c)) × IsBlockFit g (types_inside types c) (at + 1 + 1) b
  IsKindFit g types at line (enter_field s ks k c b w) =
      let inside = at + 1 + length (path_ops s ks ++ i.EnterField k (length types) ∷ []) in
      (type_mapped g.maps inside (length types) ≡ Some (ty.Ref cap.Mut c)) × IsBlockFit g (types_inside types c) inside b
  IsKindFit g types at line (print e) = Unit {0}
  IsKindFit g types at line collect = Unit {0}
  IsKindFit g types at line (return e) = Unit {0}

  -- what stands behind the first block of an `if`
  pub IsElseFit : Given → (types : List Ty) → (at : ℕ) → Else → Type 0
  IsElseFit g types at no_else = Unit {0}
  IsElseFit g types at (otherwise b) = IsBlockFit g types (at + 1) b

  -- the statements of a block
  pub IsBlockFit : Given → (types : List Ty) → (at : ℕ) → Block → Type 0
  IsBlockFit g types at empty = Unit {0}
  IsBlockFit g types at (next line k b) =
      IsKindFit g types at line k × (is_last k ≡ true → b ≡ empty)
      × IsBlockFit g (types_behind types k) (at + length (kind_ops types at line k)) b

-- whether a block ends by a `return`
abbrev pub returns : Block → Truth
returns empty = false
returns (next line k b) = if is_last k then true else returns b

-- a block ends at an address: behind a `return`, or at a mark in front of what ends a block
abbrev pub Closes : List Op → (end : ℕ) → (returns : Truth) → Type 0
Closes ops end true = Unit {0}
Closes ops end false = ((line : ℕ) × (sign mark_of ops end ≡ Some line)) × (sign closing_of ops (suc end) ≡ Some tt)

-- A block stands at an address, up to another one.
pub record BlockStand (g : Given) (types : List Ty) (at : ℕ) (b : Block) (end : ℕ) : Type 0 where
  pub code : Piece g.ops at (block_ops types at b) end
  pub fits : IsBlockFit g types at b
  pub closes : Closes g.ops end (returns b)

-- each block that stands at an address is the one that is raised there
abbrev pub StandingBlocksAreTold : Type 0
StandingBlocksAreTold =
    (g : Given) (depth : ℕ) (types : List Ty) (at : ℕ) (b : Block) (end : ℕ) → block_depth b ≤ depth → BlockStand g types at b end
    → block_told g depth types at ≡ Some (b, end)

-- so at most one stands there
abbrev pub BlocksStandOnce : Type 0
BlocksStandOnce =
    (g : Given) (types : List Ty) (at : ℕ) (b c : Block) (m n : ℕ) → BlockStand g types at b m → BlockStand g types at c n
    → (b ≡ c) × (m ≡ n)

-- What is told at an address. A block: it is no deeper than may be, stands there if it ends there, and no other one that isn't deeper does.
-- Or nothing: no block that isn't deeper stands there.
abbrev pub TellsBlock : Given → (depth : ℕ) → (types : List Ty) → (at : ℕ) → Told Block → Type 0
TellsBlock g depth types at None = (b : Block) (end : ℕ) → BlockStand g types at b end → block_depth b ≤ depth → ⊥
TellsBlock g depth types at (Some x) =
    (block_depth x.0 ≤ depth) × (Closes g.ops x.1 (returns x.0) → BlockStand g types at x.0 x.1)
    × ((b : Block) (end : ℕ) → BlockStand g types at b end → block_depth b ≤ depth → (b ≡ x.0) × (end ≡ x.1))

-- that is what the definition of raising tells
abbrev pub BlocksAreTold : Type 0
BlocksAreTold = (g : Given) (depth : ℕ) (types : List Ty) (at : ℕ) → TellsBlock g depth types at (block_told g depth types at)
