-- Expressions with numbers in place of names, and their code (docs/architecture.md, "Modules").
use Rattle.std.specs.Prelude.{◌≡◌, ℕ, ℤ, ◌+◌, Bool as Truth, List, [], ◌∷◌, ◌++◌, map, length}
use Rattle.rg_base.specs.declared.ty.Ty.{Ty}
use Rattle.rg_tree.specs.declared.rows.BinOp.{BinOp}
use Rattle.rg_tree.specs.Tree as tree
use Rattle.rg_tree.specs.Tree.{Path, Expr, Class}
use Rattle.rg_code.specs.declared.op.Op.{Op}
use Rattle.rg_code.specs.declared.op.Op.TheVariants as i
use Rattle.rg_code.specs.Lowering.{Scope, slot_of, type_in, field_number, type_behind, gap, operator_code}
use Rattle.rg_verify_expressions.specs.Naming.{variable_in, field_name}

-- an expression: variables are slots, fields are numbers
pub data Raised : Type 0 where
  -- `7`
  number : ℤ → Raised
  -- `true`
  boolean : Truth → Raised
  -- `nil`
  nil : Raised
  -- `v0.f1`
  path : (slot : ℕ) → (fields : List ℕ) → Raised
  -- `v0.f1 is nil`
  is_nil : (slot : ℕ) → (fields : List ℕ) → Raised
  -- `size v0.f1`
  size : (slot : ℕ) → (fields : List ℕ) → Raised
  -- `v0.f1[e]`
  element : (slot : ℕ) → (fields : List ℕ) → (index : Raised) → Raised
  -- `-a`
  neg : Raised → Raised
  -- `not a`
  not : Raised → Raised
  -- `a + b`
  binary : BinOp → Raised → Raised → Raised

-- the code of a path
abbrev pub path_ops : (slot : ℕ) → (fields : List ℕ) → List Op
path_ops s ks = i.Load s ∷ map i.Field ks

-- the object of which a field, an element or a method is meant: the walk to it, and its test
abbrev pub holder_ops : (slot : ℕ) → (fields : List ℕ) → List Op
holder_ops s ks = path_ops s ks ++ i.Check ∷ []

-- the code of an expression, from an address on
abbrev pub ops_of : (at : ℕ) → Raised → List Op
ops_of at (number z) = i.Int z ∷ []
ops_of at (boolean b) = i.Bool b ∷ []
ops_of at nil = i.Nil ∷ []
ops_of at (path s ks) = path_ops s ks
ops_of at (is_nil s ks) = path_ops s ks ++ i.IsNil ∷ []
ops_of at (size s ks) = path_ops s ks ++ i.Size ∷ []
ops_of at (element s ks e) =
    let array = holder_ops s ks in
    array ++ (ops_of (at + length array) e ++ i.Bound ∷ i.Element ∷ [])
ops_of at (neg a) = ops_of at a ++ i.Neg ∷ []
ops_of at (not a) = ops_of at a ++ i.Not ∷ []
ops_of at (binary o a b) =
    let left = ops_of at a in
    let middle = at + length left + gap o in
    let right = ops_of middle b in
    left ++ operator_code o (middle + length right) right

-- the code of expressions in order
abbrev pub all_ops : (at : ℕ) → List Raised → List Op
all_ops at [] = []
all_ops at (r ∷ rs) =
    let first = ops_of at r in
    first ++ all_ops (at + length first) rs

-- Fronts

-- what code begins with, up to an instruction that no expression has: an expression, an object that was tested, or a place in an array,
-- whose index was tested
pub data Front : Type 0 where
  expression : Raised → Front
  object : (slot : ℕ) → (fields : List ℕ) → Front
  place : (slot : ℕ) → (fields : List ℕ) → (index : Raised) → Front

-- the code of a place in an array, from an address on
abbrev pub place_ops : (at : ℕ) → (slot : ℕ) → (fields : List ℕ) → (index : Raised) → List Op
place_ops at s ks e =
    let array = holder_ops s ks in
    array ++ (ops_of (at + length array) e ++ i.Bound ∷ [])

-- the code of a front
abbrev pub front_ops : (at : ℕ) → Front → List Op
front_ops at (expression e) = ops_of at e
front_ops at (object s ks) = holder_ops s ks
front_ops at (place s ks e) = place_ops at s ks e

-- the code of fronts in order
abbrev pub fronts_ops : (at : ℕ) → List Front → List Op
fronts_ops at [] = []
fronts_ops at (f ∷ fs) =
    let first = front_ops at f in
    first ++ fronts_ops (at + length first) fs

-- Names

-- a path with its names
abbrev pub path_named : (in_method : Truth) → (slot : ℕ) → (fields : List ℕ) → Path
path_named m s ks = record { base = variable_in m s; fields = map field_name ks }

-- an expression with its names
abbrev pub named : (in_method : Truth) → Raised → Expr
named m (number z) = tree.number z
named m (boolean b) = tree.boolean b
named m nil = tree.nil
named m (path s ks) = tree.path (path_named m s ks)
named m (is_nil s ks) = tree.is_nil (path_named m s ks)
named m (size s ks) = tree.size (path_named m s ks)
named m (element s ks e) = tree.element (path_named m s ks) (named m e)
named m (neg a) = tree.neg (named m a)
named m (not a) = tree.not (named m a)
named m (binary o a b) = tree.binary o (named m a) (named m b)

-- behind a type, fields of these numbers are found by their names
abbrev pub AreFound : List Class → Ty → (fields : List ℕ) → Type 0
AreFound classes t [] = Unit {0}
AreFound classes t (k ∷ ks) = (field_number classes t (field_name k) ≡ k) × AreFound classes (type_behind classes t (field_name k)) ks

-- so are the variable of a slot, and these fields behind it
abbrev pub IsPathFound : List Class → Scope → Truth → (slot : ℕ) → (fields : List ℕ) → Type 0
IsPathFound classes scope m s ks =
    let x = variable_in m s in
    (slot_of scope x ≡ s) × AreFound classes (type_in scope x) ks

-- so are all variables and fields of an expression
abbrev pub IsFound : List Class → Scope → Truth → Raised → Type 0
IsFound classes scope m (number z) = Unit {0}
IsFound classes scope m (boolean b) = Unit {0}
IsFound classes scope m nil = Unit {0}
IsFound classes scope m (path s ks) = IsPathFound classes scope m s ks
IsFound classes scope m (is_nil s ks) = IsPathFound classes scope m s ks
IsFound classes scope m (size s ks) = IsPathFound classes scope m s ks
IsFound classes scope m (element s ks e) = IsPathFound classes scope m s ks × IsFound classes scope m e
IsFound classes scope m (neg a) = IsFound classes scope m a
IsFound classes scope m (not a) = IsFound classes scope m a
IsFound classes scope m (binary o a b) = IsFound classes scope m a × IsFound classes scope m b
