-- Expressions, and what code begins with beside them, raised from their code: each instruction of an expression changes a stack of trees.
use Rattle.std.specs.Prelude.{◌==◌, ℕ, suc, if◌then◌else◌, List, [], ◌∷◌, ◌++◌}
use Rattle.std.specs.Prelude.{Option, Some, None, option_map}
use Rattle.rg_tree.specs.declared.rows.BinOp.{BinOp}
use Rattle.rg_tree.specs.declared.rows.BinOp.TheVariants as op
use Rattle.rg_code.specs.declared.op.Op.{Op}
use Rattle.rg_verify_expressions.specs.declared.part.Part.{Part}
use Rattle.rg_verify_expressions.specs.declared.part.Part.TheVariants as part
use Rattle.rg_verify_expressions.specs.declared.part.Junction.{Junction}
use Rattle.rg_verify_expressions.specs.declared.part.Junction.TheVariants as junctions
use Rattle.rg_verify_expressions.specs.Parts.{part_of}
use Rattle.rg_verify_expressions.specs.Raised.{Raised, number, boolean, nil, path, is_nil, size, element, neg, not, binary, Front, expression, object, place}

-- the operator of a junction
abbrev pub operator_of : Junction → BinOp
operator_of junctions.And = op.And
operator_of junctions.Or = op.Or

-- what stands on the stack: a tree; a path that was tested; a place in an array, whose index was tested; or the left operand of a junction,
-- whose right one ends at an address
pub data Item : Type 0 where
  tree : Raised → Item
  checked : (slot : ℕ) → (fields : List ℕ) → Item
  indexed : (slot : ℕ) → (fields : List ℕ) → (index : Raised) → Item
  waits : Junction → (left : Raised) → (to : ℕ) → Item

-- A stack has its topmost item first.

-- a tree whose code ends at an address comes on the stack: what waits for that end takes it
abbrev pub settle : (end : ℕ) → Raised → List Item → List Item
settle end r [] = tree r ∷ []
settle end r (tree a ∷ below) = tree r ∷ tree a ∷ below
settle end r (checked s ks ∷ below) = tree r ∷ checked s ks ∷ below
settle end r (indexed s ks e ∷ below) = tree r ∷ indexed s ks e ∷ below
settle end r (waits j a to ∷ below) =
    if to == end then settle end (binary (operator_of j) a r) below else tree r ∷ waits j a to ∷ below

-- a path is taken, and what is made of it comes
abbrev pub from_path : (ℕ → List ℕ → Raised) → (end : ℕ) → List Item → Option (List Item)
from_path f end (tree (path s ks) ∷ below) = Some (settle end (f s ks) below)
from_path f end items = None

-- a tree is taken, and what is made of it comes
abbrev pub from_tree : (Raised → Raised) → (end : ℕ) → List Item → Option (List Item)
from_tree f end (tree a ∷ below) = Some (settle end (f a) below)
from_tree f end items = None

-- two trees are taken, and an operator between them comes
abbrev pub from_two : BinOp → (end : ℕ) → List Item → Option (List Item)
from_two o end (tree b ∷ tree a ∷ below) = Some (settle end (binary o a b) below)
from_two o end items = None

-- a tree waits for the right operand
abbrev pub from_left : Junction → (to : ℕ) → List Item → Option (List Item)
from_left j to (tree a ∷ below) = Some (waits j a to ∷ below)
from_left j to items = None

-- a path is tested
abbrev pub from_checked : List Item → Option (List Item)
from_checked (tree (path s ks) ∷ below) = Some (checked s ks ∷ below)
from_checked items = None

-- an index of the array that was tested is tested
abbrev pub from_index : List Item → Option (List Item)
from_index (tree e ∷ checked s ks ∷ below) = Some (indexed s ks e ∷ below)
from_index items = None

-- the element of a place comes
abbrev pub from_place : (end : ℕ) → List Item → Option (List Item)
from_place end (indexed s ks e ∷ below) = Some (settle end (element s ks e) below)
from_place end items = None

-- what an instruction that ends at an address makes of the stack
abbrev pub act : Part → (end : ℕ) → List Item → Option (List Item)
act (part.Int z) end items = Some (settle end (number z) items)
act (part.Bool b) end items = Some (settle end (boolean b) items)
act part.Nil end items = Some (settle end nil items)
act (part.Load s) end items = Some (settle end (path s []) items)
act (part.Field k) end items = from_path (λ s ks. path s (ks ++ k ∷ [])) end items
act part.IsNil end items = from_path is_nil end items
act part.Size end items = from_path size end items
act part.Check end items = from_checked items
act part.Bound end items = from_index items
act part.Element end items = from_place end items
act part.Neg end items = from_tree neg end items
act part.Not end items = from_tree not end items
act (part.Operator o) end items = from_two o end items
act (part.Between j to) end items = from_left j to items

-- along instructions, up to the first that no expression has: the stack there, and its address
unfoldable pub walk : List Op → (at : ℕ) → List Item → Option (List Item × ℕ)
walk [] at items = Some (items, at)
walk (o ∷ os) at items = elim (part_of o) [
  | None ↦ Some (items, at)
  | Some p ↦ elim (act p (suc at) items) [
    | None ↦ None
    | Some new ↦ walk os (suc at) new
  ]
]

-- the front that an item is, if it doesn't wait
abbrev pub front_in : Item → Option Front
front_in (tree a) = Some (expression a)
front_in (checked s ks) = Some (object s ks)
front_in (indexed s ks e) = Some (place s ks e)
front_in (waits j a to) = None

-- the fronts of a stack, in front of others, where nothing waits
abbrev pub fronts : List Item → List Front → Option (List Front)
fronts [] done = Some done
fronts (x ∷ below) done = elim (front_in x) [
  | None ↦ None
  | Some f ↦ fronts below (f ∷ done)
]

-- the fronts whose code stands in front of instructions, in order, and the address behind it
unfoldable pub raised : List Op → (at : ℕ) → Option (List Front × ℕ)
raised ops at = elim (walk ops at []) [
  | None ↦ None
  | Some s ↦ option_map (λ fs. (fs, s.1)) (fronts s.0 [])
]
