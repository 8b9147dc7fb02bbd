-- Statements with their names (docs/architecture.md, "Modules").
use Rattle.std.specs.Prelude.{◌≡◌, ℕ, ◌+◌, Bool as Truth, List, [], ◌∷◌, ◌++◌, map, length, Option, Some, None, option_map}
use Rattle.std.specs.List.{AllByRecursion}
use Rattle.rg_base.specs.declared.ty.Ty.{Ty}
use Rattle.rg_tree.specs.Tree as tree
use Rattle.rg_tree.specs.Tree.{Class}
use Rattle.rg_rules.specs.Types.{class_number, type_of}
use Rattle.rg_code.specs.Lowering.{Scope, slot_of, type_in, type_along, class_of, number_called, target_class, call_result, scope_behind}
use Rattle.rg_code.specs.Lowering.{scope_inside, scope_at_end, Slot, block_code}
use Rattle.rg_verify_expressions.specs.Naming.{variable_name, field_name, class_name, method_name, written, variable_in}
use Rattle.rg_verify_expressions.specs.Raised.{Raised, path_named, named, IsPathFound, IsFound}
use Rattle.rg_verify_expressions.specs.Statements.{Call, Right, value, new, new_tmp, new_iso, freeze, merge, read, more, result_of, Kind, declare, assign, write}
use Rattle.rg_verify_expressions.specs.Statements.{write_element, call, swap, branch, while, enter, enter_field, print, collect, return, Else, no_else, otherwise}
use Rattle.rg_verify_expressions.specs.Statements.{Block}
use Rattle.rg_verify_expressions.specs.Statements.{empty, next, block_ops}

-- a call with its names
abbrev pub call_named : (in_method : Truth) → Call → tree.Call
call_named m c = record { target = path_named m c.slot c.fields; method = method_name c.callee.place; args = map (named m) c.args }

-- a right side with its names
abbrev pub right_named : (in_method : Truth) → Right → tree.Right
right_named m (value e) = tree.value (named m e)
right_named m (new c n) = tree.new (class_name c) (option_map (named m) n)
right_named m (new_tmp c n) = tree.new_tmp (class_name c) (option_map (named m) n)
right_named m (new_iso c n manager) = tree.new_iso (class_name c) (option_map (named m) n) manager
right_named m (freeze s) = tree.freeze (variable_name s)
right_named m (merge s) = tree.merge (variable_name s)
right_named m read = tree.read
right_named m more = tree.more
right_named m (result_of c) = tree.result_of (call_named m c)

-- the number of variables behind a statement
abbrev pub slots_behind : (slots : ℕ) → Kind → ℕ
slots_behind n (declare t r) = n + 1
slots_behind n (assign s r) = n
slots_behind n (write s ks k r) = n
slots_behind n (write_element s ks e r) = n
slots_behind n (call c) = n
slots_behind n (swap y s ks k) = n
slots_behind n (branch e b other) = n
slots_behind n (while e b) = n
slots_behind n (enter s c b w) = n
slots_behind n (enter_field s ks k c b w) = n
slots_behind n (print e) = n
slots_behind n collect = n
slots_behind n (return e) = n

-- Behind so many variables

abbrev mutual
  -- a statement with its names
  pub kind_named : (in_method : Truth) → (slots : ℕ) → Kind → tree.StmtKind
  kind_named m n (declare t r) = tree.declare (variable_name n) (written t) (right_named m r)
  kind_named m n (assign s r) = tree.assign (path_named m s []) (right_named m r)
  kind_named m n (write s ks k r) = tree.assign (path_named m s (ks ++ k ∷ [])) (right_named m r)
  kind_named m n (write_element s ks e r) = tree.assign_element (path_named m s ks) (named m e) (right_named m r)
  kind_named m n (call c) = tree.call (call_named m c)
  kind_named m n (swap y s ks k) = tree.swap (variable_name y) (path_named m s (ks ++ k ∷ []))
  kind_named m n (branch e b other) = tree.branch (named m e) (block_named m n b) (else_named m n other)
  kind_named m n (while e b) = tree.while (named m e) (block_named m n b)
  kind_named m n (enter s c b w) =
      tree.enter (path_named m s []) (variable_name n) (block_named m (n + 1) b) (option_map variable_name w)
  kind_named m n (enter_field s ks k c b w) =
      tree.enter (path_named m s (ks ++ k ∷ [])) (variable_name n) (block_named m (n + 1) b) (option_map variable_name w)
  kind_named m n (print e) = tree.print (named m e)
  kind_named m n collect = tree.collect
  kind_named m n (return e) = tree.return (named m e)

  -- what stands behind the first block of an `if`, with its names
  pub else_named : (in_method : Truth) → (slots : ℕ) → Else → tree.Else
  else_named m n no_else = tree.no_else
  else_named m n (otherwise b) = tree.otherwise (block_named m n b)

  -- a block with its names
  pub block_named : (in_method : Truth) → (slots : ℕ) → Block → tree.Block
  block_named m n empty = tree.empty
  block_named m n (next line k b) = tree.then (tree.stmt line (kind_named m n k)) (block_named m (slots_behind n k) b)

-- What is found by its name

-- a type, or a class of it
abbrev pub IsTypeFound : List Class → Ty → Type 0
IsTypeFound classes t = type_of classes (written t) ≡ t

abbrev pub IsClassFound : List Class → (class : ℕ) → Type 0
IsClassFound classes c = class_number classes (class_name c) ≡ c

-- a variable that goes by its name alone
abbrev pub IsSlotFound : Scope → (slot : ℕ) → Type 0
IsSlotFound scope s = slot_of scope (Some (variable_name s)) ≡ s

-- the path, the arguments and the method of a call
pub record IsCallFound (classes : List Class) (scope : Scope) (m : Truth) (c : Call) : Type 0 where
  pub target : IsPathFound classes scope m c.slot c.fields
  pub args : AllByRecursion (IsFound classes scope m) c.args
  pub number : number_called classes (target_class classes scope (call_named m c)) (method_name c.callee.place) ≡ c.callee.number
  pub result : call_result classes scope (call_named m c) ≡ c.callee.result

-- the number of elements of a new array, if it is one
abbrev pub IsCountFound : List Class → Scope → (in_method : Truth) → Option Raised → Type 0
IsCountFound classes scope m None = Unit {0}
IsCountFound classes scope m (Some e) = IsFound classes scope m e

-- all of a right side
abbrev pub IsRightFound : List Class → Scope → (in_method : Truth) → Right → Type 0
IsRightFound classes scope m (value e) = IsFound classes scope m e
IsRightFound classes scope m (new c n) = IsClassFound classes c × IsCountFound classes scope m n
IsRightFound classes scope m (new_tmp c n) = IsClassFound classes c × IsCountFound classes scope m n
IsRightFound classes scope m (new_iso c n manager) = IsClassFound classes c × IsCountFound classes scope m n
IsRightFound classes scope m (freeze s) = IsSlotFound scope s
IsRightFound classes scope m (merge s) = IsSlotFound scope s
IsRightFound classes scope m read = Unit {0}
IsRightFound classes scope m more = Unit {0}
IsRightFound classes scope m (result_of c) = IsCallFound classes scope m c

-- a path that is entered, with its class
pub record IsEntryFound (classes : List Class) (scope : Scope) (m : Truth) (s : ℕ) (ks : List ℕ) (c : ℕ) : Type 0 where
  pub path : IsPathFound classes scope m s ks
  pub class : class_of classes (type_along classes (type_in scope (variable_in m s)) (map field_name ks)) ≡ c

-- the variable that gives a bridge, if one does, among those at the end of a block
abbrev pub IsGivingFound : Scope → (giving : Option ℕ) → Type 0
IsGivingFound scope None = Unit {0}
IsGivingFound scope (Some w) = IsSlotFound scope w

abbrev mutual
  -- all of a statement
  pub IsKindFound : List Class → Scope → (in_method : Truth) → Kind → Type 0
  IsKindFound classes scope m (declare t r) = IsTypeFound classes t × IsRightFound classes scope m r
  IsKindFound classes scope m (assign s r) = IsPathFound classes scope m s [] × IsRightFound classes scope m r
  IsKindFound classes scope m (write s ks k r) = IsPathFound classes scope m s (ks ++ k ∷ []) × IsRightFound classes scope m r
  IsKindFound classes scope m (write_element s ks e r) =
      IsPathFound classes scope m s ks × IsFound classes scope m e × IsRightFound classes scope m r
  IsKindFound classes scope m (call c) = IsCallFound classes scope m c
  IsKindFound classes scope m (swap y s ks k) = IsSlotFound scope y × IsPathFound classes scope m s (ks ++ k ∷ [])
  IsKindFound classes scope m (branch e b other) =
      IsFound classes scope m e × IsBlockFound classes scope m b × IsElseFound classes scope m other
  IsKindFound classes scope m (while e b) = IsFound classes scope m e × IsBlockFound classes scope m b
  IsKindFound classes scope m (enter s c b w) =
      let inside = scope_inside classes scope (path_named m s []) (variable_name (length scope)) in
      IsEntryFound classes scope m s [] c × IsBlockFound classes inside m b
      × IsGivingFound (scope_at_end classes inside (block_named m (length inside) b)) w
  IsKindFound classes scope m (enter_field s ks k c b w) =
      let inside = scope_inside classes scope (path_named m s (ks ++ k ∷ [])) (variable_name (length scope)) in
      IsEntryFound classes scope m s (ks ++ k ∷ []) c × IsBlockFound classes inside m b
      × IsGivingFound (scope_at_end classes inside (block_named m (length inside) b)) w
  IsKindFound classes scope m (print e) = IsFound classes scope m e
  IsKindFound classes scope m collect = Unit {0}
  IsKindFound classes scope m (return e) = IsFound classes scope m e

  -- all of what stands behind the first block of an `if`
  pub IsElseFound : List Class → Scope → (in_method : Truth) → Else → Type 0
  IsElseFound classes scope m no_else = Unit {0}
  IsElseFound classes scope m (otherwise b) = IsBlockFound classes scope m b

  -- all of a block
  pub IsBlockFound : List Class → Scope → (in_method : Truth) → Block → Type 0
  IsBlockFound classes scope m empty = Unit {0}
  IsBlockFound classes scope m (next line k b) =
      IsKindFound classes scope m k × IsBlockFound classes (scope_behind classes scope (kind_named m (length scope) k)) m b

-- the declared types of variables, in order of their slots
abbrev pub types_of : Scope → List Ty
types_of scope = map (λ (s : Slot). s.ty) scope

-- with names that are found, a block has the code that it has with numbers
abbrev pub BlocksHaveTheirCode : Type 0
BlocksHaveTheirCode =
    (classes : List Class) (scope : Scope) (in_method : Truth) (at : ℕ) (b : Block) → IsBlockFound classes scope in_method b
    → block_code classes scope at (block_named in_method (length scope) b) ≡ block_ops (types_of scope) at b
