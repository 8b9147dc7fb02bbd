-- The bodies of a program with numbers in place of names (docs/architecture.md, "Modules"): the way back from `named`, `right_named` and
-- `block_named` of rg_verify_expressions. A variable is the number of its slot, a field that of its place in its class, and classes and methods are those
-- of rg_code/specs/Lowering. A name that isn't there gets some number all the same, as it gets some code there.
use Rattle.std.specs.Prelude.{ℕ, List, [], ◌∷◌, map, Option, option_map, Some}
use Rattle.rg_base.specs.declared.ty.Ty.{Ty}
use Rattle.rg_tree.specs.Tree.{Name, Variable, Expr, number, boolean, nil, path, is_nil, neg, not, binary, size, element, Call, Right, value, new}
use Rattle.rg_tree.specs.Tree.{new_tmp, new_iso, freeze, merge, read, more, result_of, stmt, StmtKind, declare, assign, assign_element, call, swap}
use Rattle.rg_tree.specs.Tree.{branch, while, enter, print, collect, return, Else, no_else, otherwise, Block, empty, then as next, Class}
use Rattle.rg_rules.specs.Types.{class_number, type_of, methods_of}
use Rattle.rg_rules.specs.Paths.{all_but_last}
use Rattle.rg_code.specs.Lowering.{Scope, slot_of, type_in, field_number, type_behind, type_along, held_number, class_of, method_place, number_called}
use Rattle.rg_code.specs.Lowering.{target_class, call_result, scope_behind, scope_inside, scope_at_end}
use Rattle.rg_verify_expressions.specs.Raised as raised
use Rattle.rg_verify_expressions.specs.Raised.{Raised}
use Rattle.rg_verify_expressions.specs.Statements as numbers

-- the numbers of fields in order, behind a type
abbrev pub field_numbers : List Class → Ty → List Name → List ℕ
field_numbers classes t [] = []
field_numbers classes t (f ∷ fs) = field_number classes t f ∷ field_numbers classes (type_behind classes t f) fs

-- the numbers of the fields of a path
abbrev pub path_numbers : List Class → Scope → Variable → List Name → List ℕ
path_numbers classes scope x fs = field_numbers classes (type_in scope x) fs

-- an expression
abbrev pub numbered : List Class → Scope → Expr → Raised
numbered classes scope (number z) = raised.number z
numbered classes scope (boolean b) = raised.boolean b
numbered classes scope nil = raised.nil
numbered classes scope (path p) = raised.path (slot_of scope p.base) (path_numbers classes scope p.base p.fields)
numbered classes scope (is_nil p) = raised.is_nil (slot_of scope p.base) (path_numbers classes scope p.base p.fields)
numbered classes scope (size q) = raised.size (slot_of scope q.base) (path_numbers classes scope q.base q.fields)
numbered classes scope (element q e) =
    raised.element (slot_of scope q.base) (path_numbers classes scope q.base q.fields) (numbered classes scope e)
numbered classes scope (neg a) = raised.neg (numbered classes scope a)
numbered classes scope (not a) = raised.not (numbered classes scope a)
numbered classes scope (binary o a b) = raised.binary o (numbered classes scope a) (numbered classes scope b)

-- a call, with the method's number through the program, its place in its class, and the type of its result
abbrev pub numbered_call : List Class → Scope → Call → numbers.Call
numbered_call classes scope c =
    let class = target_class classes scope c in
    record {
      slot = slot_of scope c.target.base;
      fields = path_numbers classes scope c.target.base c.target.fields;
      callee = record {
        number = number_called classes class c.method;
        place = method_place (methods_of classes class) c.method;
        result = call_result classes scope c;
      };
      args = map (numbered classes scope) c.args;
    }

-- a right side
abbrev pub numbered_right : List Class → Scope → Right → numbers.Right
numbered_right classes scope (value e) = numbers.value (numbered classes scope e)
numbered_right classes scope (new x n) = numbers.new (class_number classes x) (option_map (numbered classes scope) n)
numbered_right classes scope (new_tmp x n) = numbers.new_tmp (class_number classes x) (option_map (numbered classes scope) n)
numbered_right classes scope (new_iso x n m) = numbers.new_iso (class_number classes x) (option_map (numbered classes scope) n) m
numbered_right classes scope (freeze y) = numbers.freeze (slot_of scope (Some y))
numbered_right classes scope (merge y) = numbers.merge (slot_of scope (Some y))
numbered_right classes scope read = numbers.read
numbered_right classes scope more = numbers.more
numbered_right classes scope (result_of c) = numbers.result_of (numbered_call classes scope c)

-- `x = r` and `q.f = r`
abbrev pub numbered_assign : List Class → Scope → Variable → List Name → numbers.Right → numbers.Kind
numbered_assign classes scope x [] r = numbers.assign (slot_of scope x) r
numbered_assign classes scope x (f ∷ fs) r =
    numbers.write (slot_of scope x) (path_numbers classes scope x (all_but_last f fs)) (held_number classes scope x f fs) r

-- `swap y, q.f`; no accepted program has a path without a field there
abbrev pub numbered_swap : List Class → Scope → (own : ℕ) → Variable → List Name → numbers.Kind
numbered_swap classes scope y x [] = numbers.swap y (slot_of scope x) [] 0
numbered_swap classes scope y x (f ∷ fs) =
    numbers.swap y (slot_of scope x) (path_numbers classes scope x (all_but_last f fs)) (held_number classes scope x f fs)

-- the class of the bridge to which a path leads
abbrev pub bridge_class : List Class → Scope → Variable → List Name → ℕ
bridge_class classes scope x fs = class_of classes (type_along classes (type_in scope x) fs)

-- `enter x as z` and `enter q.f as z`
abbrev pub numbered_enter : List Class → Scope → Variable → List Name → numbers.Block → (giving : Option ℕ) → numbers.Kind
numbered_enter classes scope x [] b w = numbers.enter (slot_of scope x) (bridge_class classes scope x []) b w
numbered_enter classes scope x (f ∷ fs) b w =
    numbers.enter_field (slot_of scope x) (path_numbers classes scope x (all_but_last f fs)) (held_number classes scope x f fs)
    (bridge_class classes scope x (f ∷ fs)) b w

-- the slot of the variable that gives a bridge, if one does, among the variables at the end of the block
abbrev pub giving_slot : Scope → (giving : Option Name) → Option ℕ
giving_slot scope giving = option_map (λ (w : Name). slot_of scope (Some w)) giving

abbrev mutual
  -- a statement
  pub numbered_kind : List Class → Scope → StmtKind → numbers.Kind
  numbered_kind classes scope (declare x t r) = numbers.declare (type_of classes t) (numbered_right classes scope r)
  numbered_kind classes scope (assign p r) = numbered_assign classes scope p.base p.fields (numbered_right classes scope r)
  numbered_kind classes scope (assign_element q e r) =
      numbers.write_element (slot_of scope q.base) (path_numbers classes scope q.base q.fields) (numbered classes scope e)
      (numbered_right classes scope r)
  numbered_kind classes scope (call c) = numbers.call (numbered_call classes scope c)
  numbered_kind classes scope (swap y p) = numbered_swap classes scope (slot_of scope (Some y)) p.base p.fields
  numbered_kind classes scope (branch e b other) =
      numbers.branch (numbered classes scope e) (numbered_block classes scope b) (numbered_else classes scope other)
  numbered_kind classes scope (while e b) = numbers.while (numbered classes scope e) (numbered_block classes scope b)
  numbered_kind classes scope (enter p z b giving) =
      let inside = scope_inside classes scope p z in
      numbered_enter classes scope p.base p.fields (numbered_block classes inside b) (giving_slot (scope_at_end classes inside b) giving)
  numbered_kind classes scope (print e) = numbers.print (numbered classes scope e)
  numbered_kind classes scope collect = numbers.collect
  numbered_kind classes scope (return e) = numbers.return (numbered classes scope e)

  -- what stands behind the first block of an `if`
  pub numbered_else : List Class → Scope → Else → numbers.Else
  numbered_else classes scope no_else = numbers.no_else
  numbered_else classes scope (otherwise b) = numbers.otherwise (numbered_block classes scope b)

  -- a block, whose statements keep their lines
  pub numbered_block : List Class → Scope → Block → numbers.Block
  numbered_block classes scope empty = numbers.empty
  numbered_block classes scope (next (stmt line k) b) =
      numbers.next line (numbered_kind classes scope k) (numbered_block classes (scope_behind classes scope k) b)
