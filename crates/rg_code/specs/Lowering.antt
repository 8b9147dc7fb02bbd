-- The code of a program, from its tree (docs/language.md, "Instructions and lowering"). Each function gives the instructions of a form from an
-- address on; `at` is the address of the first. What an accepted program can't have gets some code all the same.
use Rattle.std.specs.Prelude.{◌≡◌, ℕ, zero, pos, suc, ◌+◌, max, false, bytes_eq, if◌then◌else◌, List, [], ◌∷◌, ◌++◌, map, length}
use Rattle.std.specs.Prelude.{Option, Some, None, unwrap_or}
use Rattle.rg_base.specs.declared.words.Cap.TheVariants as cap
use Rattle.rg_base.specs.declared.ty.Ty.{Ty}
use Rattle.rg_base.specs.declared.ty.Ty.TheVariants as ty
use Rattle.rg_tree.specs.declared.rows.BinOp.{BinOp}
use Rattle.rg_tree.specs.declared.rows.BinOp.TheVariants as op
use Rattle.rg_tree.specs.Tree.{Name, Variable, Ty as Written, int, bool, ref, Path, Expr, number, boolean, nil, path, is_nil, neg, not, binary, size}
use Rattle.rg_tree.specs.Tree.{element, Call, Right, value, new, new_tmp, new_iso, freeze, merge, read, more, result_of, stmt, StmtKind, declare}
use Rattle.rg_tree.specs.Tree.{assign, assign_element, call, swap, branch, while, enter, print, collect, return, Else, no_else, otherwise, Block}
use Rattle.rg_tree.specs.Tree.{empty as none, then as next, Param, Method, Member, field, method, Class, Tree}
use Rattle.rg_rules.specs.Capabilities.{is_iso}
use Rattle.rg_rules.specs.Types.{class_number, type_of, fields_of, field_place, field_type, method_named, method_result}
use Rattle.rg_rules.specs.Environment.{same_variable}
use Rattle.rg_rules.specs.Paths.{all_but_last, last_field}
use Rattle.rg_rules.specs.Rights.{right_made}
use Rattle.rg_code.specs.declared.op.Op.{Op}
use Rattle.rg_code.specs.declared.op.Op.TheVariants as i
use Rattle.rg_base.specs.declared.value.Word.{Word}
use Rattle.rg_base.specs.declared.value.Word.TheVariants as word
use Rattle.rg_code.specs.declared.code.Entry.{Entry}
use Rattle.rg_code.specs.Code.{Code}
use Rattle.rg_code.specs.Operands.{operands_of, slots_in, above_all}

-- Slots

-- a variable in its slot, with its declared type
pub record Slot : Type 0 where
  pub name : Variable
  pub ty : Ty

-- the variables at a point of a body, each in the slot of its place
abbrev pub Scope : Type 0
Scope = List Slot

-- a variable in the next slot
abbrev pub with_slot : Scope → Variable → Ty → Scope
with_slot scope x t = scope ++ record { name = x; ty = t } ∷ []

-- the slot of a variable
abbrev pub slot_of : Scope → Variable → ℕ
slot_of [] x = 0
slot_of (s ∷ ss) x = if same_variable s.name x then 0 else suc (slot_of ss x)

-- the declared type of a variable
abbrev pub type_in : Scope → Variable → Ty
type_in [] x = ty.Int
type_in (s ∷ ss) x = if same_variable s.name x then s.ty else type_in ss x

-- the number of a field behind a type
abbrev pub field_number : List Class → Ty → Name → ℕ
field_number classes ty.Int f = 0
field_number classes ty.Bool f = 0
field_number classes (ty.Ref cap c) f = unwrap_or (field_place (fields_of classes c) f) 0

-- the declared type of a field behind a type
abbrev pub type_behind : List Class → Ty → Name → Ty
type_behind classes ty.Int f = ty.Int
type_behind classes ty.Bool f = ty.Int
type_behind classes (ty.Ref cap c) f = unwrap_or (field_type classes c f) ty.Int

-- the declared type behind fields in order
abbrev pub type_along : List Class → Ty → List Name → Ty
type_along classes t [] = t
type_along classes t (f ∷ fs) = type_along classes (type_behind classes t f) fs

-- Paths

-- a field after the other, from what is on the stack
abbrev pub fields_code : List Class → Ty → List Name → List Op
fields_code classes t [] = []
fields_code classes t (f ∷ fs) = i.Field (field_number classes t f) ∷ fields_code classes (type_behind classes t f) fs

-- `x.f.g`
abbrev pub path_code : List Class → Scope → Variable → List Name → List Op
path_code classes scope x fs = i.Load (slot_of scope x) ∷ fields_code classes (type_in scope x) fs

-- the object of `x.f.g`, which has the field g: the walk to it, and its test
abbrev pub holder_code : List Class → Scope → Variable → (f : Name) (fs : List Name) → List Op
holder_code classes scope x f fs = path_code classes scope x (all_but_last f fs)

-- the number of the field g of `x.f.g`
abbrev pub held_number : List Class → Scope → Variable → (f : Name) (fs : List Name) → ℕ
held_number classes scope x f fs = field_number classes (type_along classes (type_in scope x) (all_but_last f fs)) (last_field f fs)

-- Expressions

-- how many instructions stand between the operands: one jump of `and` and `or`
abbrev pub gap : BinOp → ℕ
gap op.Or = 1
gap op.And = 1
gap op.Eq = 0
gap op.Ne = 0
gap op.Lt = 0
gap op.Le = 0
gap op.Gt = 0
gap op.Ge = 0
gap op.Add = 0
gap op.Sub = 0
gap op.Mul = 0
gap op.Div = 0
gap op.Rem = 0

-- the code behind the left operand, from that of the right one, behind which `end` is
abbrev pub operator_code : BinOp → (end : ℕ) → (right : List Op) → List Op
operator_code op.Or end right = i.Or end ∷ right
operator_code op.And end right = i.And end ∷ right
operator_code op.Eq end right = right ++ i.Eq ∷ []
operator_code op.Ne end right = right ++ i.Ne ∷ []
operator_code op.Lt end right = right ++ i.Lt ∷ []
operator_code op.Le end right = right ++ i.Le ∷ []
operator_code op.Gt end right = right ++ i.Gt ∷ []
operator_code op.Ge end right = right ++ i.Ge ∷ []
operator_code op.Add end right = right ++ i.Add ∷ []
operator_code op.Sub end right = right ++ i.Sub ∷ []
operator_code op.Mul end right = right ++ i.Mul ∷ []
operator_code op.Div end right = right ++ i.Div ∷ []
operator_code op.Rem end right = right ++ i.Rem ∷ []

-- an expression, which leaves its value on the stack
abbrev pub expr_code : List Class → Scope → (at : ℕ) → Expr → List Op
expr_code classes scope at (number z) = i.Int z ∷ []
expr_code classes scope at (boolean b) = i.Bool b ∷ []
expr_code classes scope at nil = i.Nil ∷ []
expr_code classes scope at (path p) = path_code classes scope p.base p.fields
expr_code classes scope at (is_nil p) = path_code classes scope p.base p.fields ++ i.IsNil ∷ []
expr_code classes scope at (size q) = path_code classes scope q.base q.fields ++ i.Size ∷ []
expr_code classes scope at (element q e) =
    let array = path_code classes scope q.base q.fields ++ i.Check ∷ [] in
    array ++ (expr_code classes scope (at + length array) e ++ i.Bound ∷ i.Element ∷ [])
expr_code classes scope at (neg a) = expr_code classes scope at a ++ i.Neg ∷ []
expr_code classes scope at (not a) = expr_code classes scope at a ++ i.Not ∷ []
expr_code classes scope at (binary o a b) =
    let left = expr_code classes scope at a in
    let middle = at + length left + gap o in
    let right = expr_code classes scope middle b in
    left ++ operator_code o (middle + length right) right

-- expressions in order
abbrev pub exprs_code : List Class → Scope → (at : ℕ) → List Expr → List Op
exprs_code classes scope at [] = []
exprs_code classes scope at (e ∷ es) =
    let first = expr_code classes scope at e in
    first ++ exprs_code classes scope (at + length first) es

-- the slots that an expression uses up: the `iso` variables that stand in it as values
abbrev pub used_path : Scope → Variable → List Name → List ℕ
used_path scope x [] = if is_iso (type_in scope x) then slot_of scope x ∷ [] else []
used_path scope x (f ∷ fs) = []

-- the slots that an expression uses up, in order
abbrev pub used_slots : Scope → Expr → List ℕ
used_slots scope (number z) = []
used_slots scope (boolean b) = []
used_slots scope nil = []
used_slots scope (path p) = used_path scope p.base p.fields
used_slots scope (is_nil p) = []
used_slots scope (neg a) = used_slots scope a
used_slots scope (not a) = used_slots scope a
used_slots scope (binary o a b) = used_slots scope a ++ used_slots scope b
used_slots scope (size q) = []
used_slots scope (element q e) = used_slots scope e

-- the slots that expressions use up, in order
abbrev pub used_by_all : Scope → List Expr → List ℕ
used_by_all scope [] = []
used_by_all scope (e ∷ es) = used_slots scope e ++ used_by_all scope es

-- slots that are cleared
abbrev pub clears : List ℕ → List Op
clears slots = map i.Clear slots

-- a whole expression, and then what it uses up is cleared
abbrev pub whole_code : List Class → Scope → (at : ℕ) → Expr → List Op
whole_code classes scope at e = expr_code classes scope at e ++ clears (used_slots scope e)

-- Calls

-- the number of the class of a type, or the number of classes
abbrev pub class_of : List Class → Ty → ℕ
class_of classes ty.Int = length classes
class_of classes ty.Bool = length classes
class_of classes (ty.Ref cap c) = c

-- the place of the first method of a name
abbrev pub method_place : List Method → Name → ℕ
method_place [] x = 0
method_place (m ∷ ms) x = if bytes_eq m.name x then 0 else suc (method_place ms x)

-- the methods of members in order
abbrev pub methods_among : List Member → List Method
methods_among [] = []
methods_among (field f ∷ ms) = methods_among ms
methods_among (method m ∷ ms) = m ∷ methods_among ms

-- the number of the first method of a name in the class of a number, counted through all classes in order
abbrev pub method_number : List Class → (c : ℕ) → Name → ℕ
method_number [] c x = 0
method_number (k ∷ ks) zero x = method_place (methods_among k.members) x
method_number (k ∷ ks) (suc c) x = length (methods_among k.members) + method_number ks c x

-- the number of the method of a name that is called, 0 where the class has none
abbrev pub number_called : List Class → (c : ℕ) → Name → ℕ
number_called classes c x = elim (method_named classes c x) [ None ↦ 0 | Some m ↦ method_number classes c x ]

-- the class of what a call is made on
abbrev pub target_class : List Class → Scope → Call → ℕ
target_class classes scope c = class_of classes (type_along classes (type_in scope c.target.base) c.target.fields)

-- `call q.m(a, b)`: the receiver and its test, the arguments, room for the frame, what the arguments use up, and the call
abbrev pub call_code : List Class → Scope → (at : ℕ) → Call → List Op
call_code classes scope at c =
    let receiver = path_code classes scope c.target.base c.target.fields ++ i.Check ∷ [] in
    receiver ++ (exprs_code classes scope (at + length receiver) c.args
    ++ i.Room ∷ (clears (used_by_all scope c.args) ++ i.Call (number_called classes (target_class classes scope c) c.method) ∷ []))

-- the type of the result of a call, if its method has one
abbrev pub call_result : List Class → Scope → Call → Option Ty
call_result classes scope c = elim (method_named classes (target_class classes scope c) c.method) [ None ↦ None | Some m ↦ method_result classes m ]

-- Right sides

-- `new C`, or the size and then the new array; `array` and `object` make them
abbrev pub new_code : List Class → Scope → (at : ℕ) → (object array : Op) → Option Expr → List Op
new_code classes scope at object array None = object ∷ []
new_code classes scope at object array (Some e) = expr_code classes scope at e ++ array ∷ []

-- a right side, which leaves its value on the stack
abbrev pub right_code : List Class → Scope → (at : ℕ) → Right → List Op
right_code classes scope at (value e) = whole_code classes scope at e
right_code classes scope at (new x n) = new_code classes scope at (i.New (class_number classes x)) (i.NewArray (class_number classes x)) n
right_code classes scope at (new_tmp x n) =
    new_code classes scope at (i.NewTmp (class_number classes x)) (i.NewTmpArray (class_number classes x)) n
right_code classes scope at (new_iso x n m) =
    new_code classes scope at (i.NewIso (class_number classes x) m) (i.NewIsoArray (class_number classes x) m) n
right_code classes scope at (freeze y) = i.Freeze (slot_of scope (Some y)) ∷ []
right_code classes scope at (merge y) = i.Merge (slot_of scope (Some y)) ∷ []
right_code classes scope at read = i.Read ∷ []
right_code classes scope at more = i.More ∷ []
right_code classes scope at (result_of c) = call_code classes scope at c

-- what comes last where a right side makes an object by `new C` or `new C [e]`
abbrev pub pace_code : Right → List Op
pace_code r = elim (right_made r) [
  | None ↦ []
  | Some x ↦ i.Pace ∷ []
]

-- a value goes into a slot that is there: what an `iso` variable owns is released
abbrev pub assign_op : Scope → Variable → Op
assign_op scope x = if is_iso (type_in scope x) then i.Own (slot_of scope x) else i.Store (slot_of scope x)

-- the result of a call that nothing takes
abbrev pub dropped_code : Option Ty → List Op
dropped_code None = []
dropped_code (Some t) = if is_iso t then i.Drop ∷ [] else i.Pop ∷ []

-- Statements

-- the variables behind a statement
abbrev pub scope_behind : List Class → Scope → StmtKind → Scope
scope_behind classes scope (declare x t r) = with_slot scope (Some x) (type_of classes t)
scope_behind classes scope (assign p r) = scope
scope_behind classes scope (assign_element q e r) = scope
scope_behind classes scope (call c) = scope
scope_behind classes scope (swap y p) = scope
scope_behind classes scope (branch e b other) = scope
scope_behind classes scope (while e b) = scope
scope_behind classes scope (enter p z b giving) = scope
scope_behind classes scope (print e) = scope
scope_behind classes scope collect = scope
scope_behind classes scope (return e) = scope

-- the variables in front of the block of an `enter`
abbrev pub scope_inside : List Class → Scope → Path → Name → Scope
scope_inside classes scope p z =
    with_slot scope (Some z) (ty.Ref cap.Mut (class_of classes (type_along classes (type_in scope p.base) p.fields)))

-- `x = r` and `q.f = r`, behind the mark
abbrev pub assign_code : List Class → Scope → (at : ℕ) → Variable → List Name → Right → List Op
assign_code classes scope at x [] r = right_code classes scope at r ++ assign_op scope x ∷ pace_code r
assign_code classes scope at x (f ∷ fs) r =
    let holder = holder_code classes scope x f fs ++ i.Check ∷ [] in
    holder ++ (right_code classes scope (at + length holder) r ++ i.Put (held_number classes scope x f fs) ∷ pace_code r)

-- `q[e] = r`, behind the mark
abbrev pub assign_element_code : List Class → Scope → (at : ℕ) → Path → Expr → Right → List Op
assign_element_code classes scope at q e r =
    let array = path_code classes scope q.base q.fields ++ i.Check ∷ [] in
    let index = expr_code classes scope (at + length array) e ++ i.Bound ∷ [] in
    array ++ (index ++ (right_code classes scope (at + length array + length index) r ++ i.PutElement ∷ pace_code r))

-- `swap y, q.f`, behind the mark
abbrev pub swap_code : List Class → Scope → Name → Variable → List Name → List Op
swap_code classes scope y x [] = []
swap_code classes scope y x (f ∷ fs) =
    holder_code classes scope x f fs ++ i.Check ∷ i.Swap (slot_of scope (Some y)) (held_number classes scope x f fs) ∷ []

-- how `enter x as z` and `enter q.f as z` begin, behind the mark
abbrev pub enter_code : List Class → Scope → Variable → List Name → List Op
enter_code classes scope x [] = i.Enter (slot_of scope x) (length scope) ∷ []
enter_code classes scope x (f ∷ fs) = holder_code classes scope x f fs ++ i.EnterField (held_number classes scope x f fs) (length scope) ∷ []

-- the variables at the end of a block
abbrev pub scope_at_end : List Class → Scope → Block → Scope
scope_at_end classes scope none = scope
scope_at_end classes scope (next (stmt line k) b) = scope_at_end classes (scope_behind classes scope k) b

-- the end of the block of an `enter`, behind the mark: the slots from one on end
abbrev pub leave_op : Scope → (s : ℕ) → (giving : Option Name) → Op
leave_op scope s None = i.Leave s
leave_op scope s (Some w) = i.LeaveGiving (slot_of scope (Some w)) s

abbrev mutual
  -- a statement of a line, from its mark on
  pub kind_code : List Class → Scope → (at : ℕ) → (line : ℕ) → StmtKind → List Op
  kind_code classes scope at line (declare x t r) = i.Mark line ∷ right_code classes scope (at + 1) r ++ i.Store (length scope) ∷ pace_code r
  kind_code classes scope at line (assign p r) = i.Mark line ∷ assign_code classes scope (at + 1) p.base p.fields r
  kind_code classes scope at line (assign_element q e r) = i.Mark line ∷ assign_element_code classes scope (at + 1) q e r
  kind_code classes scope at line (call c) = i.Mark line ∷ call_code classes scope (at + 1) c ++ dropped_code (call_result classes scope c)
  kind_code classes scope at line (swap y p) = i.Mark line ∷ swap_code classes scope y p.base p.fields
  kind_code classes scope at line (branch e b other) =
      let test = whole_code classes scope (at + 1) e in
      let inside = at + 1 + length test + 1 in
      let block = block_code classes scope inside b in
      i.Mark line ∷ (test ++ i.JumpFalse (inside + length block + else_gap other) ∷
      (block ++ i.Mark line ∷ i.End (length scope) ∷ else_code classes scope (inside + length block + 2) line other))
  kind_code classes scope at line (while e b) =
      let test = whole_code classes scope (at + 1) e in
      let inside = at + 1 + length test + 1 in
      let block = block_code classes scope inside b in
      i.Mark line ∷ (test ++ i.JumpFalse (inside + length block + 3) ∷ (block ++ i.Mark line ∷ i.End (length scope) ∷ i.Jump at ∷ []))
  kind_code classes scope at line (enter p z b giving) =
      let front = enter_code classes scope p.base p.fields in
      let inside = scope_inside classes scope p z in
      i.Mark line ∷ (front ++ (block_code classes inside (at + 1 + length front) b
      ++ i.Mark line ∷ leave_op (scope_at_end classes inside b) (length scope) giving ∷ []))
  kind_code classes scope at line (print e) = i.Mark line ∷ whole_code classes scope (at + 1) e ++ i.Print ∷ []
  kind_code classes scope at line collect = i.Mark line ∷ i.Collect ∷ []
  kind_code classes scope at line (return e) = i.Mark line ∷ whole_code classes scope (at + 1) e ++ i.Ret ∷ []

  -- what stands behind the first block of an `if` and its end
  pub else_code : List Class → Scope → (at : ℕ) → (line : ℕ) → Else → List Op
  else_code classes scope at line no_else = []
  else_code classes scope at line (otherwise b) =
      let block = block_code classes scope (at + 1) b in
      i.Jump (at + 1 + length block + 2) ∷ block ++ i.Mark line ∷ i.End (length scope) ∷ []

  -- the statements of a block
  pub block_code : List Class → Scope → (at : ℕ) → Block → List Op
  block_code classes scope at none = []
  block_code classes scope at (next (stmt line k) b) =
      let first = kind_code classes scope at line k in
      first ++ block_code classes (scope_behind classes scope k) (at + length first) b

  -- how far behind the first block of an `if` the code goes on where the test fails: behind the block's end, and behind a jump
  pub else_gap : Else → ℕ
  else_gap no_else = 2
  else_gap (otherwise b) = 3

-- Bodies

-- the variables of parameters in order
abbrev pub with_params : List Class → Scope → List Param → Scope
with_params classes scope [] = scope
with_params classes scope (p ∷ ps) = with_params classes (with_slot scope (Some p.name) (type_of classes p.ty)) ps

-- the variables in front of a method of the class of a number
abbrev pub method_scope : List Class → ℕ → Method → Scope
method_scope classes c m = with_params classes (with_slot [] None (ty.Ref m.receiver c)) m.params

-- the end of a method without a result; one with a result gives it by its last statement
abbrev pub method_end_code : (line : ℕ) → (result : Option Written) → List Op
method_end_code line None = i.Mark line ∷ i.RetVoid ∷ []
method_end_code line (Some t) = []

-- the body of a method of the class of a number
abbrev pub method_code : List Class → (at : ℕ) → ℕ → Method → List Op
method_code classes at c m = block_code classes (method_scope classes c m) at m.body ++ method_end_code m.line m.result

-- main's body
abbrev pub main_code : Tree → List Op
main_code t = block_code t.classes [] 0 t.body ++ i.Mark t.line ∷ i.End 0 ∷ i.Halt ∷ []

-- the least number above the slots that an instruction names; the slot of `end` doesn't count
abbrev pub above : Op → ℕ
above o = above_all (slots_in (operands_of o))

-- the number of slots of a body: the least one that isn't below `given` and is above all slots that it names
abbrev pub slots_of : (given : ℕ) → List Op → ℕ
slots_of given [] = given
slots_of given (o ∷ os) = max (above o) (slots_of given os)

-- The whole program

-- what stands behind main: the instructions of the methods, and where each begins
pub record Methods : Type 0 where
  pub ops : List Op
  pub entries : List Entry

-- a method in front of others
abbrev pub with_method : (at given : ℕ) → (body : List Op) → Methods → Methods
with_method at given body others = record {
  ops = body ++ others.ops;
  entries = record { at = at; given = given; slots = slots_of given body } ∷ others.entries;
}

-- the methods among the members of the class of a number, and then what stands behind the class
abbrev pub members_code : List Class → (at : ℕ) → ℕ → List Member → (ℕ → Methods) → Methods
members_code classes at c [] go = go at
members_code classes at c (field f ∷ ms) go = members_code classes at c ms go
members_code classes at c (method m ∷ ms) go =
    let body = method_code classes at c m in
    with_method at (suc (length m.params)) body (members_code classes (at + length body) c ms go)

-- the methods of classes in order, the first of which has the number
abbrev pub methods_code : List Class → (at : ℕ) → (c : ℕ) → List Class → Methods
methods_code classes at c [] = record { ops = []; entries = [] }
methods_code classes at c (k ∷ ks) = members_code classes at c k.members (λ behind. methods_code classes behind (suc c) ks)

-- the word with which a field starts
abbrev pub opening_word : Written → Word
opening_word int = word.Int (pos 0)
opening_word bool = word.Bool false
opening_word (ref cap x) = word.Nil

-- the words with which the fields of a class start
abbrev pub opening_words : List Member → List Word
opening_words [] = []
opening_words (field f ∷ ms) = opening_word f.ty ∷ opening_words ms
opening_words (method m ∷ ms) = opening_words ms

-- the opening of a class: the words with which its fields start, or the one with which each element does
abbrev pub opening_of : Option Written → List Member → List Word
opening_of None ms = opening_words ms
opening_of (Some t) ms = opening_word t ∷ []

-- the code of a program
abbrev pub lowered : Tree → Code
lowered t =
    let main = main_code t in
    let methods = methods_code t.classes (length main) 0 t.classes in
    record {
      ops = main ++ methods.ops;
      openings = map (λ (c : Class). opening_of c.element c.members) t.classes;
      entries = methods.entries;
      main_slots = slots_of 0 main;
    }

-- a code is that of a program
abbrev pub Lowers : Tree → Code → Type 0
Lowers t c = c ≡ lowered t
