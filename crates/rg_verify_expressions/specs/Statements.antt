-- Statements with numbers in place of names, and their code (docs/architecture.md, "Modules").
use Rattle.std.specs.Prelude.{ℕ, ◌+◌, if◌then◌else◌, List, [], ◌∷◌, ◌++◌, length, slice_get, unwrap_or, Option, Some, None}
use Rattle.rg_base.specs.declared.words.Manager.{Manager}
use Rattle.rg_base.specs.declared.ty.Ty.{Ty}
use Rattle.rg_base.specs.declared.words.Cap.TheVariants as cap
use Rattle.rg_base.specs.declared.ty.Ty.TheVariants as ty
use Rattle.rg_rules.specs.Capabilities.{is_iso}
use Rattle.rg_code.specs.declared.op.Op.{Op}
use Rattle.rg_code.specs.declared.op.Op.TheVariants as i
use Rattle.rg_code.specs.Lowering.{clears, dropped_code}
use Rattle.rg_verify_expressions.specs.declared.callee.Callee.{Callee}
use Rattle.rg_verify_expressions.specs.Raised.{Raised, number, boolean, nil, path, is_nil, size, element, neg, not, binary, path_ops, holder_ops, place_ops}
use Rattle.rg_verify_expressions.specs.Raised.{ops_of}
use Rattle.rg_verify_expressions.specs.Raised.{all_ops}

-- `call v0.f1.m2(a, b)`
pub record Call : Type 0 where
  pub slot : ℕ
  pub fields : List ℕ
  pub callee : Callee
  pub args : List Raised

-- what stands right of `=`
pub data Right : Type 0 where
  -- `e`
  value : Raised → Right
  -- `new c0` and `new c0 [e]`
  new : (class : ℕ) → (count : Option Raised) → Right
  -- `new tmp c0` and `new tmp c0 [e]`
  new_tmp : (class : ℕ) → (count : Option Raised) → Right
  -- `new iso c0 in trace` and `new iso c0 [e] in trace`
  new_iso : (class : ℕ) → (count : Option Raised) → Manager → Right
  -- `freeze v0`
  freeze : (slot : ℕ) → Right
  -- `merge v0`
  merge : (slot : ℕ) → Right
  -- `read`
  read : Right
  -- `more`
  more : Right
  -- `call v0.m2(a, b)`
  result_of : Call → Right

mutual
  -- a statement
  pub data Kind : Type 0 where
    -- `let v3: T = r;`, whose variable comes into the next slot
    declare : Ty → Right → Kind
    -- `v0 = r;`
    assign : (slot : ℕ) → Right → Kind
    -- `v0.f1.f2 = r;`, whose last field is apart
    write : (slot : ℕ) → (fields : List ℕ) → (field : ℕ) → Right → Kind
    -- `v0.f1[e] = r;`
    write_element : (slot : ℕ) → (fields : List ℕ) → (index : Raised) → Right → Kind
    -- `call v0.m2(a, b);`
    call : Call → Kind
    -- `swap v3, v0.f1.f2;`
    swap : (own : ℕ) → (slot : ℕ) → (fields : List ℕ) → (field : ℕ) → Kind
    -- `if e { .. }`, and what stands behind it
    branch : Raised → Block → Else → Kind
    -- `while e { .. }`
    while : Raised → Block → Kind
    -- `enter v0 as v3 { .. }`, with the class of the bridge, which comes into the next slot; and `enter v0 as v3 { .. } giving v4;`
    enter : (slot : ℕ) → (class : ℕ) → Block → (giving : Option ℕ) → Kind
    -- `enter v0.f1.f2 as v3 { .. }`, and with `giving`
    enter_field : (slot : ℕ) → (fields : List ℕ) → (field : ℕ) → (class : ℕ) → Block → (giving : Option ℕ) → Kind
    -- `print e;`
    print : Raised → Kind
    -- `collect;`
    collect : Kind
    -- `return e;`
    return : Raised → Kind

  -- what stands behind the first block of an `if`
  pub data Else : Type 0 where
    -- nothing
    no_else : Else
    -- `else { .. }`
    otherwise : Block → Else

  -- the statements of a block in order, each with its line
  pub data Block : Type 0 where
    empty : Block
    next : (line : ℕ) → Kind → Block → Block

-- Slots. The types of the variables at a point of a body, in order of their slots, are all that the code of a statement needs beside it.

-- the type of the variable in a slot
abbrev pub type_at : (types : List Ty) → (slot : ℕ) → Ty
type_at types s = unwrap_or (slice_get types s) ty.Int

-- the slots that a path uses up: that of an `iso` variable as a value
abbrev pub used_by_path : (types : List Ty) → (slot : ℕ) → (fields : List ℕ) → List ℕ
used_by_path types s [] = if is_iso (type_at types s) then s ∷ [] else []
used_by_path types s (k ∷ ks) = []

-- the slots that an expression uses up, in order
abbrev pub used : (types : List Ty) → Raised → List ℕ
used types (number z) = []
used types (boolean b) = []
used types nil = []
used types (path s ks) = used_by_path types s ks
used types (is_nil s ks) = []
used types (size s ks) = []
used types (element s ks e) = used types e
used types (neg a) = used types a
used types (not a) = used types a
used types (binary o a b) = used types a ++ used types b

-- the slots that expressions use up, in order
abbrev pub all_used : (types : List Ty) → List Raised → List ℕ
all_used types [] = []
all_used types (r ∷ rs) = used types r ++ all_used types rs

-- the types behind a statement
abbrev pub types_behind : (types : List Ty) → Kind → List Ty
types_behind types (declare t r) = types ++ t ∷ []
types_behind types (assign s r) = types
types_behind types (write s ks k r) = types
types_behind types (write_element s ks e r) = types
types_behind types (call c) = types
types_behind types (swap y s ks k) = types
types_behind types (branch e b other) = types
types_behind types (while e b) = types
types_behind types (enter s c b w) = types
types_behind types (enter_field s ks k c b w) = types
types_behind types (print e) = types
types_behind types collect = types
types_behind types (return e) = types

-- the types in front of the block of an `enter`, whose bridge is of a class
abbrev pub types_inside : (types : List Ty) → (class : ℕ) → List Ty
types_inside types c = types ++ ty.Ref cap.Mut c ∷ []

-- Code

-- a whole expression, and then what it uses up is cleared
abbrev pub whole_ops : (types : List Ty) → (at : ℕ) → Raised → List Op
whole_ops types at e = ops_of at e ++ clears (used types e)

-- a call: the receiver and its test, the arguments, room for the frame, what the arguments use up, and the call
abbrev pub call_ops : (types : List Ty) → (at : ℕ) → Call → List Op
call_ops types at c =
    let receiver = holder_ops c.slot c.fields in
    receiver ++ (all_ops (at + length receiver) c.args ++ i.Room ∷ (clears (all_used types c.args) ++ i.Call c.callee.number ∷ []))

-- a new object; or the number of elements, and then the new array
abbrev pub new_ops : (at : ℕ) → (object array : Op) → (count : Option Raised) → List Op
new_ops at object array None = object ∷ []
new_ops at object array (Some e) = ops_of at e ++ array ∷ []

-- a right side, which leaves its value on the stack
abbrev pub right_ops : (types : List Ty) → (at : ℕ) → Right → List Op
right_ops types at (value e) = whole_ops types at e
right_ops types at (new c n) = new_ops at (i.New c) (i.NewArray c) n
right_ops types at (new_tmp c n) = new_ops at (i.NewTmp c) (i.NewTmpArray c) n
right_ops types at (new_iso c n m) = new_ops at (i.NewIso c m) (i.NewIsoArray c m) n
right_ops types at (freeze s) = i.Freeze s ∷ []
right_ops types at (merge s) = i.Merge s ∷ []
right_ops types at read = i.Read ∷ []
right_ops types at more = i.More ∷ []
right_ops types at (result_of c) = call_ops types at c

-- what comes last where a right side makes an object by `new c0` or `new c0 [e]`
abbrev pub pace_ops : Right → List Op
pace_ops (value e) = []
pace_ops (new c n) = i.Pace ∷ []
pace_ops (new_tmp c n) = []
pace_ops (new_iso c n m) = []
pace_ops (freeze s) = []
pace_ops (merge s) = []
pace_ops read = []
pace_ops more = []
pace_ops (result_of c) = []

-- a value goes into a slot that is there: what an `iso` variable owns is released
abbrev pub assign_op : (types : List Ty) → (slot : ℕ) → Op
assign_op types s = if is_iso (type_at types s) then i.Own s else i.Store s

-- how a window is left, from a slot on
abbrev pub leave_op : (slots : ℕ) → (giving : Option ℕ) → Op
leave_op n None = i.Leave n
leave_op n (Some w) = i.LeaveGiving w n

-- how far behind the first block of an `if` the code goes on where the test fails: behind the block's end, and behind a jump
abbrev pub else_gap : Else → ℕ
else_gap no_else = 2
else_gap (otherwise b) = 3

abbrev mutual
  -- a statement of a line, from its mark on
  pub kind_ops : (types : List Ty) → (at : ℕ) → (line : ℕ) → Kind → List Op
  kind_ops types at line (declare t r) = i.Mark line ∷ right_ops types (at + 1) r ++ i.Store (length types) ∷ pace_ops r
  kind_ops types at line (assign s r) = i.Mark line ∷ right_ops types (at + 1) r ++ assign_op types s ∷ pace_ops r
  kind_ops types at line (write s ks k r) =
      let holder = holder_ops s ks in
      i.Mark line ∷ holder ++ (right_ops types (at + 1 + length holder) r ++ i.Put k ∷ pace_ops r)
  kind_ops types at line (write_element s ks e r) =
      let place = place_ops (at + 1) s ks e in
      i.Mark line ∷ place ++ (right_ops types (at + 1 + length place) r ++ i.PutElement ∷ pace_ops r)
  kind_ops types at line (call c) = i.Mark line ∷ call_ops types (at + 1) c ++ dropped_code c.callee.result
  kind_ops types at line (swap y s ks k) = i.Mark line ∷ path_ops s ks ++ i.Check ∷ i.Swap y k ∷ []
  kind_ops types at line (branch e b other) =
      let test = whole_ops types (at + 1) e in
      let inside = at + 1 + length test + 1 in
      let block = block_ops types inside b in
      i.Mark line ∷ (test ++ i.JumpFalse (inside + length block + else_gap other) ∷
      (block ++ i.Mark line ∷ i.End (length types) ∷ else_ops types (inside + length block + 2) line other))
  kind_ops types at line (while e b) =
      let test = whole_ops types (at + 1) e in
      let inside = at + 1 + length test + 1 in
      let block = block_ops types inside b in
      i.Mark line ∷ (test ++ i.JumpFalse (inside + length block + 3) ∷ (block ++ i.Mark line ∷ i.End (length types) ∷ i.Jump at ∷ []))
  kind_ops types at line (enter s c b w) =
      let n = length types in
      i.Mark line ∷ i.Enter s n ∷ (block_ops (types_inside types c) (at + 1 + 1) b ++ i.Mark line ∷ leave_op n w ∷ [])
  kind_ops types at line (enter_field s ks k c b w) =
      let n = length types in
      let front = path_ops s ks ++ i.EnterField k n ∷ [] in
      i.Mark line ∷ (front ++ (block_ops (types_inside types c) (at + 1 + length front) b ++ i.Mark line ∷ leave_op n w ∷ []))
  kind_ops types at line (print e) = i.Mark line ∷ whole_ops types (at + 1) e ++ i.Print ∷ []
  kind_ops types at line collect = i.Mark line ∷ i.Collect ∷ []
  kind_ops types at line (return e) = i.Mark line ∷ whole_ops types (at + 1) e ++ i.Ret ∷ []

  -- what stands behind the first block of an `if` and its end
  pub else_ops : (types : List Ty) → (at : ℕ) → (line : ℕ) → Else → List Op
  else_ops types at line no_else = []
  else_ops types at line (otherwise b) =
      let block = block_ops types (at + 1) b in
      i.Jump (at + 1 + length block + 2) ∷ block ++ i.Mark line ∷ i.End (length types) ∷ []

  -- the statements of a block
  pub block_ops : (types : List Ty) → (at : ℕ) → Block → List Op
  block_ops types at empty = []
  block_ops types at (next line k b) =
      let first = kind_ops types at line k in
      first ++ block_ops (types_behind types k) (at + length first) b
