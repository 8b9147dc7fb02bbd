-- What right sides and calls do in a step (docs/language.md, "Steps"). A class, a method or a region that isn't there changes nothing.
use Rattle.std.specs.Prelude.{ℕ, ℤ, suc, nat_lt, pos, negsuc, Bool as Truth, true, false, if◌then◌else◌, List, [], ◌∷◌, ◌++◌, length, map, flat_map}
use Rattle.std.specs.Prelude.{replicate, Option, Some, None, option_map, Result, Ok, Err}
use Rattle.rg_base.specs.declared.limits.TheConstants.{FRAMES, ARRAY_SIZE}
use Rattle.rg_base.specs.declared.ty.Ty.TheVariants.{Ref}
use Rattle.rg_base.specs.declared.words.Manager.{Manager}
use Rattle.rg_base.specs.declared.object.Label.{Label}
use Rattle.rg_base.specs.declared.object.Label.TheVariants.{Region, Temp, Frozen}
use Rattle.rg_base.specs.declared.object.Seen.{Seen}
use Rattle.rg_base.specs.declared.value.Val.{Val}
use Rattle.rg_base.specs.declared.value.Val.TheVariants.{Nil, Int, Bool, Obj}
use Rattle.rg_base.specs.declared.outcome.Trap.{Trap}
use Rattle.rg_base.specs.declared.outcome.Trap.TheVariants.{Input, End, Depth, Size}
use Rattle.rg_base.specs.Input.{NextNumber, found, malformed, at_end, next_number}
use Rattle.rg_tree.specs.Tree.{Param, Name, Variable, Ty as Written, int, bool, ref, Expr, Call, Right, value, new, new_tmp, new_iso, freeze, merge}
use Rattle.rg_tree.specs.Tree.{read, more, result_of, Method, Class}
use Rattle.rg_rules.specs.Answers.{◌>>=◌, ◌>>◌, test}
use Rattle.rg_rules.specs.Types.{class_named, class_number, type_of, fields_of, method_named}
use Rattle.rg_rules.specs.Items.{items_of}
use Rattle.rg_rules.specs.Bodies.{method_end}
use Rattle.rg_rules.specs.State.{Local, Target, Frame, State, locals_of, with_top, value_in, put_local, active, top_number}
use Rattle.rg_rules.specs.Values.{as_int}
use Rattle.rg_rules.specs.Evaluation.{object_at, path_value, value_of, values_of, uses, cleared, computed}
use Rattle.rg_rules.specs.Regions.{region_of, beneath, relabelled}

-- what is done with a value, once it is computed
abbrev pub Use : Type 0
Use = State → Val → State

-- the value with which a field starts
abbrev pub opening_value : Written → Val
opening_value int = Int (pos 0)
opening_value bool = Bool false
opening_value (ref cap x) = Nil

-- a new object
abbrev pub new_object : List Class → Name → Label → Seen
new_object classes x label = record {
  class = class_number classes x;
  fields = map (λ f. opening_value f.ty) (fields_of classes (class_number classes x));
  label = label;
}

-- a new object at the end of the store
abbrev pub made : List Class → State → Use → Name → Label → State
made classes s put x label = elim (class_named classes x) [
  | None ↦ s
  | Some c ↦ put (record s { store = s.store ++ new_object classes x label ∷ [] }) (Obj (length s.store))
]

-- the number of elements that a number says, if an array can have so many
abbrev pub size_within : ℤ → Result ℕ Trap
size_within (pos n) = if nat_lt n (suc ARRAY_SIZE) then Ok n else Err Size
size_within (negsuc n) = Err Size

-- the number of elements that a value says
abbrev pub array_size : Val → Result ℕ Trap
array_size v = size_within (as_int v)

-- the value with which an element starts, by its type; what isn't the element of an array class is nil
abbrev pub opening_element : Option Written → Val
opening_element None = Nil
opening_element (Some t) = opening_value t

-- a new array of a class with so many elements
abbrev pub new_array : List Class → Name → Class → (size : ℕ) → Label → Seen
new_array classes x c n label = record { class = class_number classes x; fields = replicate n (opening_element c.element); label = label }

-- a new array at the end of the store, behind its size, which uses no variable up: numbers are never `iso`
abbrev pub made_array : List Class → State → Use → Name → (size : Expr) → Label → Result State Trap
made_array classes s put x e label = elim (class_named classes x) [
  | None ↦ Ok s
  | Some c ↦ do
    v ← value_of classes s.store (locals_of s) e
    n ← array_size v
    Ok (put (record s { store = s.store ++ new_array classes x c n label ∷ [] }) (Obj (length s.store)))
]

-- a new object, or a new array where a size stands
abbrev pub made_new : List Class → State → Use → Name → (size : Option Expr) → Label → Result State Trap
made_new classes s put x None label = Ok (made classes s put x label)
made_new classes s put x (Some e) label = made_array classes s put x e label

-- a new region with its manager, and then what is done with a value
abbrev pub with_region : Manager → Use → Use
with_region m put s v = put (record s { managers = s.managers ++ m ∷ [] }) v

-- the state after a region and all beneath it were frozen
abbrev pub frozen : List Class → State → ℕ → State
frozen classes s r = record s { store = relabelled (beneath classes s.store (length s.managers) (r ∷ [])) Frozen s.store }

-- the state after the objects of a region, and of that alone, went to the active one
abbrev pub merged : State → ℕ → State
merged s r = record s { store = relabelled (r ∷ []) (Region (active s.windows)) s.store }

-- a variable becomes nil and its value is used, in the state after its region was frozen or merged
abbrev pub consumed : State → Use → Variable → (after : Option State) → State
consumed s put y None = s
consumed s put y (Some t) = put (put_local y t Nil) (value_in (locals_of s) y)

-- the next number of the input is taken and used
abbrev pub taken : State → Use → NextNumber → Result State Trap
taken s put (found z rest) = Ok (put (record s { input = rest }) (Int z))
taken s put malformed = Err Input
taken s put at_end = Err End

-- whether anything but blanks is left of the input
abbrev pub is_left : NextNumber → Truth
is_left (found z rest) = true
is_left malformed = true
is_left at_end = false

-- the parameters with their values; one without a value is nil
abbrev pub bound : List Class → List Param → List Val → List Local
bound classes [] vs = []
bound classes (p ∷ ps) [] = record { name = Some p.name; ty = type_of classes p.ty; value = Nil } ∷ bound classes ps []
bound classes (p ∷ ps) (v ∷ vs) = record { name = Some p.name; ty = type_of classes p.ty; value = v } ∷ bound classes ps vs

-- the frame of a call: `self` and the parameters
abbrev pub called_frame : List Class → Target → Method → (class : ℕ) → (self : Val) → List Val → Frame
called_frame classes target m class self args =
    record { locals = record { name = None; ty = Ref m.receiver class; value = self } ∷ bound classes m.params args; target = target }

-- a call of a method: the arguments, then the count of frames, then the new frame
abbrev pub called : List Class → State → Target → Call → (self : Val) → (class : ℕ) → Option Method → Result State Trap
called classes s target c self class None = Ok s
called classes s target c self class (Some m) = do
  args ← values_of classes s.store (locals_of s) c.args
  test (nat_lt (length s.frames) FRAMES) Depth
  Ok (record s {
    frames = called_frame classes target m class self args ∷ with_top (cleared (flat_map (uses (locals_of s)) c.args) (locals_of s)) s.frames;
    items = items_of m.body (method_end m.result ++ s.items);
  })

-- a call: the receiver is followed and tested first
abbrev pub step_call : List Class → State → Target → Call → Result State Trap
step_call classes s target c = do
  self ← path_value classes s.store (locals_of s) c.target
  o ← object_at s.store self
  called classes s target c self o.class (method_named classes o.class c.method)

-- a right side, and what is done with its value; the value of a call goes to its target later
abbrev pub with_right : List Class → State → Target → Use → Right → Result State Trap
with_right classes s target put (value e) = do
  done ← computed classes s e
  Ok (put done.0 done.1)
with_right classes s target put (new x size) = made_new classes s put x size (Region (active s.windows))
with_right classes s target put (new_tmp x size) = made_new classes s put x size (Temp (top_number s.windows))
with_right classes s target put (new_iso x size m) = made_new classes s (with_region m put) x size (Region (length s.managers))
with_right classes s target put (freeze y) = do
  o ← object_at s.store (value_in (locals_of s) (Some y))
  Ok (consumed s put (Some y) (option_map (frozen classes s) (region_of o.label)))
with_right classes s target put (merge y) = do
  o ← object_at s.store (value_in (locals_of s) (Some y))
  Ok (consumed s put (Some y) (option_map (merged s) (region_of o.label)))
with_right classes s target put read = taken s put (next_number s.input)
with_right classes s target put more = Ok (put s (Bool (is_left (next_number s.input))))
with_right classes s target put (result_of c) = step_call classes s target c
