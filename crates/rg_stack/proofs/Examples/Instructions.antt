-- Each instruction on a small machine, in the order of the instructions.
use Rattle.std.proofs.Common.{◌≡◌, ℕ, refl, pos, negsuc, true, false, List, [], ◌∷◌, Some, None, codes}
use Rattle.rg_base.specs.declared.object.Seen.{Seen}
use Rattle.rg_base.specs.declared.object.Label.{Label}
use Rattle.rg_base.specs.declared.object.Label.TheVariants as label
use Rattle.rg_base.specs.declared.object.Place.TheVariants as place
use Rattle.rg_base.specs.declared.outcome.Trap.TheVariants as trap
use Rattle.rg_base.specs.declared.value.Val.{Val}
use Rattle.rg_base.specs.declared.value.Val.TheVariants.{Nil, Int, Bool, Obj}
use Rattle.rg_base.specs.declared.value.Word.TheVariants as word
use Rattle.rg_base.specs.declared.words.Manager.TheVariants as manager
use Rattle.rg_code.specs.declared.op.Op.{Op}
use Rattle.rg_code.specs.declared.op.Op.TheVariants as i
use Rattle.rg_code.specs.Code.{Code}
use Rattle.rg_stack.specs.Machine.{Frame, Window, Machine}
use Rattle.rg_stack.specs.Effects.{Walked, Stops, Returns, Traps, Stuck, act}
use Rattle.rg_stack.specs.Tops.{Work}

-- an object of class 0, with a number and a reference
abbrev seen : ℕ → Val → Label → Seen
seen n r l = record { class = 0; fields = Int (pos n) ∷ r ∷ []; label = l }

-- object 0 lies in region 0; object 1 is the bridge of region 1, which owns region 2 with object 2
abbrev pub store : Label → Label → List Seen
store one two = seen 5 Nil (label.Region 0) ∷ seen 6 (Obj 2) one ∷ seen 7 Nil two ∷ []

abbrev pub plain_store : List Seen
plain_store = store (label.Region 1) (label.Region 2)

abbrev pub window : Window
window = record { number = 0; region = 0; owner = None; base = 0 }

abbrev pub machine_of : List Seen → List Frame → Machine
machine_of objects frames = record {
  store = objects;
  frames = frames;
  windows = window ∷ [];
  managers = manager.Arena ∷ manager.Trace ∷ manager.Count ∷ [];
  windows_made = 1;
  at = 10;
}

abbrev pub work_of : Machine → Work
work_of m = record { machine = m; input = codes "12 x"; printed = None }

-- slots: a reference to object 0, a number, the owner of region 1, and one that is free
abbrev pub slots : List Val
slots = Obj 0 ∷ Int (pos 3) ∷ Obj 1 ∷ Nil ∷ []

abbrev pub frame : List Val → Frame
frame values = record { slots = values; back = 0 }

-- the machine with these slots
abbrev pub with : List Val → Work
with values = work_of (machine_of plain_store (frame values ∷ []))

abbrev w : Work
w = with slots

abbrev pub code : Code
code = record {
  ops = [];
  openings = (word.Int (pos 0) ∷ word.Nil ∷ []) ∷ [];
  entries = record { at = 20; given = 2; slots = 3 } ∷ [];
  main_slots = 4;
}

-- an instruction at address 10 on a stack, and then nothing more: how many instructions it skips, and what it leaves
abbrev does : Op → List Val → Walked
does o stack = act code 10 o (λ skip left after. Returns skip left after) stack w

-- the same, which skips nothing and leaves the machine as it is
abbrev leaves : List Val → Walked
leaves stack = Returns 0 stack w

mark : does (i.Mark 4) [] ≡ Stops 10 w
mark = refl

int : does (i.Int (pos 8)) [] ≡ leaves (Int (pos 8) ∷ [])
int = refl

bool : does (i.Bool true) [] ≡ leaves (Bool true ∷ [])
bool = refl

nil : does i.Nil [] ≡ leaves (Nil ∷ [])
nil = refl

load : does (i.Load 1) [] ≡ leaves (Int (pos 3) ∷ [])
load = refl

clear : does (i.Clear 1) [] ≡ Returns 0 [] (with (Obj 0 ∷ Nil ∷ Obj 1 ∷ Nil ∷ []))
clear = refl

stores : does (i.Store 3) (Int (pos 4) ∷ Nil ∷ []) ≡ Returns 0 (Nil ∷ []) (with (Obj 0 ∷ Int (pos 3) ∷ Obj 1 ∷ Int (pos 4) ∷ []))
stores = refl

own : does (i.Own 2) (Nil ∷ []) ≡ Returns 0 [] (with (Obj 0 ∷ Int (pos 3) ∷ Nil ∷ Nil ∷ []))
own = refl

field : does (i.Field 0) (Obj 0 ∷ []) ≡ leaves (Int (pos 5) ∷ [])
field = refl

field_of_nil : does (i.Field 0) (Nil ∷ []) ≡ Traps trap.Nil
field_of_nil = refl

is_nil : does i.IsNil (Nil ∷ []) ≡ leaves (Bool true ∷ [])
is_nil = refl

neg : does i.Neg (Int (pos 3) ∷ []) ≡ leaves (Int (negsuc 2) ∷ [])
neg = refl

-- 5 and 3, the right operand on top
abbrev both : List Val
both = Int (pos 3) ∷ Int (pos 5) ∷ []

add : does i.Add both ≡ leaves (Int (pos 8) ∷ [])
add = refl

sub : does i.Sub both ≡ leaves (Int (pos 2) ∷ [])
sub = refl

mul : does i.Mul both ≡ leaves (Int (pos 15) ∷ [])
mul = refl

mul_overflows : does i.Mul (Int (pos 9223372036854775807) ∷ Int (pos 2) ∷ []) ≡ Traps trap.Overflow
mul_overflows = refl

div : does i.Div both ≡ leaves (Int (pos 1) ∷ [])
div = refl

div_by_zero : does i.Div (Int (pos 0) ∷ Int (pos 5) ∷ []) ≡ Traps trap.Zero
div_by_zero = refl

rem : does i.Rem both ≡ leaves (Int (pos 2) ∷ [])
rem = refl

eq : does i.Eq both ≡ leaves (Bool false ∷ [])
eq = refl

ne : does i.Ne both ≡ leaves (Bool true ∷ [])
ne = refl

lt : does i.Lt both ≡ leaves (Bool false ∷ [])
lt = refl

le : does i.Le both ≡ leaves (Bool false ∷ [])
le = refl

gt : does i.Gt both ≡ leaves (Bool true ∷ [])
gt = refl

ge : does i.Ge both ≡ leaves (Bool true ∷ [])
ge = refl

negation : does i.Not (Bool true ∷ []) ≡ leaves (Bool false ∷ [])
negation = refl

jump : does (i.Jump 4) [] ≡ Stops 4 w
jump = refl

jump_false : does (i.JumpFalse 14) (Bool false ∷ []) ≡ Returns 3 [] w
jump_false = refl

jump_false_goes_on : does (i.JumpFalse 14) (Bool true ∷ []) ≡ leaves []
jump_false_goes_on = refl

and_decides : does (i.And 12) (Bool false ∷ []) ≡ Returns 1 (Bool false ∷ []) w
and_decides = refl

and_goes_on : does (i.And 12) (Bool true ∷ []) ≡ leaves []
and_goes_on = refl

or_decides : does (i.Or 12) (Bool true ∷ []) ≡ Returns 1 (Bool true ∷ []) w
or_decides = refl

or_goes_on : does (i.Or 12) (Bool false ∷ []) ≡ leaves []
or_goes_on = refl

check : does i.Check (Obj 0 ∷ []) ≡ leaves (Obj 0 ∷ [])
check = refl

check_of_nil : does i.Check (Nil ∷ []) ≡ Traps trap.Nil
check_of_nil = refl

-- the machine with one more object
abbrev made : Label → Work
made l = work_of (record (machine_of plain_store (frame slots ∷ []))
    { store = seen 5 Nil (label.Region 0) ∷ seen 6 (Obj 2) (label.Region 1) ∷ seen 7 Nil (label.Region 2) ∷ seen 0 Nil l ∷ [] })

new : does (i.New 0) [] ≡ Returns 0 (Obj 3 ∷ []) (made (label.Region 0))
new = refl

new_tmp : does (i.NewTmp 0) [] ≡ Returns 0 (Obj 3 ∷ []) (made (label.Temp 0))
new_tmp = refl

new_iso : does (i.NewIso 0 manager.Arena) [] ≡ Returns 0 (Obj 3 ∷ [])
    (work_of (record (made (label.Region 3)).machine { managers = manager.Arena ∷ manager.Trace ∷ manager.Count ∷ manager.Arena ∷ [] }))
new_iso = refl

pace : does i.Pace [] ≡ leaves []
pace = refl

put : does (i.Put 0) (Int (pos 9) ∷ Obj 0 ∷ []) ≡ Returns 0 []
    (work_of (machine_of (seen 9 Nil (label.Region 0) ∷ seen 6 (Obj 2) (label.Region 1) ∷ seen 7 Nil (label.Region 2) ∷ []) (frame slots ∷ [])))
put = refl

swap : does (i.Swap 2 1) (Obj 0 ∷ []) ≡ Returns 0 []
    (work_of (machine_of (seen 5 (Obj 1) (label.Region 0) ∷ seen 6 (Obj 2) (label.Region 1) ∷ seen 7 Nil (label.Region 2) ∷ [])
    (frame (Obj 0 ∷ Int (pos 3) ∷ Nil ∷ Nil ∷ []) ∷ [])))
swap = refl

-- region 1 and region 2 beneath it
freeze : does (i.Freeze 2) [] ≡ Returns 0 (Obj 1 ∷ [])
    (work_of (machine_of (store label.Frozen label.Frozen) (frame (Obj 0 ∷ Int (pos 3) ∷ Nil ∷ Nil ∷ []) ∷ [])))
freeze = refl

freeze_of_nil : does (i.Freeze 3) [] ≡ Traps trap.Nil
freeze_of_nil = refl

-- region 1 alone
merge : does (i.Merge 2) [] ≡ Returns 0 (Obj 1 ∷ [])
    (work_of (machine_of (store (label.Region 0) (label.Region 2)) (frame (Obj 0 ∷ Int (pos 3) ∷ Nil ∷ Nil ∷ []) ∷ [])))
merge = refl

read : does i.Read [] ≡ Returns 0 (Int (pos 12) ∷ []) (record w { input = codes " x" })
read = refl

more : does i.More [] ≡ leaves (Bool true ∷ [])
more = refl

room : does i.Room [] ≡ leaves []
room = refl

-- the receiver and an argument go into a new frame of three slots
call : does (i.Call 0) (Int (pos 8) ∷ Obj 0 ∷ []) ≡ Stops 20
    (work_of (machine_of plain_store (record { slots = Obj 0 ∷ Int (pos 8) ∷ Nil ∷ []; back = 11 } ∷ frame slots ∷ [])))
call = refl

-- the machine in a method that was called at address 6
abbrev called : Work
called = work_of (machine_of plain_store (record { slots = Obj 0 ∷ Int (pos 8) ∷ Nil ∷ []; back = 7 } ∷ frame slots ∷ []))

abbrev there : Op → List Val → Walked
there o stack = act code 30 o (λ skip left after. Stuck) stack called

ret : there i.Ret (Int (pos 1) ∷ []) ≡ Returns 7 (Int (pos 1) ∷ []) w
ret = refl

ret_void : there i.RetVoid [] ≡ Returns 7 [] w
ret_void = refl

-- main's frame isn't left
ret_of_main : does i.RetVoid [] ≡ Stuck
ret_of_main = refl

enter : does (i.Enter 2 3) [] ≡ Returns 0 []
    (work_of (record (machine_of plain_store (frame (Obj 0 ∷ Int (pos 3) ∷ Obj 1 ∷ Obj 1 ∷ []) ∷ [])) {
      windows = record { number = 1; region = 1; owner = Some (place.Var 0 2); base = 3 } ∷ window ∷ [];
      windows_made = 2;
    }))
enter = refl

enter_field : does (i.EnterField 1 3) (Obj 1 ∷ []) ≡ Returns 0 []
    (work_of (record (machine_of plain_store (frame (Obj 0 ∷ Int (pos 3) ∷ Obj 1 ∷ Obj 2 ∷ []) ∷ [])) {
      windows = record { number = 1; region = 2; owner = Some (place.Field 1 1); base = 3 } ∷ window ∷ [];
      windows_made = 2;
    }))
enter_field = refl

enter_of_nil : does (i.Enter 3 3) [] ≡ Traps trap.Nil
enter_of_nil = refl

-- the machine in the block of an `enter`
abbrev pub entered : Work
entered = work_of (record (machine_of plain_store (frame (Obj 0 ∷ Int (pos 3) ∷ Obj 1 ∷ Obj 1 ∷ []) ∷ [])) {
  windows = record { number = 1; region = 1; owner = Some (place.Var 0 2); base = 3 } ∷ window ∷ [];
  windows_made = 2;
})

leave : act code 10 (i.Leave 3) (λ skip left after. Returns skip left after) [] entered
    ≡ Returns 0 [] (record w { machine = record w.machine { windows_made = 2 } })
leave = refl

end : does (i.End 1) [] ≡ Returns 0 [] (with (Obj 0 ∷ Nil ∷ Nil ∷ Nil ∷ []))
end = refl

print : does i.Print (Int (pos 8) ∷ []) ≡ Returns 0 [] (record w { printed = Some (Int (pos 8)) })
print = refl

collect : does i.Collect [] ≡ leaves []
collect = refl

pop : does i.Pop (Nil ∷ []) ≡ leaves []
pop = refl

drop : does i.Drop (Obj 1 ∷ []) ≡ leaves []
drop = refl

halt : does i.Halt [] ≡ Stops 10 w
halt = refl
