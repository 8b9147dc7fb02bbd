-- What instructions need, on the small machine of `Instructions`: slot 2 owns region 1, and field 1 of object 1 region 2.
use Rattle.std.proofs.Common.{◌≡◌, refl, pos, true, false, Bool as Truth, List, [], ◌∷◌}
use Rattle.rg_base.specs.declared.value.Val.{Val}
use Rattle.rg_base.specs.declared.value.Val.TheVariants.{Nil, Int, Obj}
use Rattle.rg_code.specs.declared.op.Op.{Op}
use Rattle.rg_code.specs.declared.op.Op.TheVariants as i
use Rattle.rg_stack.specs.Effects.{Stuck}
use Rattle.rg_stack.specs.Needs.{needs, owned_once}
use Rattle.rg_stack.specs.Given.{given_act}
use Rattle.rg_stack.proofs.Examples.Instructions.{machine_of, plain_store, frame, slots, with, code, entered}

-- whether an instruction is given what it needs where slots hold these values
abbrev has : List Val → Op → List Val → Truth
has values o stack = needs code o stack (machine_of plain_store (frame values ∷ []))

abbrev given : Op → List Val → Truth
given o stack = has slots o stack

-- what an owner's slot owns is on the stack when it is cleared
clear : given (i.Clear 2) (Obj 1 ∷ []) ≡ true
clear = refl

clear_loses : given (i.Clear 2) [] ≡ false
clear_loses = refl

-- a slot that owns isn't stored over
store_over_owner : given (i.Store 2) (Nil ∷ []) ≡ false
store_over_owner = refl

store_behind : given (i.Store 4) (Nil ∷ []) ≡ false
store_behind = refl

-- it is owned over, and what comes there is owned nowhere
own : given (i.Own 2) (Nil ∷ []) ≡ true
own = refl

own_twice : given (i.Own 3) (Obj 1 ∷ []) ≡ false
own_twice = refl

own_no_owner : given (i.Own 0) (Nil ∷ []) ≡ false
own_no_owner = refl

-- two slots that own the same
two_owners : owned_once (machine_of plain_store (frame (Obj 0 ∷ Obj 1 ∷ Obj 1 ∷ Nil ∷ []) ∷ [])) ≡ false
two_owners = refl

-- a slot and a field
slot_and_field : has (Obj 0 ∷ Obj 2 ∷ Obj 1 ∷ Nil ∷ []) (i.End 1) [] ≡ false
slot_and_field = refl

field_behind : given (i.Field 2) (Obj 0 ∷ []) ≡ false
field_behind = refl

field_of_nil : given (i.Field 2) (Nil ∷ []) ≡ true
field_of_nil = refl

-- no field is read through the owner of a closed region
field_of_owner : given (i.Field 0) (Obj 1 ∷ []) ≡ false
field_of_owner = refl

-- object 0 may be written, but not with what leads into another region; object 1 lies in a closed region
put : given (i.Put 1) (Obj 0 ∷ Obj 0 ∷ []) ≡ true
put = refl

put_owner : given (i.Put 1) (Obj 1 ∷ Obj 0 ∷ []) ≡ false
put_owner = refl

put_closed : given (i.Put 1) (Nil ∷ Obj 1 ∷ []) ≡ false
put_closed = refl

swap : given (i.Swap 2 1) (Obj 0 ∷ []) ≡ true
swap = refl

swap_no_owner : given (i.Swap 0 1) (Obj 0 ∷ []) ≡ false
swap_no_owner = refl

freeze : given (i.Freeze 2) [] ≡ true
freeze = refl

freeze_of_no_owner : given (i.Freeze 0) [] ≡ false
freeze_of_no_owner = refl

-- a call takes all that is on the stack
call_leaves_some : given (i.Call 0) (Int (pos 8) ∷ Obj 0 ∷ Nil ∷ []) ≡ false
call_leaves_some = refl

ret_owner : given i.Ret (Obj 1 ∷ []) ≡ false
ret_owner = refl

enter : given (i.Enter 2 3) [] ≡ true
enter = refl

enter_of_no_owner : given (i.Enter 0 3) [] ≡ false
enter_of_no_owner = refl

-- inside the window that begins at slot 3, where slot 0 is nil: a slot in front of it takes nothing that leads into an open region
abbrev inside : Op → List Val → Truth
inside o stack = needs code o stack (record entered.machine { frames = frame (Nil ∷ Int (pos 3) ∷ Obj 1 ∷ Obj 1 ∷ []) ∷ [] })

store_inside : inside (i.Store 3) (Obj 1 ∷ []) ≡ true
store_inside = refl

store_in_front : inside (i.Store 1) (Int (pos 4) ∷ []) ≡ true
store_in_front = refl

store_open_in_front : inside (i.Store 1) (Obj 1 ∷ []) ≡ false
store_open_in_front = refl

own_in_front : inside (i.Own 0) (Nil ∷ []) ≡ true
own_in_front = refl

own_open_in_front : inside (i.Own 0) (Obj 0 ∷ []) ≡ false
own_open_in_front = refl

-- the window that closes has its region's owner
leave : needs code (i.Leave 3) [] entered.machine ≡ true
leave = refl

-- and all its slots end
leave_keeps_a_slot : needs code (i.Leave 4) [] entered.machine ≡ false
leave_keeps_a_slot = refl

-- a result that is owned elsewhere isn't given up, one that is owned nowhere is
drop_owned : given i.Drop (Obj 1 ∷ []) ≡ false
drop_owned = refl

drop : has (Obj 0 ∷ Nil ∷ Nil ∷ Nil ∷ []) i.Drop (Obj 1 ∷ []) ≡ true
drop = refl

-- an instruction without what it needs is stuck
stuck : given_act code 10 (i.Store 2) (λ skip left after. Stuck) (Nil ∷ []) (with slots) ≡ Stuck
stuck = refl
