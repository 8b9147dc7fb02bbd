-- Arrays, and what is given where a window closes: the instructions, what they need, and a run.
use Rattle.std.proofs.Common.{◌≡◌, ℕ, refl, pos, negsuc, true, false, List, [], ◌∷◌, None}
use Rattle.rg_base.specs.declared.object.Seen.{Seen}
use Rattle.rg_base.specs.declared.object.Label.{Label}
use Rattle.rg_base.specs.declared.object.Label.TheVariants as label
use Rattle.rg_base.specs.declared.outcome.Trap.TheVariants as trap
use Rattle.rg_base.specs.declared.value.Val.{Val}
use Rattle.rg_base.specs.declared.value.Val.TheVariants.{Nil, Int, Obj}
use Rattle.rg_base.specs.declared.value.Word.TheVariants as word
use Rattle.rg_rules.specs.Acceptance.{first_fault}
use Rattle.rg_rules.specs.Runs.{plain_from, plain}
use Rattle.rg_rules.specs.Runs as plain
use Rattle.rg_code.specs.declared.op.Op.{Op}
use Rattle.rg_code.specs.declared.op.Op.TheVariants as i
use Rattle.rg_code.specs.Code.{Code}
use Rattle.rg_code.specs.Lowering.{lowered}
use Rattle.rg_stack.specs.Machine.{Machine}
use Rattle.rg_stack.specs.Effects.{Walked, Returns, Traps, Stuck, act}
use Rattle.rg_stack.specs.Tops.{Work}
use Rattle.rg_stack.specs.Needs.{needs}
use Rattle.rg_stack.specs.Runs.{Stopped, coded_from, coded}
use Rattle.rg_stack.proofs.Examples.Instructions.{machine_of, frame, work_of, entered}
use Rattle.rg_stack.proofs.Examples.Programs.{arrays}

-- class 1 is an array class of numbers, class 2 one of references
abbrev code : Code
code = record {
  ops = [];
  openings = [] ∷ (word.Int (pos 0) ∷ []) ∷ (word.Nil ∷ []) ∷ [];
  entries = [];
  main_slots = 1;
}

abbrev array : ℕ → List Val → Label → Seen
array c elements l = record { class = c; fields = elements; label = l }

-- object 0 is an array of two numbers, object 1 one of a reference, both of region 0, and object 2 one of region 1, which slot 2 owns
abbrev held : List Seen
held = array 1 (Int (pos 5) ∷ Int (pos 6) ∷ []) (label.Region 0) ∷ array 2 (Nil ∷ []) (label.Region 0) ∷ array 2 (Nil ∷ []) (label.Region 1) ∷ []

abbrev m : Machine
m = machine_of held (frame (Obj 0 ∷ Obj 1 ∷ Obj 2 ∷ []) ∷ [])

abbrev does : Op → List Val → Walked
does o stack = act code 10 o (λ skip left after. Returns skip left after) stack (work_of m)

abbrev leaves : List Val → Walked
leaves stack = Returns 0 stack (work_of m)

abbrev with : List Seen → Work
with objects = work_of (record m { store = objects })

new_array : does (i.NewArray 1) (Int (pos 2) ∷ Nil ∷ []) ≡ Returns 0 (Obj 3 ∷ Nil ∷ [])
    (with (array 1 (Int (pos 5) ∷ Int (pos 6) ∷ []) (label.Region 0) ∷ array 2 (Nil ∷ []) (label.Region 0) ∷ array 2 (Nil ∷ []) (label.Region 1)
    ∷ array 1 (Int (pos 0) ∷ Int (pos 0) ∷ []) (label.Region 0) ∷ []))
new_array = refl

new_tmp_array : does (i.NewTmpArray 2) (Int (pos 0) ∷ []) ≡ Returns 0 (Obj 3 ∷ [])
    (with (array 1 (Int (pos 5) ∷ Int (pos 6) ∷ []) (label.Region 0) ∷ array 2 (Nil ∷ []) (label.Region 0) ∷ array 2 (Nil ∷ []) (label.Region 1)
    ∷ array 2 [] (label.Temp 0) ∷ []))
new_tmp_array = refl

new_array_below_none : does (i.NewArray 1) (Int (negsuc 0) ∷ []) ≡ Traps trap.Size
new_array_below_none = refl

size : does i.Size (Obj 0 ∷ []) ≡ leaves (Int (pos 2) ∷ [])
size = refl

size_of_nil : does i.Size (Nil ∷ []) ≡ Traps trap.Nil
size_of_nil = refl

bound : does i.Bound (Int (pos 1) ∷ Obj 0 ∷ []) ≡ leaves (Int (pos 1) ∷ Obj 0 ∷ [])
bound = refl

bound_past_the_last : does i.Bound (Int (pos 2) ∷ Obj 0 ∷ []) ≡ Traps trap.Index
bound_past_the_last = refl

bound_below_none : does i.Bound (Int (negsuc 0) ∷ Obj 0 ∷ []) ≡ Traps trap.Index
bound_below_none = refl

element : does i.Element (Int (pos 1) ∷ Obj 0 ∷ []) ≡ leaves (Int (pos 6) ∷ [])
element = refl

put_element : does i.PutElement (Int (pos 9) ∷ Int (pos 1) ∷ Obj 0 ∷ []) ≡ Returns 0 []
    (with (array 1 (Int (pos 5) ∷ Int (pos 9) ∷ []) (label.Region 0) ∷ array 2 (Nil ∷ []) (label.Region 0) ∷ array 2 (Nil ∷ []) (label.Region 1) ∷ []))
put_element = refl

-- an element is read and written where the array has it, in no closed region
element_there : needs code i.Element (Int (pos 1) ∷ Obj 0 ∷ []) m ≡ true
element_there = refl

element_past_the_last : needs code i.Element (Int (pos 2) ∷ Obj 0 ∷ []) m ≡ false
element_past_the_last = refl

element_of_closed : needs code i.Element (Int (pos 0) ∷ Obj 2 ∷ []) m ≡ false
element_of_closed = refl

size_of_closed : needs code i.Size (Obj 2 ∷ []) m ≡ false
size_of_closed = refl

put_there : needs code i.PutElement (Obj 0 ∷ Int (pos 0) ∷ Obj 1 ∷ []) m ≡ true
put_there = refl

put_owner : needs code i.PutElement (Obj 2 ∷ Int (pos 0) ∷ Obj 1 ∷ []) m ≡ false
put_owner = refl

put_closed : needs code i.PutElement (Nil ∷ Int (pos 0) ∷ Obj 2 ∷ []) m ≡ false
put_closed = refl

-- Leaving

-- the bridge is given again: its owner is slot 2, which stays
leave_giving : act code 10 (i.LeaveGiving 3 3) (λ skip left after. Returns skip left after) [] entered
    ≡ act code 10 (i.Leave 3) (λ skip left after. Returns skip left after) [] entered
leave_giving = refl

-- a slot that is nil traps
leave_giving_nil : act code 10 (i.LeaveGiving 4 3) (λ skip left after. Stuck) [] entered ≡ Traps trap.Nil
leave_giving_nil = refl

leave_needs : needs code (i.LeaveGiving 3 3) [] entered.machine ≡ true
leave_needs = refl

-- what is given is of the region that closes
leave_other : needs code (i.LeaveGiving 0 3) [] entered.machine ≡ false
leave_other = refl

-- A run: 7 + 2, the value of the object that was given, and then no element 2

accepted : first_fault arrays ≡ None
accepted = refl

printed : (coded arrays (lowered arrays) [] 100).output ≡ Int (pos 9) ∷ Int (pos 8) ∷ []
unfolding coded_from
printed = refl

stopped : (coded arrays (lowered arrays) [] 100).standing ≡ Stopped trap.Index 10
unfolding coded_from
stopped = refl

plain_printed : (plain arrays [] 100).state.output ≡ Int (pos 9) ∷ Int (pos 8) ∷ []
unfolding plain_from
plain_printed = refl

plain_stopped : (plain arrays [] 100).ending ≡ plain.Stopped trap.Index 10
unfolding plain_from
plain_stopped = refl

-- the owner's slot leads to what was given, behind 8 steps
given : (coded arrays (lowered arrays) [] 8).work.machine.frames ≡ frame (Obj 0 ∷ Obj 2 ∷ Nil ∷ Nil ∷ []) ∷ []
unfolding coded_from
given = refl
