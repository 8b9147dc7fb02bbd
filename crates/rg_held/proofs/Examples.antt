-- What is freed on small machines: a slot that owns a region with another beneath it, a window with a temporary that does, and a frame; and
-- the managers that are forgotten.
use Rattle.std.proofs.Common.{◌≡◌, refl, pos, List, [], ◌∷◌, Some, None}
use Rattle.rg_base.specs.declared.object.Label.{Label}
use Rattle.rg_base.specs.declared.object.Label.TheVariants as label
use Rattle.rg_base.specs.declared.object.Place.TheVariants as place
use Rattle.rg_base.specs.declared.object.Seen.{Seen}
use Rattle.rg_base.specs.declared.value.Val.{Val}
use Rattle.rg_base.specs.declared.value.Val.TheVariants.{Nil, Int, Obj}
use Rattle.rg_base.specs.declared.words.Manager.{Manager}
use Rattle.rg_base.specs.declared.words.Manager.TheVariants as manager
use Rattle.rg_code.specs.declared.op.Op.{Op}
use Rattle.rg_code.specs.declared.op.Op.TheVariants as i
use Rattle.rg_code.specs.Code.{empty}
use Rattle.rg_stack.specs.Machine.{Frame, Window}
use Rattle.rg_stack.specs.Effects.{Walked, Returns}
use Rattle.rg_stack.specs.Tops.{Work}
use Rattle.rg_held.specs.Frees.{free_act}
use Rattle.rg_held.specs.Gone.{gone}

abbrev object : Val → Label → Seen
object r l = record { class = 0; fields = r ∷ []; label = l }

abbrev frame : List Val → Frame
frame slots = record { slots = slots; back = 7 }

abbrev main_window : Window
main_window = record { number = 0; region = 0; owner = None; base = 0 }

abbrev inner_window : Window
inner_window = record { number = 1; region = 1; owner = Some (place.Var 0 1); base = 2 }

-- regions 1 and 2 have these managers
abbrev work_with : Manager → Manager → List Seen → List Frame → List Window → Work
work_with one two store frames windows = record {
  machine = record {
    store = store;
    frames = frames;
    windows = windows;
    managers = manager.Count ∷ one ∷ two ∷ [];
    windows_made = 2;
    at = 10;
  };
  input = [];
  printed = None;
}

abbrev work : List Seen → List Frame → List Window → Work
work = work_with manager.Trace manager.Count

-- an instruction, and then nothing more
abbrev does : Op → List Val → Work → Walked
does o stack w = free_act empty 10 o (λ skip left after. Returns skip left after) stack w

-- object 1 is the bridge of region 1, which owns region 2
abbrev nested : List Seen
nested = object Nil (label.Region 0) ∷ object (Obj 2) (label.Region 1) ∷ object Nil (label.Region 2) ∷ []

abbrev freed : List Seen
freed = object Nil (label.Region 0) ∷ gone ∷ gone ∷ []

own_frees_beneath : does (i.Own 1) (Nil ∷ []) (work nested (frame (Obj 0 ∷ Obj 1 ∷ []) ∷ []) (main_window ∷ []))
    ≡ Returns 0 [] (work_with manager.Arena manager.Arena freed (frame (Obj 0 ∷ Nil ∷ []) ∷ []) (main_window ∷ []))
own_frees_beneath = refl

-- a store to a slot that owns nothing frees nothing
own_of_nil_frees_nothing : does (i.Own 0) (Nil ∷ []) (work nested (frame (Nil ∷ Obj 1 ∷ []) ∷ []) (main_window ∷ []))
    ≡ Returns 0 [] (work nested (frame (Nil ∷ Obj 1 ∷ []) ∷ []) (main_window ∷ []))
own_of_nil_frees_nothing = refl

-- object 2 is a temporary of the inner window, and owns region 2
leave_frees_temporaries : does (i.Leave 2) []
    (work (object Nil (label.Region 0) ∷ object Nil (label.Region 1) ∷ object (Obj 3) (label.Temp 1) ∷ object Nil (label.Region 2) ∷ [])
    (frame (Obj 0 ∷ Obj 1 ∷ Obj 1 ∷ []) ∷ []) (inner_window ∷ main_window ∷ []))
    ≡ Returns 0 [] (work_with manager.Trace manager.Arena (object Nil (label.Region 0) ∷ object Nil (label.Region 1) ∷ gone ∷ gone ∷ [])
    (frame (Obj 0 ∷ Obj 1 ∷ Nil ∷ []) ∷ []) (main_window ∷ []))
leave_frees_temporaries = refl

-- the same, and then what owned region 1 leads to object 4
leave_giving_frees_temporaries : does (i.LeaveGiving 3 2) []
    (work (object Nil (label.Region 0) ∷ object Nil (label.Region 1) ∷ object (Obj 3) (label.Temp 1) ∷ object Nil (label.Region 2)
    ∷ object Nil (label.Region 1) ∷ []) (frame (Obj 0 ∷ Obj 1 ∷ Obj 1 ∷ Obj 4 ∷ []) ∷ []) (inner_window ∷ main_window ∷ []))
    ≡ Returns 0 [] (work_with manager.Trace manager.Arena (object Nil (label.Region 0) ∷ object Nil (label.Region 1) ∷ gone ∷ gone
    ∷ object Nil (label.Region 1) ∷ []) (frame (Obj 0 ∷ Obj 4 ∷ Nil ∷ Nil ∷ []) ∷ []) (main_window ∷ []))
leave_giving_frees_temporaries = refl

ret_frees_the_frame : does i.Ret (Int (pos 5) ∷ []) (work nested (frame (Obj 1 ∷ []) ∷ frame (Obj 0 ∷ []) ∷ []) (main_window ∷ []))
    ≡ Returns 7 (Int (pos 5) ∷ []) (work_with manager.Arena manager.Arena freed (frame (Obj 0 ∷ []) ∷ []) (main_window ∷ []))
ret_frees_the_frame = refl

-- a region that is merged ends, and the one beneath it stays
merge_forgets_the_region : does (i.Merge 1) [] (work nested (frame (Obj 0 ∷ Obj 1 ∷ []) ∷ []) (main_window ∷ []))
    ≡ Returns 0 (Obj 1 ∷ []) (work_with manager.Arena manager.Count
    (object Nil (label.Region 0) ∷ object (Obj 2) (label.Region 0) ∷ object Nil (label.Region 2) ∷ []) (frame (Obj 0 ∷ Nil ∷ []) ∷ [])
    (main_window ∷ []))
merge_forgets_the_region = refl
