-- A walk in which each instruction is given what it needs is the walk, unless it is stuck.
use Rattle.std.proofs.Common.{ℕ, true, false, Bool as Truth, if◌then◌else◌, inl, inr, List, [], ◌∷◌, Result, Ok, Err}
use Rattle.std.proofs.Common.{refl, length}
use Rattle.std.specs.Prelude.{nat_lt}
use Rattle.rg_base.specs.declared.limits.TheConstants.{FRAMES}
use Rattle.rg_base.specs.Input.{NextNumber, found, malformed, at_end, next_number}
use Rattle.rg_base.specs.declared.value.Val.{Val}
use Rattle.rg_base.specs.declared.outcome.Trap.{Trap}
use Rattle.rg_base.specs.declared.outcome.Trap.TheVariants as trap
use Rattle.rg_tree.specs.declared.rows.BinOp.{BinOp}
use Rattle.rg_tree.specs.declared.rows.BinOp.TheVariants as op
use Rattle.rg_rules.specs.Evaluation.{object_at, element_place}
use Rattle.rg_rules.specs.Values.{Computed, as_bool, operate}
use Rattle.rg_code.specs.declared.op.Op.TheVariants as i
use Rattle.rg_code.specs.Code.{Code}
use Rattle.rg_stack.specs.Machine.{Machine, top_slots, place_of}
use Rattle.rg_stack.specs.Effects.{Walked, Traps, Stuck, Go, on_top, on_two, pushed, next_taken, opens_at, begins_by, act}
use Rattle.rg_stack.specs.Tops.{Work}
use Rattle.rg_stack.specs.Runs.{step}
use Rattle.rg_stack.specs.Needs.{needs}
use Rattle.rg_stack.specs.Given.{given_act, given_step}
use Rattle.rg_stack.proofs.Callers.Less.{Less, LessFrom, LessAct, SameOrLost, by-need, step-less-by}
use Rattle.rg_rules.specs.RightSides.{array_size}

top-less : (stack : List Val) (go all : Val → List Val → Walked) → ((v : Val) (rest : List Val) → Less (go v rest) (all v rest))
    → Less (on_top stack go) (on_top stack all)
top-less [] go all h = inl refl
top-less (v ∷ rest) go all h = h v rest

result-less : {A : Type 0} (r : Result A Trap) (go all : A → Walked) → ((o : A) → Less (go o) (all o))
    → Less (elim r [ Ok o ↦ go o | Err t ↦ Traps t ]) (elim r [ Ok o ↦ all o | Err t ↦ Traps t ])
result-less (Ok o) go all h = h o
result-less (Err t) go all h = inr refl

if-less : (t : Truth) (a b c d : Walked) → Less a c → Less b d → Less (if t then a else b) (if t then c else d)
if-less true a b c d h k = h
if-less false a b c d h k = k

pushed-less : (c : Computed) (go all : Go) (stack : List Val) (w : Work) → LessFrom go all → Less (pushed c go stack w) (pushed c all stack w)
pushed-less (Ok v) go all stack w h = h 0 (v ∷ stack) w
pushed-less (Err t) go all stack w h = inr refl

two-less : (o : BinOp) (go all : Go) (stack : List Val) (w : Work) → LessFrom go all → Less (on_two o go stack w) (on_two o all stack w)
two-less o go all [] w h = inl refl
two-less o go all (y ∷ []) w h = inl refl
two-less o go all (y ∷ x ∷ stack) w h = pushed-less (operate o x y) go all stack w h

taken-less : (n : NextNumber) (go all : Go) (stack : List Val) (w : Work) → LessFrom go all
    → Less (next_taken n go stack w) (next_taken n all stack w)
taken-less (found z rest) go all stack w h = h 0 _ _
taken-less malformed go all stack w h = inr refl
taken-less at_end go all stack w h = inr refl

opens-less : (m : Machine) (z : ℕ) (a b : Walked) → Less a b → Less (opens_at m z a) (opens_at m z b)
opens-less m z a b h =
    let inner = begins_by m.windows (place_of m.frames z) in
    if-less (nat_lt z (length (top_slots m.frames))) (if inner then a else Stuck) Stuck (if inner then b else Stuck) Stuck
    (if-less inner a Stuck b Stuck h (inr refl)) (inr refl)

pub act-less : LessAct act act
act-less code at (i.Mark line) go all stack w h = inr refl
act-less code at (i.Store s) go all stack w h = top-less stack _ _ (λ v rest. h 0 _ _)
act-less code at (i.Own s) go all stack w h = top-less stack _ _ (λ v rest. h 0 _ _)
act-less code at (i.Field k) go all stack w h = top-less stack _ _ (λ v rest. result-less (object_at w.machine.store v) _ _ (λ o. h 0 _ _))
act-less code at i.IsNil go all stack w h = top-less stack _ _ (λ v rest. h 0 _ _)
act-less code at i.Neg go all stack w h = top-less stack _ _ (λ v rest. pushed-less _ go all rest w h)
act-less code at i.Add go all stack w h = two-less op.Add go all stack w h
act-less code at i.Sub go all stack w h = two-less op.Sub go all stack w h
act-less code at i.Mul go all stack w h = two-less op.Mul go all stack w h
act-less code at i.Div go all stack w h = two-less op.Div go all stack w h
act-less code at i.Rem go all stack w h = two-less op.Rem go all stack w h
act-less code at i.Eq go all stack w h = two-less op.Eq go all stack w h
act-less code at i.Ne go all stack w h = two-less op.Ne go all stack w h
act-less code at i.Lt go all stack w h = two-less op.Lt go all stack w h
act-less code at i.Le go all stack w h = two-less op.Le go all stack w h
act-less code at i.Gt go all stack w h = two-less op.Gt go all stack w h
act-less code at i.Ge go all stack w h = two-less op.Ge go all stack w h
act-less code at i.Not go all stack w h = top-less stack _ _ (λ v rest. h 0 _ _)
act-less code at (i.Jump t) go all stack w h = inr refl
act-less code at (i.JumpFalse t) go all stack w h = top-less stack _ _ (λ v rest. if-less (as_bool v) _ _ _ _ (h 0 _ _) (h _ _ _))
act-less code at (i.And t) go all stack w h = top-less stack _ _ (λ v rest. if-less (as_bool v) _ _ _ _ (h 0 _ _) (h _ _ _))
act-less code at (i.Or t) go all stack w h = top-less stack _ _ (λ v rest. if-less (as_bool v) _ _ _ _ (h _ _ _) (h 0 _ _))
act-less code at i.Check go all stack w h = top-less stack _ _ (λ v rest. result-less (object_at w.machine.store v) _ _ (λ o. h 0 _ _))
act-less code at (i.Put k) go all stack w h = top-less stack _ _ (λ v rest. top-less rest _ _ (λ r under. h 0 _ _))
act-less code at (i.Swap s k) go all stack w h = top-less stack _ _ (λ v rest. result-less (object_at w.machine.store v) _ _ (λ o. h 0 _ _))
act-less code at (i.Freeze s) go all stack w h = result-less _ _ _ (λ o. h 0 _ _)
act-less code at (i.Merge s) go all stack w h = result-less _ _ _ (λ o. h 0 _ _)
act-less code at i.Read go all stack w h = taken-less (next_number w.input) go all stack w h
act-less code at i.Room go all stack w h =
    if-less (nat_lt (length w.machine.frames) FRAMES) _ (Traps trap.Depth) _ (Traps trap.Depth) (h 0 stack w) (inr refl)
act-less code at (i.Call m) go all stack w h = inr refl
act-less code at i.Ret go all stack w h = inr refl
act-less code at i.RetVoid go all stack w h = inr refl
act-less code at (i.Enter s z) go all stack w h = opens-less w.machine z _ _ (result-less _ _ _ (λ o. h 0 _ _))
act-less code at (i.EnterField k z) go all stack w h = opens-less w.machine z _ _ (top-less stack _ _ (λ r rest.
    result-less (object_at w.machine.store r) _ _ (λ o. result-less _ _ _ (λ b. h 0 _ _))))
act-less code at i.Print go all stack w h = top-less stack _ _ (λ v rest. h 0 _ _)
act-less code at i.Pop go all stack w h = top-less stack _ _ (λ v rest. h 0 _ _)
act-less code at i.Drop go all stack w h = top-less stack _ _ (λ v rest. h 0 _ _)
act-less code at i.Halt go all stack w h = inr refl
act-less code at (i.NewArray c) go all stack w h = top-less stack _ _ (λ v rest. result-less (array_size v) _ _ (λ n. h 0 _ _))
act-less code at (i.NewTmpArray c) go all stack w h = top-less stack _ _ (λ v rest. result-less (array_size v) _ _ (λ n. h 0 _ _))
act-less code at (i.NewIsoArray c m) go all stack w h = top-less stack _ _ (λ v rest. result-less (array_size v) _ _ (λ n. h 0 _ _))
act-less code at i.Size go all stack w h = top-less stack _ _ (λ v rest. result-less (object_at w.machine.store v) _ _ (λ o. h 0 _ _))
act-less code at i.Bound go all stack w h = top-less stack _ _ (λ v rest. top-less rest _ _ (λ r under.
    result-less (object_at w.machine.store r) _ _ (λ o. result-less (element_place o v) _ _ (λ k. h 0 _ _))))
act-less code at i.Element go all stack w h = top-less stack _ _ (λ v rest. top-less rest _ _ (λ r under. h 0 _ _))
act-less code at i.PutElement go all stack w h = top-less stack _ _ (λ v rest. top-less rest _ _ (λ x below. top-less below _ _ (λ r under.
    h 0 _ _)))
act-less code at (i.LeaveGiving v s) go all stack w h = result-less _ _ _ (λ o. h 0 _ _)
act-less code at _ go all stack w h = h 0 _ _

-- where each instruction is given what it needs
given-less : LessAct given_act act
given-less code at o go all stack w h = by-need (needs code o stack w.machine) _ _ (act-less code at o go all stack w h)

-- a step in which each instruction is given what it needs is lost, or it is the step
pub step-less : (code : Code) (w : Work) → SameOrLost (given_step code w) (step code w)
step-less = step-less-by given_act act given-less
