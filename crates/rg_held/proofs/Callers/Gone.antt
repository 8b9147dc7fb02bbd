-- What is gone stays so, whatever the machine that frees does. For callers.
use Rattle.std.proofs.Common.{◌≡◌, ℕ, ◌+◌, true, false, Bool as Truth, Ok, Err, Result}
use Rattle.std.proofs.Common.{List, [], ◌∷◌, drop, length, Option, Some, None, refl, slice_get, slice_set}
use Rattle.std.specs.Prelude.{nat_lt, unwrap_or}
use Rattle.rg_base.specs.Input.{next_number}
use Rattle.rg_base.specs.declared.limits.TheConstants.{FRAMES}
use Rattle.rg_base.specs.declared.object.Label.{Label}
use Rattle.rg_base.specs.declared.object.Label.TheVariants.{Region, Frozen}
use Rattle.rg_base.specs.declared.object.Seen.{Seen}
use Rattle.rg_base.specs.declared.outcome.Trap.TheVariants as trap
use Rattle.rg_base.specs.declared.value.Val.{Val}
use Rattle.rg_base.specs.declared.value.Val.TheVariants as val
use Rattle.rg_tree.specs.declared.rows.BinOp.TheVariants as op
use Rattle.rg_rules.specs.Evaluation.{object_at, element_place}
use Rattle.rg_rules.specs.Regions.{region_of}
use Rattle.rg_rules.specs.Values.{as_bool}
use Rattle.rg_code.specs.declared.op.Op.{Op}
use Rattle.rg_code.specs.declared.op.Op.TheVariants as i
use Rattle.rg_code.specs.Code.{Code}
use Rattle.rg_stack.specs.Machine.{Machine, slot_at}
use Rattle.rg_stack.specs.Effects.{Walked, Stops, Returns, Traps, Stuck, Go, put_element, place_named, left, put_at}
use Rattle.rg_stack.specs.Tops.{Work, top_owner}
use Rattle.rg_stack.specs.Effects.{relabel, beneath_by_labels, put_in, with_value_in}
use Rattle.rg_stack.specs.Tops.{entered, top_region}
use Rattle.rg_stack.specs.Runs.{Stepped, Goes, Ends, Trapped, Lost, come_to, landed, stopped}
use Rattle.rg_base.specs.declared.object.Place.{Place}
use Rattle.rg_held.specs.Frees.{Given, given_up, regions_freed, freed, free_act, free_walk, free_finished, free_step_from, free_step}
use Rattle.rg_held.specs.Gone.{gone}
use Rattle.rg_held.proofs.Lists.{push-old}
use Rattle.rg_held.proofs.Walks.Keep.{Kept, Ending, Onward, ending-kept, on-called, on-returned, on-top, on-object, on-test, on-pushed}
use Rattle.rg_held.proofs.Walks.Keep.{on-two, on-number, on-opened, on-walk}
use Rattle.rg_held.proofs.Freed.Changes.{written-gone, moved-gone, bury-gone}
use Rattle.rg_rules.specs.RightSides.{array_size}
use Rattle.rg_base.specs.declared.outcome.Trap.{Trap}
use Rattle.rg_base.specs.declared.object.Place.TheVariants as place

-- what is gone of one store is gone of the other
abbrev pub StaysGone : (old new : List Seen) → Type 0
StaysGone old new = (a : ℕ) → slice_get old a ≡ Some gone → slice_get new a ≡ Some gone

module _ (a : ℕ) where
  abbrev Now : Work → Type 0
  Now w = slice_get w.machine.store a ≡ Some gone

  abbrev Came : Stepped → Type 0
  Came (Goes w) = Now w
  Came (Ends w) = Now w
  Came (Trapped t line) = Unit {0}
  Came Lost = Unit {0}

  kept : Kept Now (Ending Now)
  kept = ending-kept Now (λ w rest now. now) (λ w fs now. now)

  now-entered : (w : Work) (owner : Place) (bridge : Val) (z : ℕ) (r : Option ℕ) → Now w → Now (entered w owner bridge z r)
  now-entered w owner bridge z None now = now
  now-entered w owner bridge z (Some q) now = now

  now-moved : (all : Truth) (label : Label) (w : Work) (r : Option ℕ) → Now w → slice_get (relabel all label w r) a ≡ Some gone
  now-moved all label w None now = now
  now-moved true label w (Some r) now =
      moved-gone (beneath_by_labels w.machine.store (length w.machine.managers) (r ∷ [])) label w.machine.store a now
  now-moved false label w (Some r) now = moved-gone (r ∷ []) label w.machine.store a now

  now-freed : (w : Work) (g : Option Given) → Now w → Now (freed g w)
  now-freed w None now = now
  now-freed w (Some g) now = bury-gone (regions_freed w.machine g) g.temps w.machine.store a now

  now-put : (store : List Seen) (r : Val) (k : ℕ) (v : Val) → slice_get store a ≡ Some gone → slice_get (put_in store r k v) a ≡ Some gone
  now-put store val.Nil k v now = now
  now-put store (val.Int z) k v now = now
  now-put store (val.Bool b) k v now = now
  now-put store (val.Obj b) k v now = by (slice_get store b) refl
    where
      by : (o : Option Seen) → slice_get store b ≡ o
          → slice_get (elim o [ None ↦ store | Some o ↦ slice_set store b (with_value_in o k v) ]) a ≡ Some gone
      by None here = now
      by (Some o) here = written-gone store b k v o here a now

  now-element : (store : List Seen) (r x v : Val) → slice_get store a ≡ Some gone → slice_get (put_element store r x v) a ≡ Some gone
  now-element store r x v now = by (object_at store r)
    where
      by : (o : Result Seen Trap) → slice_get (elim o [ Ok o ↦ put_in store r (place_named o x) v | Err t ↦ store ]) a ≡ Some gone
      by (Ok o) = now-put store r (place_named o x) v now
      by (Err t) = now

  now-placed : (o : Option Place) (v : Val) (m : Machine) → slice_get m.store a ≡ Some gone → slice_get (put_at o v m).store a ≡ Some gone
  now-placed None v m now = now
  now-placed (Some (place.Var n s)) v m now = now
  now-placed (Some (place.Field b k)) v m now = now-put m.store (val.Obj b) k v now

  module _ (code : Code) where
    on-act : (at : ℕ) (o : Op) (go : Go) (stack : List Val) (w : Work) → Onward Now (Ending Now) go → Now w → Ending Now (free_act code at o go stack w)
    on-act at (i.Mark line) go stack w h now = now
    on-act at (i.Store s) go stack w h now = on-top kept stack _ (λ v rest. h 0 _ _ now)
    on-act at (i.Own s) go stack w h now = on-top kept stack _ (λ v rest. h 0 _ _ (now-freed w (given_up (i.Own s) stack w.machine) now))
    on-act at (i.Field k) go stack w h now = on-top kept stack _ (λ v rest. on-object kept (object_at w.machine.store v) _ (λ o is. h 0 _ _ now))
    on-act at i.IsNil go stack w h now = on-top kept stack _ (λ v rest. h 0 _ _ now)
    on-act at i.Neg go stack w h now = on-top kept stack _ (λ v rest. on-pushed kept _ go rest w h now)
    on-act at i.Add go stack w h now = on-two kept op.Add go stack w h now
    on-act at i.Sub go stack w h now = on-two kept op.Sub go stack w h now
    on-act at i.Mul go stack w h now = on-two kept op.Mul go stack w h now
    on-act at i.Div go stack w h now = on-two kept op.Div go stack w h now
    on-act at i.Rem go stack w h now = on-two kept op.Rem go stack w h now
    on-act at i.Eq go stack w h now = on-two kept op.Eq go stack w h now
    on-act at i.Ne go stack w h now = on-two kept op.Ne go stack w h now
    on-act at i.Lt go stack w h now = on-two kept op.Lt go stack w h now
    on-act at i.Le go stack w h now = on-two kept op.Le go stack w h now
    on-act at i.Gt go stack w h now = on-two kept op.Gt go stack w h now
    on-act at i.Ge go stack w h now = on-two kept op.Ge go stack w h now
    on-act at i.Not go stack w h now = on-top kept stack _ (λ v rest. h 0 _ _ now)
    on-act at (i.Jump to) go stack w h now = now
    on-act at (i.JumpFalse to) go stack w h now = on-top kept stack _ (λ v rest. on-test kept (as_bool v) _ _ (h 0 _ _ now) (h _ _ _ now))
    on-act at (i.And to) go stack w h now = on-top kept stack _ (λ v rest. on-test kept (as_bool v) _ _ (h 0 _ _ now) (h _ _ _ now))
    on-act at (i.Or to) go stack w h now = on-top kept stack _ (λ v rest. on-test kept (as_bool v) _ _ (h _ _ _ now) (h 0 _ _ now))
    on-act at i.Check go stack w h now = on-top kept stack _ (λ v rest. on-object kept (object_at w.machine.store v) _ (λ o is. h 0 _ _ now))
    on-act at (i.New c) go stack w h now = h 0 _ _ (push-old w.machine.store _ gone a now)
    on-act at (i.NewTmp c) go stack w h now = h 0 _ _ (push-old w.machine.store _ gone a now)
    on-act at (i.NewIso c m) go stack w h now = h 0 _ _ (push-old w.machine.store _ gone a now)
    on-act at (i.Put k) go stack w h now = on-top kept stack _ (λ v rest. on-top kept rest _ (λ r under. h 0 _ _ (now-put w.machine.store r k v now)))
    on-act at (i.Swap s k) go stack w h now = on-top kept stack _ (λ r rest. on-object kept (object_at w.machine.store r) _
        (λ o is. h 0 _ _ (now-put w.machine.store r k (slot_at w.machine s) now)))
    on-act at (i.Freeze s) go stack w h now = on-object kept (object_at w.machine.store (slot_at w.machine s)) _
        (λ o is. h 0 _ _ (now-moved true Frozen w (region_of o.label) now))
    on-act at (i.Merge s) go stack w h now = on-object kept (object_at w.machine.store (slot_at w.machine s)) _
        (λ o is. h 0 _ _ (now-moved false (Region (top_region w.machine.windows)) w (region_of o.label) now))
    on-act at i.Read go stack w h now = on-number kept (next_number w.input) go stack w h now
    on-act at i.Room go stack w h now = on-test kept (nat_lt (length w.machine.frames) FRAMES) _ (Traps trap.Depth) (h 0 stack w now) tt
    on-act at (i.Call m) go stack w h now = on-called Now (λ w rest now. now) (λ w fs now. now) at (slice_get code.entries m) stack w now
    on-act at i.Ret go stack w h now = on-top kept stack _ (λ v rest.
        on-returned Now (λ w rest now. now) (λ w fs now. now) (freed (given_up i.Ret stack w.machine) w) w.machine.frames (v ∷ [])
        (now-freed w (given_up i.Ret stack w.machine) now))
    on-act at i.RetVoid go stack w h now =
        on-returned Now (λ w rest now. now) (λ w fs now. now) (freed (given_up i.RetVoid stack w.machine) w) w.machine.frames []
        (now-freed w (given_up i.RetVoid stack w.machine) now)
    on-act at (i.Enter s z) go stack w h now = on-opened kept w.machine z _ (on-object kept (object_at w.machine.store (slot_at w.machine s)) _
        (λ o is. h 0 _ _ (now-entered w _ _ z (region_of o.label) now)))
    on-act at (i.EnterField k z) go stack w h now = on-opened kept w.machine z _ (on-top kept stack _ (λ r rest.
        on-object kept (object_at w.machine.store r) _ (λ o is.
        on-object kept (object_at w.machine.store (unwrap_or (slice_get o.fields k) val.Nil)) _ (λ b there.
        h 0 _ _ (now-entered w _ _ z (region_of b.label) now)))))
    on-act at (i.Leave s) go stack w h now = h 0 _ _ (now-freed w (given_up (i.Leave s) stack w.machine) now)
    on-act at (i.End s) go stack w h now = h 0 _ _ (now-freed w (given_up (i.End s) stack w.machine) now)
    on-act at i.Print go stack w h now = on-top kept stack _ (λ v rest. h 0 _ _ now)
    on-act at i.Pop go stack w h now = on-top kept stack _ (λ v rest. h 0 _ _ (now-freed w (given_up i.Pop stack w.machine) now))
    on-act at i.Drop go stack w h now = on-top kept stack _ (λ v rest. h 0 _ _ (now-freed w (given_up i.Drop stack w.machine) now))
    on-act at i.Halt go stack w h now = now
    on-act at (i.NewArray c) go stack w h now = on-top kept stack _ (λ v rest. on-object kept (array_size v) _
        (λ n is. h 0 _ _ (push-old w.machine.store _ gone a now)))
    on-act at (i.NewTmpArray c) go stack w h now = on-top kept stack _ (λ v rest. on-object kept (array_size v) _
        (λ n is. h 0 _ _ (push-old w.machine.store _ gone a now)))
    on-act at (i.NewIsoArray c m) go stack w h now = on-top kept stack _ (λ v rest. on-object kept (array_size v) _
        (λ n is. h 0 _ _ (push-old w.machine.store _ gone a now)))
    on-act at i.Size go stack w h now = on-top kept stack _ (λ v rest. on-object kept (object_at w.machine.store v) _ (λ o is. h 0 _ _ now))
    on-act at i.Bound go stack w h now = on-top kept stack _ (λ v rest. on-top kept rest _ (λ r under.
        on-object kept (object_at w.machine.store r) _ (λ o is. on-object kept (element_place o v) _ (λ k there. h 0 _ _ now))))
    on-act at i.Element go stack w h now = on-top kept stack _ (λ v rest. on-top kept rest _ (λ r under. h 0 _ _ now))
    on-act at i.PutElement go stack w h now = on-top kept stack _ (λ v rest. on-top kept rest _ (λ x below. on-top kept below _ (λ r under.
        h 0 _ _ (now-element w.machine.store r x v now))))
    on-act at (i.LeaveGiving v s) go stack w h now =
        let given = given_up (i.LeaveGiving v s) stack w.machine in
        let x = freed given w in
        on-object kept (object_at x.machine.store (slot_at x.machine v)) _ (λ o is.
        h 0 _ _ (now-placed (top_owner x.machine.windows) (slot_at x.machine v) (left x.machine s) (now-freed w given now)))
    on-act at _ go stack w h now = h 0 _ _ now

    on-walks : (os : List Op) (at : ℕ) → Onward Now (Ending Now) (free_walk code os at)
    on-walks = on-walk kept free_act code on-act

    came-to : (o : Option Op) (w : Work) → Now w → Came (come_to o w)
    came-to None w now = tt
    came-to (Some (i.Mark line)) w now = now
    came-to (Some i.Halt) w now = now
    came-to (Some o) w now = tt

    came-landed : (x : Walked) → Ending Now x → Came (landed code x)
    came-landed (Stops at w) now = came-to (slice_get code.ops at) (stopped at w) now
    came-landed (Returns back stack w) now = tt
    came-landed (Traps t) now = tt
    came-landed Stuck now = tt

    came-finished : (line : ℕ) (x : Walked) → Ending Now x → Came (free_finished code line x)
    came-finished line (Stops at w) now = came-to (slice_get code.ops at) (stopped at w) now
    came-finished line (Returns back stack w) now =
        came-landed (free_walk code (drop back code.ops) back 0 stack w) (on-walks (drop back code.ops) back 0 stack w now)
    came-finished line (Traps t) now = tt
    came-finished line Stuck now = tt

    came-from : (w : Work) (os : List Op) → Now w → Came (free_step_from code w os)
    came-from w [] now = tt
    came-from w (i.Mark line ∷ os) now =
        came-finished line (free_walk code os (w.machine.at + 1) 0 [] w) (on-walks os (w.machine.at + 1) 0 [] w now)
    came-from w (o ∷ os) now = tt

    came : (w : Work) → Now w → Came (free_step code w)
    came w now = came-from w (drop w.machine.at code.ops) now

-- so a step that goes on or ends leaves gone what was gone
abbrev pub StepStays : Machine → Stepped → Type 0
StepStays m (Goes w) = StaysGone m.store w.machine.store
StepStays m (Ends w) = StaysGone m.store w.machine.store
StepStays m (Trapped t line) = Unit {0}
StepStays m Lost = Unit {0}

pub step-stays : (code : Code) (w : Work) → StepStays w.machine (free_step code w)
step-stays code w = by (free_step code w) (came-all)
  where
    came-all : (a : ℕ) → slice_get w.machine.store a ≡ Some gone → Came a (free_step code w)
    came-all a now = came a code w now

    by : (x : Stepped) → ((a : ℕ) → slice_get w.machine.store a ≡ Some gone → Came a x) → StepStays w.machine x
    by (Goes v) h = h
    by (Ends v) h = h
    by (Trapped t line) h = tt
    by Lost h = tt
