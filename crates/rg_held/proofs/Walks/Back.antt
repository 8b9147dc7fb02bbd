-- What a walk returns to is where the topmost frame goes back to, and behind that nothing is refused.
use Rattle.std.proofs.Common.{◌≡◌, ℕ, ◌+◌, ◌-◌, Bool as Truth, true, false, List, [], ◌∷◌, length, Option, Some, None, slice_set, ◌==◌}
use Rattle.std.proofs.Common.{unwrap_or, drop, slice_get}
use Rattle.std.specs.Prelude.{nat_lt, neg_ℤ, if◌then◌else◌}
use Rattle.rg_base.specs.declared.limits.TheConstants.{FRAMES}
use Rattle.rg_base.specs.declared.object.Label.TheVariants.{Region, Frozen}
use Rattle.rg_base.specs.declared.object.Place.{Place}
use Rattle.rg_base.specs.declared.object.Place.TheVariants as place
use Rattle.rg_base.specs.Input.{next_number}
use Rattle.rg_base.specs.declared.value.Val.{Val}
use Rattle.rg_base.specs.declared.value.Val.TheVariants as val
use Rattle.rg_tree.specs.declared.rows.BinOp.TheVariants as op
use Rattle.rg_rules.specs.Evaluation.{object_at, element_place}
use Rattle.rg_rules.specs.Regions.{region_of}
use Rattle.rg_rules.specs.Values.{as_int, as_bool, number_value}
use Rattle.rg_code.specs.declared.code.Entry.{Entry}
use Rattle.rg_code.specs.declared.op.Op.{Op}
use Rattle.rg_code.specs.declared.op.Op.TheVariants as i
use Rattle.rg_code.specs.Code.{Code}
use Rattle.rg_stack.specs.Machine.{Frame, with_slots, slot_at, slots_below, put_in_frame, Machine}
use Rattle.rg_stack.specs.Effects.{Walked, Stops, Returns, Traps, Stuck, Go, act, with_store, stored, put_in, put_element, left}
use Rattle.rg_stack.specs.Tops.{Work, top_owner}
use Rattle.rg_stack.specs.Effects.{put_at}
use Rattle.rg_stack.specs.Effects.{address, relabel, begins_by, returned, called}
use Rattle.rg_stack.specs.Tops.{top_region, frame_number, entered}
use Rattle.rg_stack.specs.Needs.{needs}
use Rattle.rg_stack.specs.Given.{given_act, given_walk}
use Rattle.rg_stack.specs.Refusals.{calm, CalmBehind}
use Rattle.rg_held.proofs.Walks.Keep.{Kept, Onward, on-top, on-object, on-test, on-pushed, on-two, on-number, on-opened, on-walk}
use Rattle.rg_rules.specs.RightSides.{array_size}

-- behind the end of the frame that a walk ends nothing is refused
abbrev pub Back : List Op → Walked → Type 0
Back code (Stops at w) = Unit {0}
Back code (Returns back stack w) = calm code false (drop back code) ≡ true
Back code (Traps t) = Unit {0}
Back code Stuck = Unit {0}

-- nothing is refused behind the end of the topmost frame
abbrev Calm : List Op → Work → Type 0
Calm code w = CalmBehind code w.machine.frames

kept : (code : List Op) → Kept (Calm code) (Back code)
kept code = record { stuck = tt; traps = λ t. tt; read = λ w rest calm. calm }

module _ (code : List Op) where
  slots-behind : (slots : List Val) (fs : List Frame) → CalmBehind code fs → CalmBehind code (with_slots slots fs)
  slots-behind slots [] h = tt
  slots-behind slots (f ∷ []) h = tt
  slots-behind slots (f ∷ g ∷ fs) h = h

  entered-behind : (w : Work) (owner : Place) (bridge : Val) (z : ℕ) (r : Option ℕ) → CalmBehind code w.machine.frames
      → CalmBehind code ((entered w owner bridge z r).machine.frames)
  entered-behind w owner bridge z None h = h
  entered-behind w owner bridge z (Some r) h = slots-behind _ w.machine.frames h

  called-back : (at : ℕ) (e : Option Entry) (stack : List Val) (w : Work) → Back code (called at e stack w)
  called-back at None stack w = tt
  called-back at (Some e) stack w = tt

  returned-back : (w : Work) (fs : List Frame) (stack : List Val) → CalmBehind code fs → Back code (returned w fs stack)
  returned-back w [] stack h = tt
  returned-back w (f ∷ []) stack h = tt
  returned-back w (f ∷ g ∷ fs) stack h = on-test (kept code) (begins_by w.machine.windows (slots_below (g ∷ fs))) _ Stuck h tt

-- a value that goes to a place leaves where frames go back to
frame-behind : (code : List Op) (n s : ℕ) (v : Val) (fs : List Frame) → CalmBehind code fs → CalmBehind code (put_in_frame n s v fs)
frame-behind code n s v [] h = tt
frame-behind code n s v (f ∷ []) h = by (0 == n)
  where
    by : (b : Truth) → CalmBehind code (if b then record f { slots = slice_set f.slots s v } ∷ [] else f ∷ [])
    by true = tt
    by false = tt
frame-behind code n s v (f ∷ g ∷ fs) h = by (length (g ∷ fs) == n) (length fs == n)
  where
    by : (b c : Truth) → CalmBehind code (if b then record f { slots = slice_set f.slots s v } ∷ g ∷ fs
        else f ∷ (if c then record g { slots = slice_set g.slots s v } ∷ fs else g ∷ put_in_frame n s v fs))
    by true c = h
    by false true = h
    by false false = h

placed-behind : (code : List Op) (o : Option Place) (v : Val) (m : Machine) → CalmBehind code m.frames → CalmBehind code (put_at o v m).frames
placed-behind code None v m h = h
placed-behind code (Some (place.Var n s)) v m h = frame-behind code n s v m.frames h
placed-behind code (Some (place.Field a k)) v m h = h

module _ (code : Code) where
  keeps : Kept (Calm code.ops) (Back code.ops)
  keeps = kept code.ops

  act-back : (at : ℕ) (o : Op) (go : Go) (stack : List Val) (w : Work) → Onward (Calm code.ops) (Back code.ops) go → Calm code.ops w
      → Back code.ops (act code at o go stack w)
  act-back at (i.Mark line) go stack w next h = tt
  act-back at (i.Clear s) go stack w next h = next 0 stack (stored w s val.Nil) (slots-behind code.ops _ w.machine.frames h)
  act-back at (i.Store s) go stack w next h =
      on-top keeps stack _ (λ v rest. next 0 rest (stored w s v) (slots-behind code.ops _ w.machine.frames h))
  act-back at (i.Own s) go stack w next h =
      on-top keeps stack _ (λ v rest. next 0 rest (stored w s v) (slots-behind code.ops _ w.machine.frames h))
  act-back at (i.Field k) go stack w next h =
      on-top keeps stack _ (λ v rest. on-object keeps (object_at w.machine.store v) _ (λ o is. next 0 _ w h))
  act-back at i.IsNil go stack w next h = on-top keeps stack _ (λ v rest. next 0 _ w h)
  act-back at i.Neg go stack w next h =
      on-top keeps stack _ (λ v rest. on-pushed keeps (number_value (neg_ℤ (as_int v))) go rest w next h)
  act-back at i.Add go stack w next h = on-two keeps op.Add go stack w next h
  act-back at i.Sub go stack w next h = on-two keeps op.Sub go stack w next h
  act-back at i.Mul go stack w next h = on-two keeps op.Mul go stack w next h
  act-back at i.Div go stack w next h = on-two keeps op.Div go stack w next h
  act-back at i.Rem go stack w next h = on-two keeps op.Rem go stack w next h
  act-back at i.Eq go stack w next h = on-two keeps op.Eq go stack w next h
  act-back at i.Ne go stack w next h = on-two keeps op.Ne go stack w next h
  act-back at i.Lt go stack w next h = on-two keeps op.Lt go stack w next h
  act-back at i.Le go stack w next h = on-two keeps op.Le go stack w next h
  act-back at i.Gt go stack w next h = on-two keeps op.Gt go stack w next h
  act-back at i.Ge go stack w next h = on-two keeps op.Ge go stack w next h
  act-back at i.Not go stack w next h = on-top keeps stack _ (λ v rest. next 0 _ w h)
  act-back at (i.Jump t) go stack w next h = tt
  act-back at (i.JumpFalse t) go stack w next h =
      on-top keeps stack _ (λ v rest. on-test keeps (as_bool v) _ _ (next 0 rest w h) (next (t - (at + 1)) rest w h))
  act-back at (i.And t) go stack w next h =
      on-top keeps stack _ (λ v rest. on-test keeps (as_bool v) _ _ (next 0 rest w h) (next (t - (at + 1)) (v ∷ rest) w h))
  act-back at (i.Or t) go stack w next h =
      on-top keeps stack _ (λ v rest. on-test keeps (as_bool v) _ _ (next (t - (at + 1)) (v ∷ rest) w h) (next 0 rest w h))
  act-back at i.Check go stack w next h =
      on-top keeps stack _ (λ v rest. on-object keeps (object_at w.machine.store v) _ (λ o is. next 0 stack w h))
  act-back at (i.New c) go stack w next h = next 0 _ _ h
  act-back at (i.NewTmp c) go stack w next h = next 0 _ _ h
  act-back at (i.NewIso c m) go stack w next h = next 0 _ _ h
  act-back at i.Pace go stack w next h = next 0 stack w h
  act-back at (i.Put k) go stack w next h =
      on-top keeps stack _ (λ v rest. on-top keeps rest _ (λ r under. next 0 under (with_store w (put_in w.machine.store r k v)) h))
  act-back at (i.Swap s k) go stack w next h = on-top keeps stack _ (λ r rest. on-object keeps (object_at w.machine.store r) _ (λ o is.
      next 0 rest (stored (with_store w (put_in w.machine.store r k (slot_at w.machine s))) s (unwrap_or (slice_get o.fields k) val.Nil))
      (slots-behind code.ops _ w.machine.frames h)))
  act-back at (i.Freeze s) go stack w next h = on-object keeps (object_at w.machine.store (slot_at w.machine s)) _ (λ o is.
      next 0 (slot_at w.machine s ∷ stack) (stored (with_store w (relabel true Frozen w (region_of o.label))) s val.Nil)
      (slots-behind code.ops _ w.machine.frames h))
  act-back at (i.Merge s) go stack w next h = on-object keeps (object_at w.machine.store (slot_at w.machine s)) _ (λ o is.
      next 0 (slot_at w.machine s ∷ stack)
      (stored (with_store w (relabel false (Region (top_region w.machine.windows)) w (region_of o.label))) s val.Nil)
      (slots-behind code.ops _ w.machine.frames h))
  act-back at i.Read go stack w next h = on-number keeps (next_number w.input) go stack w next h
  act-back at i.Room go stack w next h = on-test keeps (nat_lt (length w.machine.frames) FRAMES) _ _ (next 0 stack w h) tt
  act-back at (i.Call m) go stack w next h = called-back code.ops at (slice_get code.entries m) stack w
  act-back at i.Ret go stack w next h = on-top keeps stack _ (λ v rest. returned-back code.ops w w.machine.frames (v ∷ []) h)
  act-back at i.RetVoid go stack w next h = returned-back code.ops w w.machine.frames [] h
  act-back at (i.Enter s z) go stack w next h =
      on-opened keeps w.machine z _ (on-object keeps (object_at w.machine.store (slot_at w.machine s)) _ (λ o is.
      next 0 stack (entered w (place.Var (frame_number w.machine.frames) s) (slot_at w.machine s) z (region_of o.label))
      (entered-behind code.ops w (place.Var (frame_number w.machine.frames) s) (slot_at w.machine s) z (region_of o.label) h)))
  act-back at (i.EnterField k z) go stack w next h =
      on-opened keeps w.machine z _ (on-top keeps stack _ (λ r rest. on-object keeps (object_at w.machine.store r) _ (λ o is.
      on-object keeps (object_at w.machine.store (unwrap_or (slice_get o.fields k) val.Nil)) _ (λ b there.
      next 0 rest (entered w (place.Field (address r) k) (unwrap_or (slice_get o.fields k) val.Nil) z (region_of b.label))
      (entered-behind code.ops w (place.Field (address r) k) (unwrap_or (slice_get o.fields k) val.Nil) z (region_of b.label) h)))))
  act-back at (i.Leave s) go stack w next h = next 0 stack _ (slots-behind code.ops _ w.machine.frames h)
  act-back at (i.End s) go stack w next h = next 0 stack _ (slots-behind code.ops _ w.machine.frames h)
  act-back at i.Print go stack w next h = on-top keeps stack _ (λ v rest. next 0 rest (record w { printed = Some v }) h)
  act-back at i.Collect go stack w next h = next 0 stack w h
  act-back at i.Pop go stack w next h = on-top keeps stack _ (λ v rest. next 0 rest w h)
  act-back at i.Drop go stack w next h = on-top keeps stack _ (λ v rest. next 0 rest w h)
  act-back at i.Halt go stack w next h = tt
  act-back at (i.NewArray c) go stack w next h = on-top keeps stack _ (λ v rest. on-object keeps (array_size v) _ (λ n is. next 0 _ _ h))
  act-back at (i.NewTmpArray c) go stack w next h = on-top keeps stack _ (λ v rest. on-object keeps (array_size v) _ (λ n is. next 0 _ _ h))
  act-back at (i.NewIsoArray c m) go stack w next h = on-top keeps stack _ (λ v rest. on-object keeps (array_size v) _ (λ n is. next 0 _ _ h))
  act-back at i.Size go stack w next h =
      on-top keeps stack _ (λ v rest. on-object keeps (object_at w.machine.store v) _ (λ o is. next 0 _ w h))
  act-back at i.Bound go stack w next h = on-top keeps stack _ (λ v rest. on-top keeps rest _ (λ r under.
      on-object keeps (object_at w.machine.store r) _ (λ o is. on-object keeps (element_place o v) _ (λ k there. next 0 stack w h))))
  act-back at i.Element go stack w next h = on-top keeps stack _ (λ v rest. on-top keeps rest _ (λ r under. next 0 _ w h))
  act-back at i.PutElement go stack w next h = on-top keeps stack _ (λ v rest. on-top keeps rest _ (λ x below. on-top keeps below _ (λ r under.
      next 0 under (with_store w (put_element w.machine.store r x v)) h)))
  act-back at (i.LeaveGiving v s) go stack w next h = on-object keeps (object_at w.machine.store (slot_at w.machine v)) _ (λ o is.
      next 0 stack _ (placed-behind code.ops (top_owner w.machine.windows) (slot_at w.machine v) (left w.machine s)
      (slots-behind code.ops _ w.machine.frames h)))
  act-back at _ go stack w next h = next 0 _ w h

  given-back : (at : ℕ) (o : Op) (go : Go) (stack : List Val) (w : Work) → Onward (Calm code.ops) (Back code.ops) go → Calm code.ops w
      → Back code.ops (given_act code at o go stack w)
  given-back at o go stack w next h =
      on-test keeps (needs code o stack w.machine) _ Stuck (act-back at o go stack w next h) tt

  pub walk-back : (os : List Op) (at : ℕ) → Onward (Calm code.ops) (Back code.ops) (given_walk code os at)
  walk-back = on-walk keeps given_act code given-back
