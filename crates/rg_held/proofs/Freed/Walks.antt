-- Instructions and walks of the machine that frees: what had a label when the step began has it still, has moved, or is gone.
use Rattle.std.proofs.Common.{◌≡◌, ◌≢◌, ℕ, ◌+◌, ◌<◌, true, false, not, true≢false, Bool as Truth, if◌then◌else◌}
use Rattle.std.proofs.Common.{List, [], ◌∷◌, ◌++◌, length, Option, Some, None, Result, Ok, Err, refl, sym, ap, subst, ◌∙◌, arith, slice_get}
use Rattle.std.specs.Prelude.{nat_lt, slice_index_or, unwrap_or, ◌||◌}
use Rattle.std.specs.List.{list_any}
use Rattle.std.proofs.lemmas.List.FromFn.{length-map-range_with_len}
use Rattle.std.proofs.lemmas.Bool.{eq-eqb, ne_eqb}
use Rattle.std.proofs.lemmas.List.{length_push}
use Rattle.rg_base.specs.Input.{next_number}
use Rattle.rg_base.specs.declared.limits.TheConstants.{FRAMES}
use Rattle.rg_base.specs.declared.object.Label.{Label}
use Rattle.rg_base.specs.declared.object.Label.TheVariants.{Region, Temp, Frozen}
use Rattle.rg_base.specs.declared.object.Place.{Place}
use Rattle.rg_base.specs.declared.object.Seen.{Seen}
use Rattle.rg_base.specs.declared.outcome.Trap.{Trap}
use Rattle.rg_base.specs.declared.outcome.Trap.TheVariants as trap
use Rattle.rg_base.specs.declared.value.Val.{Val}
use Rattle.rg_base.specs.declared.value.Val.TheVariants as val
use Rattle.rg_base.specs.declared.words.Manager.{Manager}
use Rattle.rg_base.specs.declared.words.Manager.TheVariants.{Arena}
use Rattle.rg_tree.specs.declared.rows.BinOp.TheVariants as op
use Rattle.rg_rules.specs.Evaluation.{object_at, element_place}
use Rattle.rg_rules.specs.Regions.{region_of}
use Rattle.rg_rules.specs.Values.{as_bool}
use Rattle.rg_sound.proofs.LocalRoots.{label-region}
use Rattle.rg_code.specs.declared.op.Op.{Op}
use Rattle.rg_code.specs.declared.op.Op.TheVariants as i
use Rattle.rg_code.specs.Code.{Code}
use Rattle.rg_stack.specs.Machine.{Window, slot_at, place_of, Machine}
use Rattle.rg_stack.specs.Effects.{Walked, Traps, Stuck, Go, put_element, place_named, left, put_at}
use Rattle.rg_stack.specs.Tops.{Work, top_owner}
use Rattle.rg_stack.specs.Effects.{relabel, with_store, put_in, stored}
use Rattle.rg_stack.specs.Tops.{entered, without_top, top_region}
use Rattle.rg_stack.specs.Needs.{needs}
use Rattle.rg_stack.specs.Labels.{is_open}
use Rattle.rg_stack.proofs.Basics.{none-some}
use Rattle.rg_held.specs.Frees.{Given, given_up, regions_freed, window_that_ends, left_with, bury, freed, forgotten, lives, free_act}
use Rattle.rg_held.specs.Part.{SomeWindow}
use Rattle.rg_held.proofs.Walks.Less.{tested_act, tested_walk}
use Rattle.rg_held.proofs.Walks.Keep.{Kept, Ending, Onward, ending-kept, on-called, on-returned, on-top, on-object, on-test, on-pushed}
use Rattle.rg_held.proofs.Walks.Keep.{on-two, on-number, on-opened, on-walk}
use Rattle.rg_held.proofs.Parts.Burial.{same-region}
use Rattle.rg_held.proofs.Freed.Changes.{MayTake, region-not}
use Rattle.rg_held.proofs.Freed.Windows.{numbered-more, number-new, opened-on, without-on, without-shut, without-some, without-numbered}
use Rattle.rg_held.proofs.Freed.Windows.{that-ends, left-temps}
use Rattle.rg_held.proofs.Freed.Fates.{IsGiven, Since, since-put, since-made, since-moved, since-windows, since-buried}
use Rattle.rg_held.proofs.Freed.Shut.{AllShut, all-shut, object-there, region_in, ended_with, shut}
use Rattle.rg_rules.specs.RightSides.{array_size}
use Rattle.rg_base.specs.declared.object.Place.TheVariants as place

temp-apart : (n r : ℕ) → Temp n ≢ Region r
temp-apart n r e = region-not r n (sym e)

frozen-apart : (r : ℕ) → Frozen ≢ Region r
frozen-apart r e = true≢false (ap (λ (l : Label). elim l [ Region q ↦ false | Temp k ↦ false | Frozen ↦ true ]) e)

-- the active region is open
top-apart : (ws : List Window) → SomeWindow ws → (r : ℕ) → is_open ws r ≡ false → Region (top_region ws) ≢ Region r
top-apart [] some r closed e = some
top-apart (w ∷ ws) some r closed e =
    let same = eq-eqb w.region r (same-region w.region r e) in
    true≢false (sym (ap (λ b. b || is_open ws r) same) ∙ closed)

module _ (old : List Seen) (was : Label) where
  -- how what a step works on stands to the store of its beginning
  abbrev pub Now : Work → Type 0
  Now w = Since old was w.machine.store w.machine.windows w.machine.windows_made (length w.machine.managers)

  kept : Kept Now (Ending Now)
  kept = ending-kept Now (λ w rest now. now) (λ w fs now. now)

  now-entered : (w : Work) (owner : Place) (bridge : Val) (z : ℕ) (v : Val) (o : Seen) → object_at w.machine.store v ≡ Ok o → Now w
      → Now (entered w owner bridge z (region_of o.label))
  now-entered w owner bridge z v o there now = by (region_of o.label) refl
    where
      ws : List Window
      ws = w.machine.windows

      made : ℕ
      made = w.machine.windows_made

      by : (r : Option ℕ) → region_of o.label ≡ r → Now (entered w owner bridge z r)
      by None e = now
      by (Some q) e =
          let opened : Window = record { number = made; region = q; owner = Some owner; base = place_of w.machine.frames z } in
          let less : made < made + 1 = omega arith in
          let at = object-there w.machine.store v o there in
          since-windows old was w.machine.store ws (opened ∷ ws) made (made + 1) (length w.machine.managers)
          (λ r closed none.
          ap (λ b. b || is_open ws r) (ne_eqb q r (λ same. none at.0 o at.2 (label-region o.label q e ∙ ap Region same))) ∙ closed)
          (opened-on ws made opened refl) tt (less, number-new ws made now.numbers, numbered-more ws made now.numbers) now

  now-made : (w : Work) (o : Seen) → ((r : ℕ) → is_open w.machine.windows r ≡ false → o.label ≢ Region r) → Now w
      → Now (with_store w (w.machine.store ++ o ∷ []))
  now-made w o apart now = since-made old was w.machine.store w.machine.windows w.machine.windows_made (length w.machine.managers)
      (length w.machine.managers) o (λ r is closed. apart r closed) now.given now

  -- a new region
  now-region : (w : Work) (m : Manager) (o : Seen) → o.label ≡ Region (length w.machine.managers) → Now w
      → Since old was (w.machine.store ++ o ∷ []) w.machine.windows w.machine.windows_made (length (w.machine.managers ++ m ∷ []))
  now-region w m o new now = subst (Since old was (w.machine.store ++ o ∷ []) w.machine.windows w.machine.windows_made)
      (sym (length_push w.machine.managers m))
      (since-made old was w.machine.store w.machine.windows w.machine.windows_made (length w.machine.managers) (length w.machine.managers + 1) o
      (λ r is closed e. other r (subst (IsGiven (length w.machine.managers)) is now.given) (same-region (length w.machine.managers) r (sym new ∙ e)))
      (more was now.given) now)
    where
      other : (r : ℕ) → r < length w.machine.managers → length w.machine.managers ≡ r → ⊥
      other r less same = omega (arith, less, same)

      more : (l : Label) → IsGiven (length w.machine.managers) l → IsGiven (length w.machine.managers + 1) l
      more (Region r) h = omega (arith, h)
      more (Temp n) h = tt
      more Frozen h = tt

  since-moves : (all : Truth) (label : Label) (w : Work) (r : Option ℕ) → MayTake label
      → ((q : ℕ) → is_open w.machine.windows q ≡ false → label ≢ Region q) → AllShut w.machine.windows (ended_with all w.machine r) → Now w
      → Now (with_store w (relabel all label w r))
  since-moves all label w None may apart closed now = now
  since-moves true label w (Some r) may apart closed now =
      since-moved old was (ended_with true w.machine (Some r)) label w.machine.store w.machine.windows w.machine.windows_made
      (length w.machine.managers) may apart closed now
  since-moves false label w (Some r) may apart closed now =
      since-moved old was (ended_with false w.machine (Some r)) label w.machine.store w.machine.windows w.machine.windows_made
      (length w.machine.managers) may apart closed now

  -- the region of what a slot leads to ends, and its objects get a label
  now-moves : (all : Truth) (label : Label) (s : ℕ) (w : Work) (o : Seen) → object_at w.machine.store (slot_at w.machine s) ≡ Ok o
      → MayTake label → ((q : ℕ) → is_open w.machine.windows q ≡ false → label ≢ Region q)
      → not (list_any (is_open w.machine.windows) (ended_with all w.machine (region_in w.machine s))) ≡ true → Now w
      → Now (with_store w (relabel all label w (region_of o.label)))
  now-moves all label s w o at may apart t now = since-moves all label w (region_of o.label) may apart
      (subst (λ r. AllShut w.machine.windows (ended_with all w.machine r))
      (ap (λ (x : Result Seen Trap). elim x [ Ok u ↦ region_of u.label | Err e ↦ None ]) at)
      (all-shut w.machine.windows (ended_with all w.machine (region_in w.machine s)) t)) now

  -- as many managers are there where those of regions that don't live any more are forgotten
  forgotten-length : (w : Work) → length (forgotten w).machine.managers ≡ length w.machine.managers
  forgotten-length w = length-map-range_with_len
      (λ r. if lives w.machine r then slice_index_or w.machine.managers r Arena else Arena) 0 (length w.machine.managers)

  now-forgotten : (w : Work) → Now w → Now (forgotten w)
  now-forgotten w now = subst (Since old was w.machine.store w.machine.windows w.machine.windows_made) (sym (forgotten-length w)) now

  -- what is given up, where no window ends with it
  now-freed : (w : Work) (g : Given) → g.temps ≡ None → not (list_any (is_open w.machine.windows) (regions_freed w.machine g)) ≡ true → Now w
      → Now (freed (Some g) w)
  now-freed w g none t now =
      let ws = w.machine.windows in
      let rs = regions_freed w.machine g in
      now-forgotten (with_store w (bury rs g.temps w.machine.store))
      (since-buried old was rs g.temps w.machine.store ws ws w.machine.windows_made (length w.machine.managers) (λ r closed. closed)
      (λ n ended less. (ended, less)) now.some_window now.numbers (all-shut ws rs t) (λ n e. none-some n (sym none ∙ e)) now)

  -- what is given up with the topmost window
  now-ended : (w : Work) (s : ℕ)
      → not (list_any (is_open w.machine.windows) (regions_freed w.machine (left_with w.machine s (window_that_ends w.machine.windows)))) ≡ true
      → Now w → let x = freed (Some (left_with w.machine s (window_that_ends w.machine.windows))) w in
      Since old was x.machine.store (without_top w.machine.windows) w.machine.windows_made (length x.machine.managers)
  now-ended w s t now =
      let ws = w.machine.windows in
      let made = w.machine.windows_made in
      let g = left_with w.machine s (window_that_ends ws) in
      let rs = regions_freed w.machine g in
      let store = bury rs g.temps w.machine.store in
      subst (Since old was store (without_top ws) made) (sym (forgotten-length (with_store w store)))
      (since-buried old was rs g.temps w.machine.store ws (without_top ws) made (length w.machine.managers) (without-shut ws) (without-on ws made)
      (without-some ws now.some_window) (without-numbered ws made now.numbers) (all-shut ws rs t)
      (λ n e. that-ends ws made now.numbers n (sym (left-temps w.machine s (window_that_ends ws)) ∙ e)) now)

  now-put : (w : Work) (r : Val) (k : ℕ) (v : Val) → Now w → Now (with_store w (put_in w.machine.store r k v))
  now-put w r k v now =
      since-put old was w.machine.store w.machine.windows w.machine.windows_made (length w.machine.managers) r k v now

  now-element : (w : Work) (r x v : Val) → Now w → Now (with_store w (put_element w.machine.store r x v))
  now-element w r x v now = by (object_at w.machine.store r)
    where
      by : (o : Result Seen Trap) → Now (with_store w (elim o [
        | Ok o ↦ put_in w.machine.store r (place_named o x) v
        | Err t ↦ w.machine.store
      ]))
      by (Ok o) = now-put w r (place_named o x) v now
      by (Err t) = now

  -- a value goes to a place
  now-placed : (o : Option Place) (v : Val) (m : Machine) → Since old was m.store m.windows m.windows_made (length m.managers)
      → Since old was (put_at o v m).store (put_at o v m).windows (put_at o v m).windows_made (length (put_at o v m).managers)
  now-placed None v m since = since
  now-placed (Some (place.Var n s)) v m since = since
  now-placed (Some (place.Field a k)) v m since = since-put old was m.store m.windows m.windows_made (length m.managers) (val.Obj a) k v since

  module _ (code : Code) where
    on-act : (at : ℕ) (o : Op) (go : Go) (stack : List Val) (w : Work) → Onward Now (Ending Now) go → shut o stack w.machine ≡ true → Now w
        → Ending Now (free_act code at o go stack w)
    on-act at (i.Mark line) go stack w h t now = now
    on-act at (i.Store s) go stack w h t now = on-top kept stack _ (λ v rest. h 0 _ _ now)
    on-act at (i.Own s) go stack w h t now = on-top kept stack _ (λ v rest. h 0 _ _ (now-freed w _ refl t now))
    on-act at (i.Field k) go stack w h t now = on-top kept stack _ (λ v rest. on-object kept (object_at w.machine.store v) _ (λ o e. h 0 _ _ now))
    on-act at i.IsNil go stack w h t now = on-top kept stack _ (λ v rest. h 0 _ _ now)
    on-act at i.Neg go stack w h t now = on-top kept stack _ (λ v rest. on-pushed kept _ go rest w h now)
    on-act at i.Add go stack w h t now = on-two kept op.Add go stack w h now
    on-act at i.Sub go stack w h t now = on-two kept op.Sub go stack w h now
    on-act at i.Mul go stack w h t now = on-two kept op.Mul go stack w h now
    on-act at i.Div go stack w h t now = on-two kept op.Div go stack w h now
    on-act at i.Rem go stack w h t now = on-two kept op.Rem go stack w h now
    on-act at i.Eq go stack w h t now = on-two kept op.Eq go stack w h now
    on-act at i.Ne go stack w h t now = on-two kept op.Ne go stack w h now
    on-act at i.Lt go stack w h t now = on-two kept op.Lt go stack w h now
    on-act at i.Le go stack w h t now = on-two kept op.Le go stack w h now
    on-act at i.Gt go stack w h t now = on-two kept op.Gt go stack w h now
    on-act at i.Ge go stack w h t now = on-two kept op.Ge go stack w h now
    on-act at i.Not go stack w h t now = on-top kept stack _ (λ v rest. h 0 _ _ now)
    on-act at (i.Jump to) go stack w h t now = now
    on-act at (i.JumpFalse to) go stack w h t now = on-top kept stack _ (λ v rest. on-test kept (as_bool v) _ _ (h 0 _ _ now) (h _ _ _ now))
    on-act at (i.And to) go stack w h t now = on-top kept stack _ (λ v rest. on-test kept (as_bool v) _ _ (h 0 _ _ now) (h _ _ _ now))
    on-act at (i.Or to) go stack w h t now = on-top kept stack _ (λ v rest. on-test kept (as_bool v) _ _ (h _ _ _ now) (h 0 _ _ now))
    on-act at i.Check go stack w h t now = on-top kept stack _ (λ v rest. on-object kept (object_at w.machine.store v) _ (λ o e. h 0 _ _ now))
    on-act at (i.New c) go stack w h t now = h 0 _ _ (now-made w _ (top-apart w.machine.windows now.some_window) now)
    on-act at (i.NewTmp c) go stack w h t now = h 0 _ _ (now-made w _ (λ r closed. temp-apart _ r) now)
    on-act at (i.NewIso c m) go stack w h t now = h 0 _ _ (now-region w m _ refl now)
    on-act at (i.Put k) go stack w h t now = on-top kept stack _ (λ v rest. on-top kept rest _ (λ r under. h 0 _ _ (now-put w r k v now)))
    on-act at (i.Swap s k) go stack w h t now = on-top kept stack _ (λ r rest. on-object kept (object_at w.machine.store r) _
        (λ o e. h 0 _ _ (now-put w r k (slot_at w.machine s) now)))
    on-act at (i.Freeze s) go stack w h t now = on-object kept (object_at w.machine.store (slot_at w.machine s)) _
        (λ o e. h 0 _ _ (now-forgotten (stored (with_store w (relabel true Frozen w (region_of o.label))) s val.Nil)
        (now-moves true Frozen s w o e tt (λ q closed. frozen-apart q) t now)))
    on-act at (i.Merge s) go stack w h t now = on-object kept (object_at w.machine.store (slot_at w.machine s)) _
        (λ o e. (let label = Region (top_region w.machine.windows) in
        h 0 _ _ (now-forgotten (stored (with_store w (relabel false label w (region_of o.label))) s val.Nil)
        (now-moves false label s w o e tt (top-apart w.machine.windows now.some_window) t now))))
    on-act at i.Read go stack w h t now = on-number kept (next_number w.input) go stack w h now
    on-act at i.Room go stack w h t now = on-test kept (nat_lt (length w.machine.frames) FRAMES) _ (Traps trap.Depth) (h 0 stack w now) tt
    on-act at (i.Call m) go stack w h t now = on-called Now (λ w rest now. now) (λ w fs now. now) at (slice_get code.entries m) stack w now
    on-act at i.Ret go stack w h t now = on-top kept stack _ (λ v rest.
        on-returned Now (λ w rest now. now) (λ w fs now. now) (freed (given_up i.Ret stack w.machine) w) w.machine.frames (v ∷ [])
        (now-freed w _ refl t now))
    on-act at i.RetVoid go stack w h t now =
        on-returned Now (λ w rest now. now) (λ w fs now. now) (freed (given_up i.RetVoid stack w.machine) w) w.machine.frames []
        (now-freed w _ refl t now)
    on-act at (i.Enter s z) go stack w h t now = on-opened kept w.machine z _ (on-object kept (object_at w.machine.store (slot_at w.machine s)) _
        (λ o e. h 0 _ _ (now-entered w _ _ z (slot_at w.machine s) o e now)))
    on-act at (i.EnterField k z) go stack w h t now = on-opened kept w.machine z _ (on-top kept stack _ (λ r rest.
        on-object kept (object_at w.machine.store r) _ (λ o e.
        on-object kept (object_at w.machine.store (unwrap_or (slice_get o.fields k) val.Nil)) _ (λ b is.
        h 0 _ _ (now-entered w _ _ z (unwrap_or (slice_get o.fields k) val.Nil) b is now)))))
    on-act at (i.Leave s) go stack w h t now = h 0 _ _ (now-ended w s t now)
    on-act at (i.End s) go stack w h t now = h 0 _ _ (now-freed w _ refl t now)
    on-act at i.Print go stack w h t now = on-top kept stack _ (λ v rest. h 0 _ _ now)
    on-act at i.Pop go stack w h t now = on-top kept stack _ (λ v rest. h 0 _ _ (now-freed w _ refl t now))
    on-act at i.Drop go stack w h t now = on-top kept stack _ (λ v rest. h 0 _ _ (now-freed w _ refl t now))
    on-act at i.Halt go stack w h t now = now
    on-act at (i.NewArray c) go stack w h t now = on-top kept stack _ (λ v rest. on-object kept (array_size v) _
        (λ n is. h 0 _ _ (now-made w _ (top-apart w.machine.windows now.some_window) now)))
    on-act at (i.NewTmpArray c) go stack w h t now = on-top kept stack _ (λ v rest. on-object kept (array_size v) _
        (λ n is. h 0 _ _ (now-made w _ (λ r closed. temp-apart _ r) now)))
    on-act at (i.NewIsoArray c m) go stack w h t now = on-top kept stack _ (λ v rest. on-object kept (array_size v) _
        (λ n is. h 0 _ _ (now-region w m _ refl now)))
    on-act at i.Size go stack w h t now = on-top kept stack _ (λ v rest. on-object kept (object_at w.machine.store v) _ (λ o e. h 0 _ _ now))
    on-act at i.Bound go stack w h t now = on-top kept stack _ (λ v rest. on-top kept rest _ (λ r under.
        on-object kept (object_at w.machine.store r) _ (λ o e. on-object kept (element_place o v) _ (λ k there. h 0 _ _ now))))
    on-act at i.Element go stack w h t now = on-top kept stack _ (λ v rest. on-top kept rest _ (λ r under. h 0 _ _ now))
    on-act at i.PutElement go stack w h t now = on-top kept stack _ (λ v rest. on-top kept rest _ (λ x below. on-top kept below _ (λ r under.
        h 0 _ _ (now-element w r x v now))))
    on-act at (i.LeaveGiving v s) go stack w h t now =
        let x = freed (given_up (i.LeaveGiving v s) stack w.machine) w in
        on-object kept (object_at x.machine.store (slot_at x.machine v)) _ (λ o e.
        h 0 _ _ (now-placed (top_owner x.machine.windows) (slot_at x.machine v) (left x.machine s) (now-ended w s t now)))
    on-act at _ go stack w h t now = h 0 _ _ now

    on-shut : (n : Truth) (t : Truth) (x : Walked) → (t ≡ true → Ending Now x) → Ending Now (if n then (if t then x else Stuck) else Stuck)
    on-shut true true x h = h refl
    on-shut true false x h = tt
    on-shut false t x h = tt

    on-tested : (at : ℕ) (o : Op) (go : Go) (stack : List Val) (w : Work) → Onward Now (Ending Now) go → Now w
        → Ending Now (tested_act shut code at o go stack w)
    on-tested at o go stack w h now =
        on-shut (needs code o stack w.machine) (shut o stack w.machine) _ (λ t. on-act at o go stack w h t now)

    pub on-walks : (os : List Op) (at : ℕ) → Onward Now (Ending Now) (tested_walk shut code os at)
    on-walks = on-walk kept (tested_act shut) code on-tested
