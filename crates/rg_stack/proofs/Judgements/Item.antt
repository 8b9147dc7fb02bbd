-- Each step of an accepted program from a state that fits, whatever the first item is: the machines do the same.
use Rattle.std.proofs.Common.{◌≡◌, ℕ, suc, inl, inr, List, [], ◌∷◌, length, map, refl, sym, ap, subst, ◌∙◌, true, Option, Some, None, take, ◌||◌}
use Rattle.std.specs.Prelude.{◌&&◌, ◌+◌, nat_le}
use Rattle.std.proofs.lemmas.List.{length-map, length-reverse}
use Rattle.std.proofs.lemmas.Bool.{and_from}
use Rattle.rg_base.specs.declared.value.Val.{Val}
use Rattle.rg_base.specs.declared.object.Seen.{Seen}
use Rattle.rg_base.specs.declared.words.Manager.{Manager}
use Rattle.rg_tree.specs.Tree.{stmt, StmtKind, return, Tree, Name}
use Rattle.rg_rules.specs.Acceptance.{Accepted}
use Rattle.rg_rules.specs.Items.{Item, Do, EndAt, LeaveAt, Back, LeaveGiving, leave_of}
use Rattle.rg_rules.specs.State.{Frame as Body, Window as Opened}
use Rattle.rg_rules.specs.Steps.{next}
use Rattle.rg_sound.specs.Frames.{Running, FramesFit}
use Rattle.rg_sound.proofs.Owners.Data.{Data, data-fit}
use Rattle.rg_sound.proofs.Writable.{writable-live}
use Rattle.rg_code.specs.declared.op.Op.TheVariants as i
use Rattle.rg_code.specs.Lowering.{lowered, slot_of}
use Rattle.rg_stack.specs.Machine.{Frame, Window, slots_below, end_slots, slot_at}
use Rattle.rg_stack.specs.Needs.{needs, owned_once, temps_may_go, owner_leads, seen_by_owner}
use Rattle.rg_stack.specs.Places.{top_base}
use Rattle.rg_stack.specs.Shows.{ShowsWindows, sizes_of}
use Rattle.rg_stack.specs.Left.{SomeLeft}
use Rattle.rg_stack.specs.Given.{given_step as step}
use Rattle.rg_stack.proofs.Mirrors.{Mirrors, SameMove}
use Rattle.rg_stack.proofs.Callers.Frame.{work_of, state_of, OpenedBelow}
use Rattle.rg_stack.proofs.Walks.Place.{GoesOn}
use Rattle.rg_stack.proofs.Walks.End.{Round}
use Rattle.rg_stack.proofs.Callers.Lead.{ShowsFit}
use Rattle.rg_stack.proofs.Callers.Once.{owned_once-fits}
use Rattle.rg_stack.proofs.Needs.Leave.{leave-fits, giving-fits}
use Rattle.rg_stack.proofs.Statements.Block.{end-mirrors}
use Rattle.rg_stack.proofs.Callers.Base.{as_many, base_is, starts-behind}
use Rattle.rg_stack.proofs.Statements.Window.{leave-mirrors, OwnerHere, leave-giving-mirrors}
use Rattle.rg_stack.proofs.Statements.Return.{back-mirrors}
use Rattle.rg_stack.proofs.Judgements.Base.{beneath-begins}
use Rattle.rg_stack.proofs.Judgements.Fit.{running-beneath}
use Rattle.rg_stack.proofs.Judgements.Spot.{leaves_frame}
use Rattle.rg_stack.proofs.Judgements.Begin.{alone, fit-statement, fit-return}
use Rattle.rg_stack.proofs.Callers.Left.{do-other, leave-other, back-other, running-left, main-stays, leaving-windows, giving-other}
use Rattle.rg_rules.specs.Values.{is_nil_value}
use Rattle.rg_sound.specs.Bridges.{BridgesFit}
use Rattle.rg_code.specs.Places.{scope_of}
use Rattle.rg_stack.specs.Tops.{top_region}
use Rattle.rg_stack.specs.Labels.{is_into}

-- what both machines have
module _ (t : Tree) (accepted : Accepted t) (store : List Seen) (managers : List Manager) (made at : ℕ) (input : List ℕ) (output : List Val) where
  abbrev Showing : List Frame → List Window → List Body → List Opened → List Item → Type 0
  Showing mfs mws fs ws items = Mirrors t.classes (lowered t) (work_of store mfs mws managers made at input).machine
      (state_of store fs ws managers made input output items)

  abbrev pub Moves : List Frame → List Window → List Body → List Opened → List Item → Type 0
  Moves mfs mws fs ws items =
      SameMove t.classes (lowered t) output (next t.classes (state_of store fs ws managers made input output items))
      (step (lowered t) (work_of store mfs mws managers made at input))

  -- what stands round the topmost frame
  abbrev round : Frame → List Frame → List Window → Body → List Body → List Opened → Round
  round mf mfs mws f fs ws = record {
    back = mf.back;
    frames = mfs;
    windows = mws;
    made = made;
    at = at;
    target = f.target;
    bodies = fs;
    opened =
        ws;
    output = output;
  }

  -- as many frames
  below-frames : (mg : Frame) (mfs : List Frame) (fs : List Body) (ws : List Opened) (n : ℕ) → length mfs ≡ length fs → n ≡ suc (length fs)
      → OpenedBelow n ws → OpenedBelow (length (sizes_of (mg ∷ mfs))) ws
  below-frames mg mfs fs ws n same is h =
      let sizes : n ≡ length (sizes_of (mg ∷ mfs)) =
      is ∙ ap suc (sym same) ∙ sym (length-reverse (map (λ (f : Frame). length f.slots) (mg ∷ mfs))
      ∙ length-map (mg ∷ mfs) (λ (f : Frame). length f.slots)) in
      subst (λ k. OpenedBelow k ws) sizes h

  -- the machine over what fits
  shows_fit : (mfs : List Frame) (mws : List Window) (fs : List Body) (ws : List Opened) (items : List Item)
      → Data t.classes store fs ws (length managers) made → Showing mfs mws fs ws items
      → ShowsFit t.classes (work_of store mfs mws managers made at input).machine fs ws
  shows_fit mfs mws fs ws items fits shows = record {
    regions = length managers;
    made = made;
    sizes = sizes_of mfs;
    fits = fits;
    slots = shows.slots;
    windows = shows.windows;
  }

  once : (mfs : List Frame) (mws : List Window) (fs : List Body) (ws : List Opened) (items : List Item)
      → Data t.classes store fs ws (length managers) made → Showing mfs mws fs ws items
      → owned_once (work_of store mfs mws managers made at input).machine ≡ true
  once mfs mws fs ws items fits shows = owned_once-fits t.classes (work_of store mfs mws managers made at input).machine fs ws
      (shows_fit mfs mws fs ws items fits shows)

  -- a statement that isn't a `return`
  statement-moves : (mf : Frame) (mfs : List Frame) (mws : List Window) (f : Body) (fs : List Body) (ws : List Opened) (line : ℕ) (k : StmtKind)
      (j : Item) (rest : List Item) → GoesOn k
      → Running t f fs ws (Do (stmt line k) ∷ j ∷ rest) → Data t.classes store (f ∷ fs) ws (length managers) made
      → Showing (mf ∷ mfs) mws (f ∷ fs) ws (Do (stmt line k) ∷ j ∷ rest) → Moves (mf ∷ mfs) mws (f ∷ fs) ws (Do (stmt line k) ∷ j ∷ rest)
  statement-moves mf mfs mws f fs ws line k j rest goes h fits shows =
      fit-statement t accepted (round mf mfs mws f fs ws) store mf.slots f.locals managers input line k j rest goes h fits
      (writable-live t accepted store f fs ws (Do (stmt line k) ∷ j ∷ rest) h fits.values fits.objects fits.opened) shows

  -- `return`, and the end of a method without a result: a frame stands beneath
  return-moves : (mf : Frame) (mfs : List Frame) (mws : List Window) (f : Body) (fs : List Body) (ws : List Opened) (line : ℕ) (e : _) (j : Item)
      (rest : List Item)
      → Running t f fs ws (Do (stmt line (return e)) ∷ j ∷ rest) → Data t.classes store (f ∷ fs) ws (length managers) made
      → Showing (mf ∷ mfs) mws (f ∷ fs) ws (Do (stmt line (return e)) ∷ j ∷ rest)
      → Moves (mf ∷ mfs) mws (f ∷ fs) ws (Do (stmt line (return e)) ∷ j ∷ rest)
  return-moves mf mfs mws f [] ws line e j rest h fits shows = absurd
      (main-stays t accepted f ws (Do (stmt line (return e))) (j ∷ rest) h refl)
  return-moves mf [] mws f (g ∷ fs) ws line e j rest h fits shows = absurd shows.slots.1
  return-moves mf (mg ∷ mfs) mws f (g ∷ fs) ws line e j rest h fits shows =
      fit-return t accepted (round mg mfs mws g fs ws) mf.slots mg.slots f.locals g.locals mf.back f.target store managers input line e j rest h
      fits shows

  back-moves : (mf : Frame) (mfs : List Frame) (mws : List Window) (f : Body) (fs : List Body) (ws : List Opened) (j : Item) (rest : List Item)
      → Running t f fs ws (Back ∷ j ∷ rest) → Data t.classes store (f ∷ fs) ws (length managers) made
      → Showing (mf ∷ mfs) mws (f ∷ fs) ws (Back ∷ j ∷ rest)
      → Moves (mf ∷ mfs) mws (f ∷ fs) ws (Back ∷ j ∷ rest)
  back-moves mf mfs mws f [] ws j rest h fits shows = absurd (main-stays t accepted f ws Back (j ∷ rest) h refl)
  back-moves mf [] mws f (g ∷ fs) ws j rest h fits shows = absurd shows.slots.1
  back-moves mf (mg ∷ mfs) mws f (g ∷ fs) ws j rest h fits shows =
      let first : h.first ≡ Back = ap (λ l. elim l [ [] ↦ Back | i ∷ is ↦ i ]) (sym h.items_are) in
      let none = alone t accepted f (g ∷ fs) ws (Back ∷ j ∷ rest) h (ap leaves_frame (h.begins ∙ ap (λ i. i ∷ h.more) first)) in
      back-mirrors t.classes (lowered t) store mf mg mfs mws managers made at input f g fs ws output j rest shows
      (below-frames mg mfs fs ws (suc (length fs)) (as_many mfs fs shows.slots.1.1) refl (running-beneath t f g fs ws (Back ∷ j ∷ rest) h none))
      (beneath-begins t accepted mf mg mfs mws f g fs ws (Back ∷ j ∷ rest) shows.slots shows.windows h none)
      (once (mf ∷ mg ∷ mfs) mws (f ∷ g ∷ fs) ws (Back ∷ j ∷ rest) fits shows)

  -- the end of the block of an `enter`: a window is open beneath
  leave-moves : (mf : Frame) (mfs : List Frame) (mws : List Window) (f : Body) (fs : List Body) (v w : Opened) (ws : List Opened) (k : ℕ) (j : Item)
      (rest : List Item)
      → needs (lowered t) (i.Leave k) [] (work_of store (mf ∷ mfs) mws managers made at input).machine ≡ true
      → Showing (mf ∷ mfs) mws (f ∷ fs) (v ∷ w ∷ ws) (LeaveAt k ∷ j ∷ rest) → Moves (mf ∷ mfs) mws (f ∷ fs) (v ∷ w ∷ ws) (LeaveAt k ∷ j ∷ rest)
  leave-moves mf mfs [] f fs v w ws k j rest need shows = absurd shows.windows
  leave-moves mf mfs (mv ∷ []) f fs v w ws k j rest need shows = absurd shows.windows.1
  leave-moves mf mfs (mv ∷ mw ∷ mws) f fs v w ws k j rest need shows =
      leave-mirrors t.classes (lowered t) (round mf mfs (mv ∷ mw ∷ mws) f fs (v ∷ w ∷ ws)) store mf.slots f.locals managers input mv mw mws v w ws k j
      rest shows need

  -- the same with `giving x`
  giving-moves : (mf : Frame) (mfs : List Frame) (mws : List Window) (f : Body) (fs : List Body) (v w : Opened) (ws : List Opened) (line k : ℕ)
      (x : Name) (j : Item) (rest : List Item)
      → needs (lowered t) (i.LeaveGiving (slot_of (scope_of f.locals) (Some x)) k) []
      (work_of store (mf ∷ mfs) mws managers made at input).machine ≡ true
      → OwnerHere v.owner (length fs) (length (take k f.locals))
      → Showing (mf ∷ mfs) mws (f ∷ fs) (v ∷ w ∷ ws) (LeaveGiving line k x ∷ j ∷ rest)
      → Moves (mf ∷ mfs) mws (f ∷ fs) (v ∷ w ∷ ws) (LeaveGiving line k x ∷ j ∷ rest)
  giving-moves mf mfs [] f fs v w ws line k x j rest need here shows = absurd shows.windows
  giving-moves mf mfs (mv ∷ []) f fs v w ws line k x j rest need here shows = absurd shows.windows.1
  giving-moves mf mfs (mv ∷ mw ∷ mws) f fs v w ws line k x j rest need here shows =
      leave-giving-mirrors t.classes (lowered t) (round mf mfs (mv ∷ mw ∷ mws) f fs (v ∷ w ∷ ws)) store mf.slots f.locals managers input mv mw mws v w
      ws line k x j rest shows need here

  -- what leaving needs, whatever is given
  leave-needs : (mf : Frame) (mfs : List Frame) (mws : List Window) (f : Body) (fs : List Body) (ws : List Opened) (line k : ℕ)
      (giving : Option Name) (j : Item) (rest : List Item)
      → (h : Running t f fs ws (leave_of line k giving ∷ j ∷ rest)) → Data t.classes store (f ∷ fs) ws (length managers) made
      → BridgesFit t.classes store (f ∷ fs) ws → Showing (mf ∷ mfs) mws (f ∷ fs) ws (leave_of line k giving ∷ j ∷ rest)
      → let m = (work_of store (mf ∷ mfs) mws managers made at input).machine in
      (owned_once m && temps_may_go (end_slots m k) && owner_leads (end_slots m k) && nat_le (slots_below mfs + k) (top_base mws)) ≡ true
  leave-needs mf mfs mws f fs ws line k giving j rest h a bridged s =
      let m = (work_of store (mf ∷ mfs) mws managers made at input).machine in
      let p = state_of store (f ∷ fs) ws managers made input output (leave_of line k giving ∷ j ∷ rest) in
      let last = leave-fits t accepted p line k giving (j ∷ rest) (data-fit t p (inl h) a bridged) f fs refl refl m refl s.slots
      (sizes_of (mf ∷ mfs)) s.windows in
      let two = leaving-windows t f fs ws line k giving (j ∷ rest) h in
      let base : nat_le (slots_below mfs + k) (top_base mws) ≡ true = starts-behind (sizes_of (mf ∷ mfs)) mws two.top (two.next ∷ two.under)
      (slots_below mfs + k) (subst (ShowsWindows (sizes_of (mf ∷ mfs)) mws) two.are s.windows)
      (base_is mfs (length mf.slots) two.top.base_frame k two.top.base_place (two.base_frame ∙ sym (as_many mfs fs s.slots.1))
      (sym two.base_place)) in
      and_from (owned_once m && temps_may_go (end_slots m k) && owner_leads (end_slots m k)) (nat_le (slots_below mfs + k) (top_base mws))
      (and_from (owned_once m && temps_may_go (end_slots m k)) (owner_leads (end_slots m k))
      (and_from (owned_once m) (temps_may_go (end_slots m k)) (once (mf ∷ mfs) mws (f ∷ fs) ws (leave_of line k giving ∷ j ∷ rest) a s) last.0)
      last.1) base

  -- each statement
  do-moves : (mf : Frame) (mfs : List Frame) (mws : List Window) (f : Body) (fs : List Body) (ws : List Opened) (line : ℕ) (k : StmtKind) (j : Item)
      (rest : List Item)
      → Running t f fs ws (Do (stmt line k) ∷ j ∷ rest) → Data t.classes store (f ∷ fs) ws (length managers) made
      → Showing (mf ∷ mfs) mws (f ∷ fs) ws (Do (stmt line k) ∷ j ∷ rest) → Moves (mf ∷ mfs) mws (f ∷ fs) ws (Do (stmt line k) ∷ j ∷ rest)
  do-moves mf mfs mws f fs ws line (return e) j rest h a s = return-moves mf mfs mws f fs ws line e j rest h a s
  do-moves mf mfs mws f fs ws line k j rest h a s = statement-moves mf mfs mws f fs ws line k j rest tt h a s

  -- each item that has one behind it
  behind-moves : (mf : Frame) (mfs : List Frame) (mws : List Window) (f : Body) (fs : List Body) (ws : List Opened) (i : Item) (rest : List Item)
      → SomeLeft rest
      → Running t f fs ws (i ∷ rest) → Data t.classes store (f ∷ fs) ws (length managers) made → BridgesFit t.classes store (f ∷ fs) ws
      → Showing (mf ∷ mfs) mws (f ∷ fs) ws (i ∷ rest) → Moves (mf ∷ mfs) mws (f ∷ fs) ws (i ∷ rest)
  behind-moves mf mfs mws f fs ws i [] left h a b s = absurd left
  behind-moves mf mfs mws f fs ws (Do (stmt line k)) (j ∷ rest) left h a b s = do-moves mf mfs mws f fs ws line k j rest h a s
  behind-moves mf mfs mws f fs ws (EndAt k) (j ∷ rest) left h a b s = end-mirrors t.classes (lowered t) (round mf mfs mws f fs ws) store mf.slots
      f.locals managers input 0 k (j ∷ rest) s (once (mf ∷ mfs) mws (f ∷ fs) ws (EndAt k ∷ j ∷ rest) a s)
  behind-moves mf mfs mws f fs ws (LeaveAt k) (j ∷ rest) left h a b s =
      let two = leaving-windows t f fs ws 0 k None (j ∷ rest) h in
      let need = leave-needs mf mfs mws f fs ws 0 k None j rest h a b s in
      let W = λ (vs : List Opened). Showing (mf ∷ mfs) mws (f ∷ fs) vs (LeaveAt k ∷ j ∷ rest) in
      let M = λ (vs : List Opened). Moves (mf ∷ mfs) mws (f ∷ fs) vs (LeaveAt k ∷ j ∷ rest) in
      subst M (sym two.are) (leave-moves mf mfs mws f fs two.top two.next two.under k j rest need (subst W two.are s))
  behind-moves mf mfs mws f fs ws (LeaveGiving line k x) (j ∷ rest) left h a b s =
      let m = (work_of store (mf ∷ mfs) mws managers made at input).machine in
      let p = state_of store (f ∷ fs) ws managers made input output (LeaveGiving line k x ∷ j ∷ rest) in
      let two = leaving-windows t f fs ws line k (Some x) (j ∷ rest) h in
      let last = giving-fits t accepted p line k x (j ∷ rest) (data-fit t p (inl h) a b) f fs refl refl m refl s.slots (sizes_of (mf ∷ mfs))
      s.windows in
      let v = slot_at m (slot_of (scope_of f.locals) (Some x)) in
      let into = is_nil_value v || is_into m.store (top_region m.windows) v in
      let first = owned_once m && temps_may_go (end_slots m k) && owner_leads (end_slots m k) && nat_le (slots_below mfs + k) (top_base mws) in
      let need = and_from (first && into) (seen_by_owner m k)
      (and_from first into (leave-needs mf mfs mws f fs ws line k (Some x) j rest h a b s) last.given) last.seen in
      let W = λ (vs : List Opened). Showing (mf ∷ mfs) mws (f ∷ fs) vs (LeaveGiving line k x ∷ j ∷ rest) in
      let M = λ (vs : List Opened). Moves (mf ∷ mfs) mws (f ∷ fs) vs (LeaveGiving line k x ∷ j ∷ rest) in
      subst M (sym two.are) (giving-moves mf mfs mws f fs two.top two.next two.under line k x j rest need
      (last.here two.top (two.next ∷ two.under) two.are) (subst W two.are s))
  behind-moves mf mfs mws f fs ws Back (j ∷ rest) left h a b s = back-moves mf mfs mws f fs ws j rest h a s

  -- each item
  item-moves : (mf : Frame) (mfs : List Frame) (mws : List Window) (f : Body) (fs : List Body) (ws : List Opened) (i : Item) (rest : List Item)
      → Running t f fs ws (i ∷ rest) → Data t.classes store (f ∷ fs) ws (length managers) made → BridgesFit t.classes store (f ∷ fs) ws
      → Showing (mf ∷ mfs) mws (f ∷ fs) ws (i ∷ rest) → Moves (mf ∷ mfs) mws (f ∷ fs) ws (i ∷ rest)
  item-moves mf mfs mws f fs ws (Do s) rest h a b e = behind-moves mf mfs mws f fs ws (Do s) rest
      (running-left t f fs ws (Do s) rest h (do-other s)) h a b e
  item-moves mf mfs mws f fs ws (EndAt k) rest h a b e = end-mirrors t.classes (lowered t) (round mf mfs mws f fs ws) store mf.slots f.locals
      managers
      input 0 k rest e (once (mf ∷ mfs) mws (f ∷ fs) ws (EndAt k ∷ rest) a e)
  item-moves mf mfs mws f fs ws (LeaveAt k) rest h a b e = behind-moves mf mfs mws f fs ws (LeaveAt k) rest
      (running-left t f fs ws (LeaveAt k) rest h (leave-other k)) h a b e
  item-moves mf mfs mws f fs ws (LeaveGiving line k x) rest h a b e = behind-moves mf mfs mws f fs ws (LeaveGiving line k x) rest
      (running-left t f fs ws (LeaveGiving line k x) rest h (giving-other line k x)) h a b e
  item-moves mf mfs mws f fs ws Back rest h a b e = behind-moves mf mfs mws f fs ws Back rest (running-left t f fs ws Back rest h back-other) h a b e

  -- a state that fits, with an item left
  pub all-move : (mfs : List Frame) (mws : List Window) (fs : List Body) (ws : List Opened) (items : List Item) → SomeLeft items
      → FramesFit t fs ws items → Data t.classes store fs ws (length managers) made → BridgesFit t.classes store fs ws
      → Showing mfs mws fs ws items → Moves mfs mws fs ws items
  all-move mfs mws fs ws [] left frames a b s = absurd left
  all-move mfs mws [] ws (i ∷ rest) left frames a b s = absurd frames
  all-move [] mws (f ∷ fs) ws (i ∷ rest) left frames a b s = absurd s.slots
  all-move (mf ∷ mfs) mws (f ∷ fs) ws (i ∷ rest) left (inl h) a b s = item-moves mf mfs mws f fs ws i rest h a b s
  all-move (mf ∷ mfs) mws (f ∷ fs) ws (i ∷ rest) left (inr h) a b s = absurd (subst SomeLeft h.no_item left)
