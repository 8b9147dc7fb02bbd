-- The machine of a behaviour whose contents have all come: what always holds of it, and what it shows.
use Rattle.std.proofs.Common.{◌≡◌, ◌+◌, ◌-◌, ℕ, zero, suc, List, [], ◌∷◌, ◌++◌, length, map, take, drop, replicate, Some}
use Rattle.std.proofs.Common.{None, slice_get, slice_index_or, option_map, refl, sym, ap, ◌∙◌, subst, arith, length-append}
use Rattle.std.proofs.lemmas.List.{append-nil}
use Rattle.std.proofs.lemmas.Option.{none-some, same_Some}
use Rattle.rg_base.specs.declared.object.Label.TheVariants.{Region, Temp}
use Rattle.rg_base.specs.declared.object.Seen.{Seen}
use Rattle.rg_base.specs.declared.words.Manager.{Manager}
use Rattle.rg_base.specs.declared.words.Manager.TheVariants.{Arena}
use Rattle.rg_base.specs.declared.value.Val.{Val}
use Rattle.rg_base.specs.declared.value.Val.TheVariants as val
use Rattle.rg_base.specs.declared.value.Word.TheVariants.{Nil, Slot}
use Rattle.rg_base.proofs.Callers.Labels.{slot-same, region-same}
use Rattle.rg_cells.specs.declared.cell.Body.{Body}
use Rattle.rg_cells.specs.Table.{label_at, Serials, IsHeld}
use Rattle.rg_regions.specs.Table.{record_at, HasNumber}
use Rattle.rg_regions.specs.Reach.{LiesIn}
use Rattle.rg_regions.specs.Grove.{Grove}
use Rattle.rg_regions.proofs.Callers.Told.{one_number, record_there}
use Rattle.rg_frames.specs.declared.rows.Window.{Window}
use Rattle.rg_frames.specs.Stack.{Stack}
use Rattle.rg_code.specs.declared.code.Entry.{Entry}
use Rattle.rg_stack.specs.Machine.{Frame, Machine}
use Rattle.rg_heap.specs.Parts.{Parts}
use Rattle.rg_heap.specs.Answers.{val_of, obj_of}
use Rattle.rg_heap.specs.Opened.{Opened, IsTempOf}
use Rattle.rg_opening.specs.declared.given.Given.{Given}
use Rattle.rg_opening.specs.Opening.{field_values, content_objects, content_managers}
use Rattle.rg_view.specs.View.{machine_of, frames_of, managers_of, number_in, number_of, store_of, object_of}
use Rattle.rg_view.proofs.Callers.Frame.{map-nil, pushed-frames}
use Rattle.rg_view.proofs.Callers.Manager.{manager-at}
use Rattle.rg_view.proofs.Callers.Shown.{get-drop, get-take, body-held}
use Rattle.rg_machine.specs.Stands.{Stands}
use Rattle.rg_begin.specs.Begun.{FirstHeld}
use Rattle.rg_begin.specs.Inner.Shown.{begun_machine}
use Rattle.rg_begin.specs.Inner.First.{main_frame, with_method}
use Rattle.rg_begin.specs.Inner.Laid.{start_value, object_with, AllMayCome, Laid}
use Rattle.rg_begin.proofs.Givens.{take-whole, drop-whole}
use Rattle.rg_begin.proofs.Owning.{no-temps, shown}

the-one : {A : Type 0} → (x y : A) (i : ℕ) → slice_get (x ∷ []) i ≡ Some y → (i ≡ 0) × (x ≡ y)
the-one x y zero e = (refl, same_Some x y e)
the-one x y (suc i) e = absurd (none-some y e)

nil-or : {B : Type 0} (n j s : ℕ) → slice_get (replicate n Nil) j ≡ Some (Slot s) → B
nil-or zero j s e = absurd (none-some (Slot s) e)
nil-or (suc n) zero s e = let same : Nil ≡ Slot s = same_Some Nil (Slot s) e in absurd cc
nil-or (suc n) (suc j) s e = nil-or n j s e

-- of all slots one leads somewhere
one-leads : (n slot more j s : ℕ) → slice_get (replicate n Nil ++ Slot slot ∷ replicate more Nil) j ≡ Some (Slot s) → slot ≡ s
one-leads zero slot more zero s e = slot-same slot s (same_Some (Slot slot) (Slot s) e)
one-leads zero slot more (suc j) s e = nil-or more j s e
one-leads (suc n) slot more zero s e = let same : Nil ≡ Slot s = same_Some Nil (Slot s) e in absurd cc
one-leads (suc n) slot more (suc j) s e = one-leads n slot more j s e

abbrev first-window : (key : ℕ) → Window
first-window key = record { number = 0; region = key; owner = None; base = 0 }

-- main's frame, and the method's on it
abbrev pub both-frames : (key main_slots a b slots slot c d : ℕ) → Stack
both-frames key n a b m slot c d = with_method (main_frame key n a b) m slot c d

no-temp : (i s : ℕ) (v : Stack) → v.temps ≡ [] → IsTempOf v i s → ⊥
no-temp i s v none t =
    let begin = slice_index_or v.marks i 0 in
    let end = slice_index_or v.marks (i + 1) (length v.temps) in
    let there : slice_get v.temps (begin + t.0) ≡ Some s =
    get-take end (begin + t.0) v.temps s (sym (get-drop begin t.0 (take end v.temps)) ∙ t.1) in
    none-some s (sym (ap (λ xs. slice_get xs (begin + t.0)) none) ∙ there)

module _ (p : Parts) (key n a b m slot c d class : ℕ) (given : List Given) (may : AllMayCome given) (q : Serials p.cells.heap)
    (g : Grove p.cells p.regions) (l : Laid p (main_frame key n a b) slot class given (length given)) where
  abbrev v : Stack
  v = both-frames key n a b m slot c d

  -- the region of the window
  number : HasNumber p.regions key 0
  number = subst (λ (w : Window). HasNumber p.regions w.region 0) (sym (same_Some (first-window key) l.window l.top)) l.region

  window-is : (i : ℕ) (w : Window) → slice_get v.windows i ≡ Some w → (i ≡ 0) × (first-window key ≡ w)
  window-is i w e = the-one (first-window key) w i e

  window-number : (i : ℕ) (w : Window) → slice_get v.windows i ≡ Some w → HasNumber p.regions w.region 0
  window-number i w e = subst (λ (x : Window). HasNumber p.regions x.region 0) (window-is i w e).1 number

  none : (x m : ℕ) → label_at p.cells.heap x ≡ Some (Temp m) → ⊥
  none x m e = no-temps p (main_frame key n a b) slot class given (length given) may q l x m e

  opened : Opened p v
  opened = record {
    as_many = refl;
    first = λ w e. window-number 0 w e;
    some = omega arith;
    known = λ i w e. (0, window-number i w e);
    differ = λ i j w u e f same. (window-is i w e).0 ∙ sym (window-is j u f).0;
    temps = λ i s w e t. absurd (no-temp i s v refl t);
    all_temps = λ i s w e is. absurd (none s w.number is);
    once = λ j k s e f. absurd (none-some s e);
    slots = λ j s e.
        subst (λ x. IsHeld p.cells.heap x) (one-leads n slot (m - 1) j s e)
        (body-held p.cells.heap slot l.first.0 l.first.1);
    lead = λ j s e. absurd (none-some s e);
    parents = λ i w x y e has parent.
        let zero : x ≡ 0 = one_number p.regions w.region x 0 has (window-number i w e) in
        absurd (g.none_into_first y parent.from parent.field parent.to (λ z. parent.differ (z ∙ sym zero)) parent.lies parent.leads
        (subst (λ r. LiesIn p.cells.heap r parent.to) zero parent.child_has));
  }

  -- the object lies in region 0
  object-lies : LiesIn p.cells.heap 0 slot
  object-lies =
      let o = shown p (main_frame key n a b) slot class given (length given) may q l slot l.first.0 l.first.1 in
      let store = object_with class given (length given) ∷ content_objects 1 1 (take (length given) given) in
      let same = same_Some (object_with class given (length given)) (object_of p.cells.heap (Some l.first.0))
      (ap (slice_get store) (sym l.first.2) ∙ o) in
      ap (option_map (λ (x : Body). x.label)) l.first.1 ∙ ap (λ (x : Seen). Some x.label) (sym same)

  -- what always holds of the machine
  pub begun-stands : Stands p v
  begun-stands = record {
    opened = opened;
    lain = (omega (arith, length-append (replicate n Nil) (Slot slot ∷ replicate (m - 1) Nil)), (omega (arith), refl));
    some = omega arith;
    numbers = l.numbers;
    bridges = l.bridges;
    window_numbers = λ i j w u e f same. (window-is i w e).0 ∙ sym (window-is j u f).0;
    windows_next = λ i w e.
        let is : 0 ≡ w.number = ap (λ (x : Window). x.number) (window-is i w e).1 in
        omega (arith, is);
    temps = λ s m is. absurd (none s m is);
    slots = λ j s r e lies behind.
        let same = one-leads n slot (m - 1) j s e in
        let in-zero : LiesIn p.cells.heap 0 s = subst (LiesIn p.cells.heap 0) same object-lies in
        let zero : r ≡ 0 = region-same r 0 (sym lies ∙ in-zero) in
        let front = behind 0 (first-window key) refl (subst (HasNumber p.regions key) (sym zero) number) in
        absurd (omega (arith, front));
    fields = λ i s k to r w e t. absurd (no-temp i s v refl t);
    first_mark = λ x e. sym (same_Some 0 x e);
  }

  -- it is held, and its region is an arena
  pub first-held : FirstHeld p
  first-held =
      let r = record_there (record_at p.regions key) 0 number in
      record {
        slot = slot;
        first = l.first;
        lies = object-lies;
        key = key;
        region = r.0;
        there = r.1;
        number = r.2;
        arena =
            same_Some r.0.manager Arena
            (sym (manager-at p.regions key r.0 l.numbers r.1) ∙ ap (slice_get (managers_of p.regions)) r.2
            ∙ ap (λ (ms : List Manager). slice_get ms 0) l.managers);
      }

  store-is : store_of p.cells.heap ≡ record { class = class; fields = field_values 1 given; label = Region 0 } ∷ content_objects 1 1 given
  store-is =
      let object : List Given → List Given → List Seen = λ gs ds.
      record { class = class; fields = field_values 1 gs ++ map start_value ds; label = Region 0 } ∷ content_objects 1 1 gs in
      l.store
      ∙ ap (λ gs. object gs (drop (length given) given)) (take-whole given)
      ∙ ap (object given) (drop-whole given)
      ∙ ap (λ vs. record { class = class; fields = vs; label = Region 0 } ∷ content_objects 1 1 given) (append-nil (field_values 1 given))

  managers-are : managers_of p.regions ≡ Arena ∷ content_managers given
  managers-are = l.managers ∙ ap (λ gs. Arena ∷ content_managers gs) (take-whole given)

  abbrev framed : List Val → List Frame → List Frame
  framed vs fs = record { slots = vs; back = 0 } ∷ fs

  frames-are : frames_of p.cells.heap v ≡ framed (val.Obj 0 ∷ replicate (m - 1) val.Nil) (framed (replicate n val.Nil) [])
  frames-are =
      pushed-frames p.cells.heap (main_frame key n a b) 0 (Slot slot ∷ replicate (m - 1) Nil)
      ∙ ap (λ vs. framed (val_of p.cells.heap (Slot slot) ∷ vs) (framed (map (val_of p.cells.heap) (replicate n Nil)) []))
      (map-nil p.cells.heap (m - 1))
      ∙ ap (λ x. framed (x ∷ replicate (m - 1) val.Nil) (framed (map (val_of p.cells.heap) (replicate n Nil)) []))
      (ap obj_of l.first.1 ∙ ap val.Obj l.first.2)
      ∙ ap (λ vs. framed (val.Obj 0 ∷ replicate (m - 1) val.Nil) (framed vs [])) (map-nil p.cells.heap n)

  abbrev machine : ℕ → List Seen → List Frame → ℕ → List Manager → Machine
  machine at store frames r managers = record {
    store = store;
    frames = frames;
    windows = record { number = 0; region = r; owner = None; base = 0 } ∷ [];
    managers = managers;
    windows_made = 1;
    at = at;
  }

  -- the machine that is shown
  pub begun-shows : (e : Entry) → e.slots ≡ m → machine_of p v e.at ≡ begun_machine n e class given
  begun-shows e is =
      let r = record_there (record_at p.regions key) 0 number in
      let zero : number_of p.regions key ≡ 0 = ap number_in r.1 ∙ r.2 in
      ap (λ store. machine e.at store (frames_of p.cells.heap v) (number_of p.regions key) (managers_of p.regions)) store-is
      ∙ ap (λ fs. machine e.at whole fs (number_of p.regions key) (managers_of p.regions)) frames-are
      ∙ ap (λ x. machine e.at whole frames x (managers_of p.regions)) zero
      ∙ ap (machine e.at whole frames 0) managers-are
      ∙ ap (λ k. machine e.at whole (framed (val.Obj 0 ∷ replicate (k - 1) val.Nil) (framed (replicate n val.Nil) [])) 0
      (Arena ∷ content_managers given)) (sym is)
    where
      whole : List Seen
      whole = record { class = class; fields = field_values 1 given; label = Region 0 } ∷ content_objects 1 1 given

      frames : List Frame
      frames = framed (val.Obj 0 ∷ replicate (m - 1) val.Nil) (framed (replicate n val.Nil) [])

-- the machine over a heap in which all contents have come, with the frame of the method
pub record Whole (p : Parts) (v : Stack) (main_slots : ℕ) (e : Entry) (class : ℕ) (given : List Given) : Type 0 where
  pub stands : Stands p v
  pub shows : machine_of p v e.at ≡ begun_machine main_slots e class given
  pub first : FirstHeld p

pub whole : (p : Parts) (first last : Stack) (key n slot class : ℕ) (e : Entry) (given : List Given) → AllMayCome given → Serials p.cells.heap
    → Grove p.cells p.regions → Laid p first slot class given (length given) → first ≡ main_frame key n first.frame_room first.slot_room
    → last ≡ with_method first e.slots slot last.frame_room last.slot_room → Whole p last n e class given
whole p first last key n slot class e given may q g l main own =
    let a = first.frame_room in
    let b = first.slot_room in
    let c = last.frame_room in
    let d = last.slot_room in
    let laid = subst (λ (v : Stack). Laid p v slot class given (length given)) main l in
    let frames : last ≡ both-frames key n a b e.slots slot c d = own ∙ ap (λ v. with_method v e.slots slot c d) main in
    record {
      stands = subst (Stands p) (sym frames) (begun-stands p key n a b e.slots slot c d class given may q g laid);
      shows = ap (λ v. machine_of p v e.at) frames ∙ begun-shows p key n a b e.slots slot c d class given may q g laid e refl;
      first = first-held p key n a b e.slots slot c d class given may q g laid;
    }
