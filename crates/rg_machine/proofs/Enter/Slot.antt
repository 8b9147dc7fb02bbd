-- A window that comes, over the slot into which its region's bridge goes.
use Rattle.std.proofs.Common.{◌≡◌, ◌≤◌, ◌<◌, ◌⊎◌, inl, inr, ℕ, zero, suc, ◌+◌, ◌-◌, Bool as Truth, true, false, ◌||◌, List, [], ◌∷◌, ◌++◌}
use Rattle.std.proofs.Common.{◌&&◌, not, nat_lt, Ok, Err, if◌then◌else◌, unwrap_or, option_map, Option, Some, None, length, take, drop}
use Rattle.std.proofs.Common.{reverse, slice_get, slice_set, slice_index_or, refl, sym, ap, ◌∙◌, subst, arith}
use Rattle.std.proofs.Common.{length-append}
use Rattle.std.specs.List.{list_any}
use Rattle.std.proofs.lemmas.Bool.{false≢true, and_parts, eq-eqb as eq-is, cases_lt as order}
use Rattle.std.proofs.lemmas.List.{length-set, get_or_append_left, get_or_push, get_or_past}
use Rattle.std.proofs.lemmas.Option.{none-some, same_Some, slice_get_within}
use Rattle.std.proofs.lemmas.List.Folds.{list_any-append as any-append}
use Rattle.std.proofs.lemmas.Map.Keys.{any_passes_from_place as any-in}
use Rattle.rg_base.specs.declared.object.Place.{Place}
use Rattle.rg_base.specs.declared.object.Label.TheVariants.{Region}
use Rattle.rg_base.specs.declared.value.Word.{Word}
use Rattle.rg_base.specs.declared.value.Word.TheVariants as word
use Rattle.rg_base.specs.declared.value.Word.TheVariants.{Nil, Slot}
use Rattle.rg_cells.specs.Table.{Heap, label_at, IsHeld}
use Rattle.rg_cells.specs.declared.cell.Body.{Body}
use Rattle.rg_regions.specs.Table.{HasNumber}
use Rattle.rg_regions.specs.Reach.{LiesIn}
use Rattle.rg_regions.specs.Grove.{Parent}
use Rattle.rg_frames.specs.declared.rows.Window.{Window as WindowRow}
use Rattle.rg_frames.specs.Stack.{Stack, has_region}
use Rattle.rg_frames.specs.Changes.{opened, with_slot}
use Rattle.rg_heap.specs.Parts.{Parts}
use Rattle.rg_heap.specs.Answers.{IsClosed}
use Rattle.rg_heap.specs.Opened.{Opened, IsWindow, IsTempOf}
use Rattle.rg_view.specs.Lain.{Nested}
use Rattle.rg_base.specs.declared.value.Val.{Val}
use Rattle.rg_stack.specs.Machine.{Frame, Window, Machine, put_slot, place_of, top_slots, with_slots, slot_at}
use Rattle.rg_stack.specs.Effects.{Walked, Stuck}
use Rattle.rg_heap.specs.Answers.{val_of}
use Rattle.rg_view.specs.View.{frames_of, windows_of, number_of, store_of, managers_of, machine_of}
use Rattle.rg_view.proofs.Callers.Open.{number-is}
use Rattle.rg_view.proofs.Callers.Frame.{top-size, place-there, slot-frames, slot-there, slot-past}
use Rattle.rg_view.proofs.Callers.Window.{opened-windows}
use Rattle.rg_base.specs.declared.object.Label.{Label}
use Rattle.rg_base.specs.declared.object.Place.TheVariants as place
use Rattle.rg_base.specs.declared.object.Seen.{Seen}
use Rattle.rg_base.specs.declared.outcome.Trap.TheVariants as trap
use Rattle.rg_base.proofs.Callers.Labels.{region-same, slot-same}
use Rattle.rg_base.proofs.Callers.Lists.{there}
use Rattle.rg_tree.proofs.TreesFrom.{slice_get-push}
use Rattle.rg_rules.specs.Evaluation.{object_at}
use Rattle.rg_rules.specs.Regions.{region_of}
use Rattle.rg_code.specs.Code.{empty}
use Rattle.rg_code.specs.declared.op.Op.TheVariants as i
use Rattle.rg_cells.specs.Table.{Serials}
use Rattle.rg_regions.specs.Grove.{Grove}
use Rattle.rg_regions.proofs.Callers.Told.{lies_held as lies-held}
use Rattle.rg_heap.proofs.Callers.Opens.{open_not_closed}
use Rattle.rg_stack.specs.Needs.{is_empty, is_closed, owned_once, owns_or_nil}
use Rattle.rg_stack.specs.Effects.{Go, Traps, begins_by, on_object}
use Rattle.rg_stack.specs.Tops.{entered, frame_number}
use Rattle.rg_held.specs.Frees.{free_act}
use Rattle.rg_held.proofs.Lists.{set-back, append-left as got-there}
use Rattle.rg_view.specs.View.{object_of, values_of}
use Rattle.rg_view.proofs.Callers.Shown.{held-body}
use Rattle.rg_view.proofs.Callers.Read.{object-there}
use Rattle.rg_view.proofs.Callers.Need.{ownerless-slot}
use Rattle.rg_view.proofs.Callers.Instructions.{owns}
use Rattle.rg_machine.specs.Core.{Has, work_of}
use Rattle.rg_machine.specs.Frames.{can_open}
use Rattle.rg_machine.specs.Parts.{Parts as Whole}
use Rattle.rg_machine.specs.Cores.{core_of}
use Rattle.rg_machine.specs.Keeps.{SameBacks, backs}
use Rattle.rg_machine.specs.Stands.{Leads, AllLead, Stands}

-- Lists that get one element more, or another one

got-append : {A : Type 0} (xs : List A) (new : A) (k : ℕ) (x : A) → slice_get (xs ++ new ∷ []) k ≡ Some x
    → (slice_get xs k ≡ Some x) ⊎ ((k ≡ length xs) × (new ≡ x))
got-append [] new zero x e = inr (refl, same_Some new x e)
got-append [] new (suc k) x e = absurd (none-some x e)
got-append (y ∷ ys) new zero x e = inl e
got-append (y ∷ ys) new (suc k) x e = elim (got-append ys new k x e) [ inl a ↦ inl a | inr a ↦ inr (ap suc a.0, a.1) ]

drop-past : (xs : List ℕ) (m : ℕ) → drop (length xs) (take m xs) ≡ []
drop-past [] zero = refl
drop-past [] (suc m) = refl
drop-past (x ∷ xs) zero = refl
drop-past (x ∷ xs) (suc m) = drop-past xs m

-- where the temporaries of a window end: where those of the next one begin
end-old : (marks : List ℕ) (n i : ℕ) → i < length marks → slice_index_or (marks ++ n ∷ []) (i + 1) n ≡ slice_index_or marks (i + 1) n
end-old marks n i lt = elim (order (i + 1) (length marks)) [
  | inl less ↦ get_or_append_left marks (n ∷ []) n (i + 1) less
  | inr le ↦ get_or_push marks n n (i + 1) (omega (arith, lt, le)) ∙ sym (get_or_past marks (i + 1) n le)
]

-- the window beneath a new one has the region of a parent
abbrev pub ParentBeneath : Parts → Stack → (region : ℕ) → Type 0
ParentBeneath p v r = (q : ℕ) → Parent p.cells.heap q r
    → (j : ℕ) × (u : WindowRow) × (length v.windows ≡ j + 1) × IsWindow v j u × HasNumber p.regions u.region q

-- a window on the region of a key over a slot of the topmost frame, into which a bridge goes
abbrev pub entered_stack : Stack → (key : ℕ) → Place → (z bridge : ℕ) → Stack
entered_stack v key owner z b = with_slot (opened v key owner (v.first + z)) z (Slot b)

-- a word that is no slot leads to no object
pub no-object : (h : Heap) (u : Word) → ((s : ℕ) → u ≡ Slot s → ⊥) → object_at (store_of h) (val_of h u) ≡ Err trap.Nil
no-object h Nil no_slot = refl
no-object h (word.Int z) no_slot = refl
no-object h (word.Bool b) no_slot = refl
no-object h (Slot s) no_slot = absurd (no_slot s refl)

module _ (p : Parts) (v : Stack) (key : ℕ) (owner : Place) (z r b : ℕ) (h : Stands p v) (has : HasNumber p.regions key r)
    (closed : list_any (has_region key) v.windows ≡ false) (lies : LiesIn p.cells.heap r b) where
  abbrev row : WindowRow
  row = record { number = v.next; region = key; owner = Some owner; base = v.first + z }

  abbrev next : Stack
  next = entered_stack v key owner z b

  -- a window was open, or is the new one
  window-was : (i : ℕ) (w : WindowRow) → IsWindow next i w → IsWindow v i w ⊎ ((i ≡ length v.windows) × (row ≡ w))
  window-was i w e = got-append v.windows row i w e

  window-stays : (i : ℕ) (w : WindowRow) → IsWindow v i w → IsWindow next i w
  window-stays i w e = got-there v.windows (row ∷ []) i w e

  window-new : IsWindow next (length v.windows) row
  window-new = slice_get-push v.windows row

  -- no window had the region
  not-key : (i : ℕ) (w : WindowRow) → IsWindow v i w → w.region ≡ key → ⊥
  not-key i w e is = false≢true (sym closed ∙ any-in (has_region key) v.windows i w e (eq-is w.region key is))

  not-next : (i : ℕ) (w : WindowRow) → IsWindow v i w → w.number ≡ v.next → ⊥
  not-next i w e is = let lt = h.windows_next i w e in omega (arith, lt, is)

  within : (i : ℕ) (w : WindowRow) → IsWindow v i w → i < length v.marks
  within i w e = let lt = slice_get_within v.windows i w e in let many = h.opened.as_many in omega (arith, lt, many)

  -- temporaries stay those of their windows, and the new one has none
  range-old : (i : ℕ) → i < length v.marks
      → drop (slice_index_or next.marks i 0) (take (slice_index_or next.marks (i + 1) (length v.temps)) v.temps)
      ≡ drop (slice_index_or v.marks i 0) (take (slice_index_or v.marks (i + 1) (length v.temps)) v.temps)
  range-old i lt =
      ap (λ n. drop n (take (slice_index_or next.marks (i + 1) (length v.temps)) v.temps))
      (get_or_append_left v.marks (length v.temps ∷ []) 0 i lt)
      ∙ ap (λ n. drop (slice_index_or v.marks i 0) (take n v.temps)) (end-old v.marks (length v.temps) i lt)

  temp-was : (i s : ℕ) → i < length v.marks → IsTempOf next i s → IsTempOf v i s
  temp-was i s lt t = (t.0, sym (ap (λ xs. slice_get xs t.0) (range-old i lt)) ∙ t.1)

  temp-stays : (i s : ℕ) → i < length v.marks → IsTempOf v i s → IsTempOf next i s
  temp-stays i s lt t = (t.0, ap (λ xs. slice_get xs t.0) (range-old i lt) ∙ t.1)

  none-new : (i s : ℕ) → i ≡ length v.windows → IsTempOf next i s → ⊥
  none-new i s is t =
      let many = h.opened.as_many in
      let at : length v.marks ≡ i = omega (arith, is, many) in
      let start : slice_index_or next.marks i 0 ≡ length v.temps = get_or_push v.marks (length v.temps) 0 i at in
      none-some s (sym (
      ap (λ n. slice_get (drop n (take (slice_index_or next.marks (i + 1) (length v.temps)) v.temps)) t.0) start
      ∙ ap (λ xs. slice_get xs t.0) (drop-past v.temps (slice_index_or next.marks (i + 1) (length v.temps)))) ∙ t.1)

  longer : length next.windows ≡ length v.windows + 1
  longer = length-append v.windows (row ∷ [])

  longer-marks : length next.marks ≡ length v.marks + 1
  longer-marks = length-append v.marks (length v.temps ∷ [])

  is-opened : ParentBeneath p v r → Opened p next
  is-opened parent = record {
    as_many = let many = h.opened.as_many in omega (arith, longer, longer-marks, many);
    first = λ w e. elim (window-was 0 w e) [
      | inl old ↦ h.opened.first w old
      | inr x ↦ let some = h.opened.some in let is = x.0 in absurd (omega (arith, some, is))
    ];
    some = omega (arith, longer);
    known = λ i w e. elim (window-was i w e) [
      | inl old ↦ h.opened.known i w old
      | inr x ↦ (r, subst (λ (u : WindowRow). HasNumber p.regions u.region r) x.1 has)
    ];
    differ = λ i j w u e f same. elim (window-was i w e) [
      | inl old ↦ elim (window-was j u f) [
        | inl too ↦ h.opened.differ i j w u old too same
        | inr y ↦ absurd (not-key i w old (same ∙ sym (ap (λ (x : WindowRow). x.region) y.1)))
      ]
      | inr x ↦ elim (window-was j u f) [
        | inl too ↦ absurd (not-key j u too (sym same ∙ sym (ap (λ (x : WindowRow). x.region) x.1)))
        | inr y ↦ x.0 ∙ sym y.0
      ]
    ];
    temps = λ i s w e t. elim (window-was i w e) [
      | inl old ↦ h.opened.temps i s w old (temp-was i s (within i w old) t)
      | inr x ↦ absurd (none-new i s x.0 t)
    ];
    all_temps = λ i s w e l. elim (window-was i w e) [
      | inl old ↦ temp-stays i s (within i w old) (h.opened.all_temps i s w old l)
      | inr x ↦
          let is : w.number ≡ v.next = sym (ap (λ (x : WindowRow). x.number) x.1) in
          let u = h.temps s w.number l in
          absurd (not-next u.0 u.1 u.2 (u.3 ∙ is))
    ];
    once = h.opened.once;
    slots = λ j s e. elim (set-back v.slots (v.first + z) j (Slot b) (Slot s) e) [
      | inl x ↦ subst (IsHeld p.cells.heap) (slot-same b s (sym x.1)) (lies-held p.cells.heap r b lies)
      | inr old ↦ h.opened.slots j s old
    ];
    lead = h.opened.lead;
    parents = λ i w n q e known a. elim (window-was i w e) [
      | inl old ↦ let x = h.opened.parents i w n q old known a in (x.0, x.1, x.2, window-stays x.0 x.1 x.3, x.4)
      | inr x ↦
          let is : n ≡ r = same_Some n r (sym known ∙ subst (λ (u : WindowRow). HasNumber p.regions u.region r) x.1 has) in
          let y = parent q (subst (Parent p.cells.heap q) is a) in
          (y.0, y.1, x.0 ∙ y.2, window-stays y.0 y.1 y.3, y.4)
    ];
  }

  -- no window was on a closed region that has another number
  closed-before : (q : ℕ) → IsClosed p.regions next q → IsClosed p.regions v q
  closed-before q c = (c.0, c.1, front (list_any (has_region c.0) v.windows) _ (sym (any-append (has_region c.0) v.windows (row ∷ [])) ∙ c.2))
    where
      front : (a b : Truth) → (a || b) ≡ false → a ≡ false
      front true b e = e
      front false b e = refl

  pub still-leads : (w : Word) → Leads p v w → Leads p next w
  still-leads w l = record { held = l.held; bridge = λ s q is i c. l.bridge s q is i (closed-before q c) }

  pub all-still-lead : (words : List Word) → AllLead p v words → AllLead p next words
  all-still-lead words l k w e = still-leads w (l k w e)

  pub stands-entered : ParentBeneath p v r → Stands p next
  stands-entered parent = record {
    opened = is-opened parent;
    lain = subst (λ n. Nested v.first n (reverse v.frames)) (sym (length-set v.slots (v.first + z) (Slot b))) h.lain;
    some = h.some;
    numbers = h.numbers;
    bridges = h.bridges;
    window_numbers = λ i j w u e f same. elim (window-was i w e) [
      | inl old ↦ elim (window-was j u f) [
        | inl too ↦ h.window_numbers i j w u old too same
        | inr y ↦ absurd (not-next i w old (same ∙ sym (ap (λ (x : WindowRow). x.number) y.1)))
      ]
      | inr x ↦ elim (window-was j u f) [
        | inl too ↦ absurd (not-next j u too (sym same ∙ sym (ap (λ (x : WindowRow). x.number) x.1)))
        | inr y ↦ x.0 ∙ sym y.0
      ]
    ];
    windows_next = λ i w e. elim (window-was i w e) [
      | inl old ↦ let lt = h.windows_next i w old in omega (arith, lt)
      | inr x ↦ let is : v.next ≡ w.number = ap (λ (x : WindowRow). x.number) x.1 in omega (arith, is)
    ];
    temps = λ s n l. let x = h.temps s n l in (x.0, x.1, window-stays x.0 x.1 x.2, x.3);
    slots = λ j s q e l begins. elim (set-back v.slots (v.first + z) j (Slot b) (Slot s) e) [
      | inl x ↦
          let same : s ≡ b = slot-same s b x.1 in
          let is : q ≡ r = region-same q r (sym l ∙ ap (label_at p.cells.heap) same ∙ lies) in
          let lt = begins (length v.windows) row window-new (subst (HasNumber p.regions key) (sym is) has) in
          let at = x.0 in
          absurd (omega (arith, lt, at))
      | inr old ↦ h.slots j s q old l (λ i w f n. begins i w (window-stays i w f) n)
    ];
    fields = λ i s k to q w e t f l later. elim (window-was i w e) [
      | inl old ↦ h.fields i s k to q w old (temp-was i s (within i w old) t) f l (λ j u g n. later j u (window-stays j u g) n)
      | inr x ↦ absurd (none-new i s x.0 t)
    ];
    first_mark = λ n e. elim (got-append v.marks (length v.temps) 0 n e) [
      | inl old ↦ h.first_mark n old
      | inr x ↦ let many = h.opened.as_many in let some = h.opened.some in let is = x.0 in absurd (omega (arith, many, some, is))
    ];
  }

  -- what it shows, with these frames and windows
  abbrev shown : ℕ → List Frame → List Window → Machine
  shown at f ws = record {
    store = store_of p.cells.heap;
    frames = f;
    windows = ws;
    managers = managers_of p.regions;
    windows_made = v.next + 1;
    at = at;
  }

  pub machine-entered : (at : ℕ) (owner_is : Place) → owner ≡ owner_is → z < length v.slots - v.first
      → put_slot (record (machine_of p v at) {
        windows = record {
          number = v.next;
          region = r;
          owner = Some owner_is;
          base = place_of (frames_of p.cells.heap v) z;
        } ∷ windows_of p.regions v;
        windows_made = v.next + 1;
      }) z (val_of p.cells.heap (Slot b)) ≡ machine_of p next at
  machine-entered at owner_is is lt =
      let number : r ≡ number_of p.regions key = sym (number-is p.regions key r has) in
      let base = place-there p.cells.heap v.slots v.first z (reverse v.frames) h.lain lt in
      ap (λ f. shown at f (record {
        number = v.next;
        region = r;
        owner = Some owner_is;
        base = place_of (frames_of p.cells.heap v) z;
      } ∷ windows_of p.regions v)) (sym (slot-frames p.cells.heap (opened v key owner (v.first + z)) z (Slot b)))
      ∙ ap (λ x. shown at (frames_of p.cells.heap next) (record {
        number = v.next;
        region = r;
        owner = Some owner_is;
        base = x;
      } ∷ windows_of p.regions v)) base
      ∙ ap (λ x. shown at (frames_of p.cells.heap next) (record {
        number = v.next;
        region = x;
        owner = Some owner_is;
        base = v.first + z;
      } ∷ windows_of p.regions v)) number
      ∙ ap (λ x. shown at (frames_of p.cells.heap next) (record {
        number = v.next;
        region = number_of p.regions key;
        owner = Some x;
        base = v.first + z;
      } ∷ windows_of p.regions v)) (sym is)
      ∙ ap (shown at (frames_of p.cells.heap next)) (sym (opened-windows p.regions v key owner (v.first + z)))

  pub same-backs : (at : ℕ) → SameBacks (machine_of p v at) (machine_of p next at)
  same-backs at =
      ap backs (slot-frames p.cells.heap (opened v key owner (v.first + z)) z (Slot b))
      ∙ backs-slots (slice_set (top_slots (frames_of p.cells.heap v)) z (val_of p.cells.heap (Slot b))) (frames_of p.cells.heap v)
    where
      backs-slots : (slots : List Val) (fs : List Frame) → backs (with_slots slots fs) ≡ backs fs
      backs-slots slots [] = refl
      backs-slots slots (f ∷ fs) = refl

-- What an instruction is given

pub opens-both : (a b : Truth) (go : Walked) → (if a then b else false) ≡ true → (if a then (if b then go else Stuck) else Stuck) ≡ go
opens-both true true go e = refl
opens-both true false go e = absurd (false≢true e)
opens-both false b go e = absurd (false≢true e)

module _ (p : Parts) (v : Stack) (at : ℕ) (h : Stands p v) where
  -- the value in a slot of the topmost frame is what its word shows
  pub slot-word : (s : ℕ) → slot_at (machine_of p v at) s ≡ val_of p.cells.heap (unwrap_or (slice_get v.slots (v.first + s)) Nil)
  slot-word s = by (slice_get v.slots (v.first + s)) refl
    where
      by : (o : Option Word) → slice_get v.slots (v.first + s) ≡ o
          → slot_at (machine_of p v at) s ≡ val_of p.cells.heap (unwrap_or (slice_get v.slots (v.first + s)) Nil)
      by None e =
          slot-past p.cells.heap v.slots v.first s (reverse v.frames) h.lain (none-past v.slots v.first s e)
          ∙ sym (ap (λ o. val_of p.cells.heap (unwrap_or o Nil)) e)
        where
          none-past : (xs : List Word) (n s : ℕ) → slice_get xs (n + s) ≡ None → length xs - n ≤ s
          none-past xs n s e = elim (order (n + s) (length xs)) [
            | inl lt ↦ let x = there xs (n + s) lt in absurd (none-some x.0 (sym e ∙ x.1))
            | inr le ↦ omega (arith, le)
          ]
      by (Some w) e =
          slot-there p.cells.heap v.slots v.first s (reverse v.frames) w h.lain e
          ∙ sym (ap (λ o. val_of p.cells.heap (unwrap_or o Nil)) e)

  -- a word in a slot that is a reference stands there
  slot-stands : (j b : ℕ) → unwrap_or (slice_get v.slots j) Nil ≡ Slot b → slice_get v.slots j ≡ Some (Slot b)
  slot-stands j b e = by (slice_get v.slots j) refl
    where
      nil-slot : Nil ≡ Slot b → ⊥
      nil-slot f = cc

      by : (o : Option Word) → slice_get v.slots j ≡ o → slice_get v.slots j ≡ Some (Slot b)
      by None f = absurd (nil-slot (sym (ap (λ o. unwrap_or o Nil) f) ∙ e))
      by (Some w) f = f ∙ ap Some (sym (ap (λ o. unwrap_or o Nil) f) ∙ e)

  -- a window that can be opened is over a slot of the topmost frame
  pub opens-within : (z : ℕ) → can_open (machine_of p v at) z ≡ true
      → (z < length v.slots - v.first) × (place_of (frames_of p.cells.heap v) z ≡ v.first + z)
  opens-within z e =
      let size = top-size p.cells.heap v.slots v.first (reverse v.frames) h.lain in
      let lt : z < length (top_slots (frames_of p.cells.heap v)) =
      first (nat_lt z (length (top_slots (frames_of p.cells.heap v)))) (begins_by (windows_of p.regions v) (place_of (frames_of p.cells.heap v) z))
      refl e in
      let less : z < length v.slots - v.first = omega (arith, lt, size) in
      (less, place-there p.cells.heap v.slots v.first z (reverse v.frames) h.lain less)
    where
      first : (a b : Truth) → nat_lt z (length (top_slots (frames_of p.cells.heap v))) ≡ a → (if a then b else false) ≡ true
          → z < length (top_slots (frames_of p.cells.heap v))
      first true b is e = grind (arith, is)
      first false b is e = absurd (false≢true e)

  -- it leads where one on the stack may
  pub slot-leads : (j : ℕ) (w : Word) → Grove p.cells p.regions → slice_get v.slots j ≡ Some w → Leads p v w
  slot-leads j w g e = record {
    held = λ s is. h.opened.slots j s (e ∙ ap Some is);
    bridge = λ s r is lies c. h.slots j s r (e ∙ ap Some is) lies (λ i u f n. absurd (open_not_closed p v i r u g f n c));
  }

  -- what a window is opened on: a closed region, that of the cell to which a word leads
  pub record Entered (b : ℕ) : Type 0 where
    pub region : ℕ
    pub lies : LiesIn p.cells.heap region b
    pub closed : IsClosed p.regions v region
    pub object : Seen
    pub there : object_at (store_of p.cells.heap) (val_of p.cells.heap (Slot b)) ≡ Ok object
    pub label : region_of object.label ≡ Some region

  pub entered-by : (b : ℕ) → Serials p.cells.heap → Grove p.cells p.regions → IsHeld p.cells.heap b
      → owns_or_nil (machine_of p v at) (val_of p.cells.heap (Slot b)) ≡ true → Entered b
  entered-by b q g held e =
      let l = owns p v at q g h.opened b held e in
      let lies : LiesIn p.cells.heap l.0 b = subst (LiesIn p.cells.heap l.0) (slot-same l.1 b (sym l.2)) l.3 in
      let body = held-body p.cells.heap b held in
      record {
        region = l.0;
        lies = lies;
        closed = l.4;
        object = object_of p.cells.heap (Some body.0);
        there = object-there p.cells.heap b body.0 q body.1;
        label = ap region_of (some-same body.0.label (Region l.0)
            (sym (ap (option_map (λ (b : Body). b.label)) body.1) ∙ lies));
      }
    where
      some-same : (l k : Label) → Some l ≡ Some k → l ≡ k
      some-same l k e = cc

  -- `enter` is given what it needs
  pub record CanEnterSlot (s b : ℕ) : Type 0 where
    pub stands : slice_get v.slots (v.first + s) ≡ Some (Slot b)
    pub shown : slot_at (machine_of p v at) s ≡ val_of p.cells.heap (Slot b)
    pub entered : Entered b
    pub parent : ParentBeneath p v entered.region

  pub can-enter-slot : (s z b : ℕ) (words : List Word) (printed : Option Val) → Serials p.cells.heap → Grove p.cells p.regions
      → Has (i.Enter s z) (core_of (record { heap = p; frames = v; words = words; at = at; printed = printed }))
      → unwrap_or (slice_get v.slots (v.first + s)) Nil ≡ Slot b → CanEnterSlot s b
  can-enter-slot s z b words printed q g given is =
      let m = machine_of p v at in
      let stands = slot-stands (v.first + s) b is in
      let shown = slot-word s ∙ ap (val_of p.cells.heap) is in
      let all = and_parts (is_empty (values_of p.cells.heap words) && owned_once m && owns_or_nil m (slot_at m s))
      (not (is_closed m (slot_at m z))) given in
      let front = and_parts (is_empty (values_of p.cells.heap words) && owned_once m) (owns_or_nil m (slot_at m s)) all.0 in
      let once = (and_parts (is_empty (values_of p.cells.heap words)) (owned_once m) front.0).1 in
      let own : owns_or_nil m (val_of p.cells.heap (Slot b)) ≡ true = sym (ap (owns_or_nil m) shown) ∙ front.1 in
      let leads = slot-leads (v.first + s) (Slot b) g stands in
      let held = leads.held b refl in
      let x = entered-by b q g held own in
      let alone = ownerless-slot p v at q g h.opened x.region b s h.numbers x.lies x.closed (leads.bridge b x.region refl x.lies x.closed)
      shown once in
      record {
        stands = stands;
        shown = shown;
        entered = x;
        parent = λ n a. absurd (alone.alone n a.from a.field a.to a.differ a.lies a.leads a.child_has);
      }

  -- up to the slot that is looked at
  to-the-slot : (s z : ℕ) (words : List Word) (printed : Option Val) (code_at : ℕ) → can_open (machine_of p v at) z ≡ true
      → (go : Go) (input : List ℕ)
      → free_act empty code_at (i.Enter s z) go (values_of p.cells.heap words)
      (work_of (core_of (record { heap = p; frames = v; words = words; at = at; printed = printed })) input)
      ≡ on_object (store_of p.cells.heap) (slot_at (machine_of p v at) s) (λ u. go 0 (values_of p.cells.heap words)
      (entered (work_of (core_of (record { heap = p; frames = v; words = words; at = at; printed = printed })) input)
      (place.Var (frame_number (frames_of p.cells.heap v)) s) (slot_at (machine_of p v at) s) z (region_of u.label)))
  to-the-slot s z words printed code_at opens go input =
      let m = machine_of p v at in
      let w = work_of (core_of (record { heap = p; frames = v; words = words; at = at; printed = printed })) input in
      opens-both (nat_lt z (length (top_slots m.frames))) (begins_by m.windows (place_of m.frames z))
      (on_object m.store (slot_at m s) (λ u. go 0 (values_of p.cells.heap words)
      (entered w (place.Var (frame_number m.frames) s) (slot_at m s) z (region_of u.label)))) opens

  pub enter-effect : (s z b : ℕ) (words : List Word) (printed : Option Val) (owner : Place) (code_at : ℕ) (x : CanEnterSlot s b)
      → owner ≡ place.Var (frame_number (frames_of p.cells.heap v)) s → can_open (machine_of p v at) z ≡ true
      → (go : Go) (input : List ℕ)
      → free_act empty code_at (i.Enter s z) go (values_of p.cells.heap words)
      (work_of (core_of (record { heap = p; frames = v; words = words; at = at; printed = printed })) input)
      ≡ go 0 (values_of p.cells.heap words) (work_of (core_of (record {
        heap = p;
        frames = entered_stack v x.entered.closed.0 owner z b;
        words = words;
        at = at;
        printed = printed;
      })) input)
  enter-effect s z b words printed owner code_at x is opens go input =
      let m = machine_of p v at in
      let w = work_of (core_of (record { heap = p; frames = v; words = words; at = at; printed = printed })) input in
      let stack = values_of p.cells.heap words in
      let o = place.Var (frame_number m.frames) s in
      to-the-slot s z words printed code_at opens go input
      ∙ ap (λ y. on_object m.store y (λ u. go 0 stack (entered w o y z (region_of u.label)))) x.shown
      ∙ ap (λ r. elim r [ Ok u ↦ go 0 stack (entered w o (val_of p.cells.heap (Slot b)) z (region_of u.label)) | Err t ↦ Traps t ])
      x.entered.there
      ∙ ap (λ r. go 0 stack (entered w o (val_of p.cells.heap (Slot b)) z r)) x.entered.label
      ∙ ap (λ m. go 0 stack (record { machine = m; input = input; printed = printed }))
      (machine-entered p v x.entered.closed.0 owner z x.entered.region b h x.entered.closed.1 x.entered.closed.2 x.entered.lies at o is
      (opens-within z opens).0)

  -- a reference that is nil
  pub enter-nil : (s z : ℕ) (words : List Word) (printed : Option Val) (code_at : ℕ) (u : Word)
      → unwrap_or (slice_get v.slots (v.first + s)) Nil ≡ u → object_at (store_of p.cells.heap) (val_of p.cells.heap u) ≡ Err trap.Nil
      → can_open (machine_of p v at) z ≡ true → (go : Go) (input : List ℕ)
      → free_act empty code_at (i.Enter s z) go (values_of p.cells.heap words)
      (work_of (core_of (record { heap = p; frames = v; words = words; at = at; printed = printed })) input)
      ≡ Traps trap.Nil
  enter-nil s z words printed code_at u is none opens go input =
      let m = machine_of p v at in
      let w = work_of (core_of (record { heap = p; frames = v; words = words; at = at; printed = printed })) input in
      let stack = values_of p.cells.heap words in
      let o = place.Var (frame_number m.frames) s in
      to-the-slot s z words printed code_at opens go input
      ∙ ap (λ y. on_object m.store y (λ u. go 0 stack (entered w o y z (region_of u.label)))) (slot-word s ∙ ap (val_of p.cells.heap) is)
      ∙ ap (λ r. elim r [ Ok x ↦ go 0 stack (entered w o (val_of p.cells.heap u) z (region_of x.label)) | Err t ↦ Traps t ]) none

-- the same, where the code has the machine and its parts
pub can-enter-of : (m old : Whole) (h : Stands m.heap m.frames) (s z b : ℕ) → Serials m.heap.cells.heap → Grove m.heap.cells m.heap.regions
    → m ≡ old → Has (i.Enter s z) (core_of old) → unwrap_or (slice_get m.frames.slots (m.frames.first + s)) Nil ≡ Slot b
    → CanEnterSlot m.heap m.frames m.at h s b
can-enter-of m old h s z b q g view given is =
    can-enter-slot m.heap m.frames m.at h s z b m.words m.printed q g (subst (λ (m : Whole). Has (i.Enter s z) (core_of m)) (sym view) given) is
