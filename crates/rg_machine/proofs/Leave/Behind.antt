-- A window that is left: what goes with its temporaries, and what stands behind it.
use Rattle.std.proofs.Common.{◌≡◌, ◌≤◌, ◌<◌, ◌⊎◌, inl, inr, ℕ, zero, suc, ◌+◌, ◌-◌, true, false, List, [], ◌∷◌}
use Rattle.std.proofs.Common.{length, take, drop, Option, Some, option_map, slice_get, slice_index_or, refl, sym, ap}
use Rattle.std.proofs.Common.{◌∙◌, subst, arith}
use Rattle.std.proofs.lemmas.Bool.{false≢true, cases_lt as order}
use Rattle.std.proofs.lemmas.List.{length-take-le, get_or_past, get_or_default, take_all}
use Rattle.std.proofs.lemmas.Option.{none-some, slice_get_within, slice_get-get_or}
use Rattle.rg_base.specs.declared.object.Label.TheVariants.{Region, Temp}
use Rattle.rg_base.specs.declared.value.Word.TheVariants.{Slot}
use Rattle.rg_base.proofs.Callers.Labels.{region-same, temp-region}
use Rattle.rg_rules.specs.Regions.{among}
use Rattle.rg_sound.proofs.Owners.Owner.{get-take-within}
use Rattle.rg_cells.specs.declared.cell.Body.{Body}
use Rattle.rg_cells.specs.Table.{body_at, label_at, field_at, Serials}
use Rattle.rg_regions.specs.Table.{InTable}
use Rattle.rg_regions.specs.Reach.{LiesIn}
use Rattle.rg_regions.specs.Grove.{Grove, Parent, Above, direct, further}
use Rattle.rg_frames.specs.declared.rows.Window.{Window as WindowRow}
use Rattle.rg_frames.specs.Stack.{Stack, IsTop, mark}
use Rattle.rg_frames.specs.Changes.{MarksLie, closed, without_temps}
use Rattle.rg_stack.specs.Effects.{beneath_by_labels}
use Rattle.rg_stack.specs.Needs.{owned_once}
use Rattle.rg_stack.specs.Labels.{is_open}
use Rattle.rg_heap.specs.Parts.{Parts}
use Rattle.rg_heap.specs.Answers.{IsClosed}
use Rattle.rg_heap.specs.Ends.{Released, GoesAlong, IsTopTemp}
use Rattle.rg_heap.specs.Opened.{Opened, IsWindow, IsTempOf}
use Rattle.rg_view.specs.Links.{BelowSome, ByTemp}
use Rattle.rg_view.specs.Names.{Names, AreTemps}
use Rattle.rg_view.specs.View.{store_of, windows_of, managers_of, machine_of}
use Rattle.rg_view.proofs.Callers.Gone.Beneath.{beneath-names}
use Rattle.rg_view.proofs.Callers.Gone.Managers.{below-closed}
use Rattle.rg_view.proofs.Callers.Gone.Records.{released-numbers}
use Rattle.rg_view.proofs.Callers.Leave.{top-temp, temp-top}
use Rattle.rg_view.proofs.Callers.Need.{keyed}
use Rattle.rg_view.proofs.Callers.Once.{outside-once, outside-counts}
use Rattle.rg_view.proofs.Callers.Open.{not-open-closed}
use Rattle.rg_view.proofs.Callers.Shown.{get-drop, get-take}
use Rattle.rg_view.proofs.Callers.Table.{fewer-numbers}
use Rattle.rg_view.proofs.Callers.Gone.Temporaries.{top-row, top-temps, owned-temp, temp-owned}
use Rattle.rg_machine.proofs.Release.Stays.{Stays, stays}
use Rattle.rg_machine.specs.Stands.{BeginsBehind, OpensLater, Stands}
use Rattle.rg_machine.proofs.Release.Behind.{most-one, released-as, slot-counts-one, temp-window}

-- Fronts of lists

front-index : (n k d : ℕ) (xs : List ℕ) → k < n → slice_index_or (take n xs) k d ≡ slice_index_or xs k d
front-index zero k d xs lt = absurd (omega (arith, lt))
front-index (suc n) k d [] lt = refl
front-index (suc n) zero d (x ∷ xs) lt = refl
front-index (suc n) (suc k) d (x ∷ xs) lt = front-index n k d xs (omega (arith, lt))

front-front : (n m : ℕ) (xs : List ℕ) → n ≤ m → take n (take m xs) ≡ take n xs
front-front zero m xs le = refl
front-front (suc n) zero xs le = absurd (omega (arith, le))
front-front (suc n) (suc m) [] le = refl
front-front (suc n) (suc m) (x ∷ xs) le = ap (λ ys. x ∷ ys) (front-front n m xs (omega (arith, le)))

-- the stack behind a window's end
abbrev pub left : Stack → Stack
left v = closed (without_temps v)

module _ (v : Stack) (many : length v.marks ≡ length v.windows) (two : 2 ≤ length v.windows) (lie : MarksLie v) where
  abbrev last : ℕ
  last = length v.windows - 1

  -- a window stays, but for the topmost one
  pub window-was : (i : ℕ) (w : WindowRow) → IsWindow (left v) i w → IsWindow v i w × (i < last)
  window-was i w e =
      let lt = slice_get_within (take last v.windows) i w e in
      let n = length-take-le last v.windows (omega arith) in
      (get-take last i v.windows w e, omega (arith, lt, n))

  pub window-stays : (i : ℕ) (w : WindowRow) → IsWindow v i w → i < last → IsWindow (left v) i w
  window-stays i w e lt = get-take-within last v.windows i lt ∙ e

  -- where the temporaries of one that stays begin and end
  range-same : (i : ℕ) → i < last
      → drop (slice_index_or (left v).marks i 0) (take (slice_index_or (left v).marks (i + 1) (length (left v).temps)) (left v).temps)
      ≡ drop (slice_index_or v.marks i 0) (take (slice_index_or v.marks (i + 1) (length v.temps)) v.temps)
  range-same i lt =
      let n = length v.marks - 1 in
      let small : i < n = omega (arith, lt, many) in
      let inside : i + 1 < length v.marks = omega (arith, small) in
      let top : n < length v.marks = omega (arith, small) in
      let below : slice_index_or v.marks (i + 1) 0 ≤ mark v =
      lie.rise (i + 1) n (slice_index_or v.marks (i + 1) 0) (mark v) (omega (arith, small)) (slice_get-get_or v.marks (i + 1) 0 inside)
      (slice_get-get_or v.marks n 0 top) in
      let most : mark v ≤ length v.temps = lie.within n (mark v) (slice_get-get_or v.marks n 0 top) in
      let size : length (left v).temps ≡ mark v = length-take-le (mark v) v.temps most in
      let any : slice_index_or v.marks (i + 1) (length v.temps) ≡ slice_index_or v.marks (i + 1) 0 =
      get_or_default v.marks (i + 1) (length v.temps) 0 inside in
      let front : take (slice_index_or (left v).marks (i + 1) (length (left v).temps)) (left v).temps
      ≡ take (slice_index_or v.marks (i + 1) 0) v.temps = elim (order (i + 1) n) [
        | inl less ↦
            (let here = front-index n (i + 1) (length (left v).temps) v.marks less
            ∙ get_or_default v.marks (i + 1) (length (left v).temps) 0 inside in
            ap (λ k. take k (left v).temps) here ∙ front-front (slice_index_or v.marks (i + 1) 0) (mark v) v.temps below)
        | inr le ↦
            (let short = length-take-le n v.marks (omega arith) in
            let end = get_or_past (left v).marks (i + 1) (length (left v).temps) (omega (arith, short, le)) in
            let at : n ≡ i + 1 = omega (arith, le, small) in
            let is : mark v ≡ slice_index_or v.marks (i + 1) 0 = ap (λ k. slice_index_or v.marks k 0) at in
            ap (λ k. take k (left v).temps) end ∙ take_all (length (left v).temps) (left v).temps (omega arith)
            ∙ ap (λ k. take k v.temps) is)
      ] in
      ap (λ k. drop k (take (slice_index_or (left v).marks (i + 1) (length (left v).temps)) (left v).temps)) (front-index n i 0 v.marks small)
      ∙ ap (drop (slice_index_or v.marks i 0)) front
      ∙ ap (λ k. drop (slice_index_or v.marks i 0) (take k v.temps)) (sym any)

  pub temp-was : (i x : ℕ) → i < last → IsTempOf (left v) i x → IsTempOf v i x
  temp-was i x lt t = (t.0, sym (ap (λ xs. slice_get xs t.0) (range-same i lt)) ∙ t.1)

  pub temp-stays : (i x : ℕ) → i < last → IsTempOf v i x → IsTempOf (left v) i x
  temp-stays i x lt t = (t.0, ap (λ xs. slice_get xs t.0) (range-same i lt) ∙ t.1)

module _ (old : Parts) (v : Stack) (at : ℕ) (q : Serials old.cells.heap) (g : Grove old.cells old.regions) (s : Stands old v) (new : Parts)
    (two : 2 ≤ length v.windows) (once : owned_once (machine_of old v at) ≡ true) (lie : MarksLie v)
    (tops : List ℕ) (tops_are : Names tops (ByTemp (machine_of old v at)))
    (rel : Released old new (GoesAlong old v) (IsTopTemp v))
    (slots_free : (j x : ℕ) → slice_get v.slots j ≡ Some (Slot x) → IsTopTemp v x → ⊥)
    (fields_free : (x k to : ℕ) → field_at old.cells.heap x k ≡ Some (Slot to) → IsTopTemp v to → IsTopTemp v x)
    (front : (j x : ℕ) (w : WindowRow) → slice_get v.slots j ≡ Some (Slot x) → IsTop v w → j < w.base) where
  -- what goes
  abbrev pub Goes : ℕ → Type 0
  Goes r = BelowSome old.cells.heap old.regions tops r

  owned-by : (t : ℕ) → among tops t ≡ true → IsClosed old.regions v t
  owned-by t i = (temp-owned old v at q g s.opened t (tops_are.only t i)).closed

  along : (r : ℕ) → Goes r → GoesAlong old v r
  along r b = (b.0, temp-owned old v at q g s.opened b.0 (tops_are.only b.0 b.1), b.2)

  from-along : (r : ℕ) → GoesAlong old v r → Goes r
  from-along r a = (a.0, tops_are.all a.0 (owned-temp old v at q g s.opened a.0 a.1), a.2)

  pub released : Released old new Goes (IsTopTemp v)
  released = released-as old new (GoesAlong old v) Goes (IsTopTemp v) along from-along rel

  abbrev pub regions : List ℕ
  regions = beneath_by_labels (store_of old.cells.heap) (length (managers_of old.regions)) tops

  pub names : Names regions Goes
  names = beneath-names old q g s.numbers tops

  abbrev pub ended : Option ℕ
  ended = Some (top-row old v at q g s.opened).0.number

  pub cells : AreTemps old.cells.heap ended (IsTopTemp v)
  cells = top-temps old v at q g s.opened

  pub goes-closed : (r : ℕ) → Goes r → is_open (windows_of old.regions v) r ≡ false
  goes-closed r b = below-closed old v at q g s.opened tops owned-by r b

  closed-in : (r : ℕ) → Goes r → InTable old.regions r → IsClosed old.regions v r
  closed-in r b known = not-open-closed old.regions v (keyed old v at q g s.opened) r known (goes-closed r b)

  -- a field from outside leads into what goes: one of a temporary that goes, or of another region that does
  record Owner (r : ℕ) : Type 0 where
    from : ℕ
    field : ℕ
    to : ℕ
    away : LiesIn old.cells.heap r from → ⊥
    leads : field_at old.cells.heap from field ≡ Some (Slot to)
    lies : LiesIn old.cells.heap r to
    kind : IsTopTemp v from ⊎ ((m : ℕ) × LiesIn old.cells.heap m from × Goes m)

  by-parent : (m r : ℕ) → Parent old.cells.heap m r → Goes m → Owner r
  by-parent m r a b = record {
    from = a.from;
    field = a.field;
    to = a.to;
    away = λ l. a.differ (region-same m r (sym a.lies ∙ l));
    leads = a.leads;
    lies = a.child_has;
    kind = inr (m, a.lies, b);
  }

  owner-above : {t r : ℕ} → Above old.cells.heap t r → among tops t ≡ true → Owner r
  owner-above (direct {p = t} {r = r} a) i = by-parent t r a (t, i, inl refl)
  owner-above (further {p = t} {q = m} {r = r} x a) i = by-parent m r a (t, i, inr (g.labels m a.from a.lies, x))

  owner : (r : ℕ) → Goes r → Owner r
  owner r b = elim b.2 [
    | inl is ↦
        (let a = temp-owned old v at q g s.opened b.0 (tops_are.only b.0 b.1) in
        let t = cells.only a.slot (a.place, a.stands) in
        record {
          from = a.slot;
          field = a.field;
          to = a.to;
          away = λ l. temp-region t.0 r (sym t.1 ∙ l);
          leads = a.leads;
          lies = subst (λ n. LiesIn old.cells.heap n a.to) (sym is) a.lies;
          kind = inl (a.place, a.stands);
        })
    | inr x ↦ owner-above x.1 b.1
  ]

  -- no slot leads there
  no-slot : (j x r : ℕ) → slice_get v.slots j ≡ Some (Slot x) → LiesIn old.cells.heap r x → Goes r → ⊥
  no-slot j x r e lies b =
      let one = slot-counts-one old v at q g s r j x e lies in
      let o = owner r b in
      let two = outside-counts old v at q g s.opened s.temps r o.from o.field o.to o.away o.leads o.lies in
      let most = most-one old v at q g s r (closed-in r b (g.labels r x lies)) once in
      absurd (omega (arith, one, two, most))

  -- nor does a field of what stays
  no-field : (x k to r : ℕ) → (IsTopTemp v x → ⊥) → ((m : ℕ) → Goes m → LiesIn old.cells.heap m x → ⊥)
      → field_at old.cells.heap x k ≡ Some (Slot to) → LiesIn old.cells.heap r to → Goes r → ⊥
  no-field x k to r keep out e lies b =
      let o = owner r b in
      let same = outside-once old v at q g s.opened s.temps s.numbers once r o.from o.field o.to x k to (closed-in r b (g.labels r to lies))
      o.away o.leads o.lies (λ l. out r b l) e lies in
      elim o.kind [
        | inl t ↦ keep (subst (IsTopTemp v) same.0 t)
        | inr m ↦ out m.0 m.2 (subst (LiesIn old.cells.heap m.0) same.0 m.1)
      ]

  -- What stays

  stay : Stays old new v Goes (IsTopTemp v)
  stay = stays old new v at q g s tops ended (IsTopTemp v) cells released (λ r b e. false≢true (sym (goes-closed r b) ∙ e))

  -- The windows that stay

  many : length v.marks ≡ length v.windows
  many = s.opened.as_many

  label-number : (a b : ℕ) → Some (Temp a) ≡ Some (Temp b) → a ≡ b
  label-number a b e = cc

  -- a temporary of one that stays isn't one of the topmost one
  not-top : (i x : ℕ) (w : WindowRow) → IsWindow v i w → i < length v.windows - 1 → label_at old.cells.heap x ≡ Some (Temp w.number)
      → IsTopTemp v x → ⊥
  not-top i x w e lt label t =
      let row = top-row old v at q g s.opened in
      let own = s.opened.temps (length v.windows - 1) x row.0 row.1 (top-temp old v g s.opened t.0 x t.1) in
      let same = s.window_numbers i (length v.windows - 1) w row.0 e row.1 (label-number w.number row.0.number (sym label ∙ own)) in
      absurd (omega (arith, lt, same))

  temp-cell : (i x : ℕ) (w : WindowRow) → IsWindow v i w → i < length v.windows - 1 → label_at old.cells.heap x ≡ Some (Temp w.number)
      → body_at new.cells.heap x ≡ body_at old.cells.heap x
  temp-cell i x w e lt label = released.cells x (λ r b l. temp-region w.number r (sym label ∙ l)) (not-top i x w e lt label)

  -- each temporary that is left is one of a window that stays
  temp-of : (j x : ℕ) → slice_get (left v).temps j ≡ Some x → (IsTopTemp v x → ⊥) × ((n : ℕ) × (label_at old.cells.heap x ≡ Some (Temp n)))
  temp-of j x e =
      let was = get-take (mark v) j v.temps x e in
      let lt = slice_get_within (take (mark v) v.temps) j x e in
      let le = length-le (mark v) v.temps in
      let t = temp-window v s.opened.as_many s.opened.some s.first_mark j x was in (
        λ top.
            let other = s.opened.once j (mark v + top.0) x was (sym (get-drop (mark v) top.0 v.temps) ∙ top.1) in
            absurd (omega (arith, lt, le, other)),
        (t.1.number, s.opened.temps t.0 x t.1 t.2 t.3),
      )
    where
      length-le : (n : ℕ) (xs : List ℕ) → length (take n xs) ≤ n
      length-le zero xs = omega arith
      length-le (suc n) [] = omega arith
      length-le (suc n) (x ∷ xs) = let le = length-le n xs in omega (arith, le)

  is-opened : Opened new (left v)
  is-opened =
      let o = s.opened in
      let last = length v.windows - 1 in
      record {
        as_many =
            let a = length-take-le (length v.marks - 1) v.marks (omega arith) in
            let b = length-take-le last v.windows (omega arith) in
            let m = many in
            omega (arith, a, b, m);
        first = λ w e. let x = window-was v many two lie 0 w e in stay.window 0 w 0 x.0 (o.first w x.0);
        some = let b = length-take-le last v.windows (omega arith) in omega (arith, b, two);
        known = λ i w e. let x = window-was v many two lie i w e in let n = o.known i w x.0 in (n.0, stay.window i w n.0 x.0 n.1);
        differ = λ i j w u e f. o.differ i j w u (window-was v many two lie i w e).0 (window-was v many two lie j u f).0;
        temps = λ i x w e t.
            let a = window-was v many two lie i w e in
            let label = o.temps i x w a.0 (temp-was v many two lie i x a.1 t) in
            ap (option_map (λ (b : Body). b.label)) (temp-cell i x w a.0 a.1 label) ∙ label;
        all_temps = λ i x w e l.
            let a = window-was v many two lie i w e in
            temp-stays v many two lie i x a.1 (o.all_temps i x w a.0 (stay.label x (Temp w.number) l));
        once = λ j k x e f. o.once j k x (get-take (mark v) j v.temps x e) (get-take (mark v) k v.temps x f);
        slots = λ j x e. stay.held x (slots_free j x e) (λ r b l. no-slot j x r e l b) (o.slots j x e);
        lead = λ j x e k to f.
            let t = temp-of j x e in
            let was = stay.field x k (Slot to) f in
            let out : (r : ℕ) → Goes r → LiesIn old.cells.heap r x → ⊥ = λ r b l. temp-region t.1.0 r (sym t.1.1 ∙ l) in
            stay.held to (λ top. t.0 (fields_free x k to was top)) (λ r b l. no-field x k to r t.0 out was l b)
            (o.lead j x (get-take (mark v) j v.temps x e) k to was);
        parents = λ i w n p e h a.
            let x = window-was v many two lie i w e in
            let u = o.parents i w n p x.0 (stay.key w.region n h) (stay.parent p n a) in
            let lt = x.1 in
            let is = u.2 in
            (u.0, u.1, u.2, window-stays v many two lie u.0 u.1 u.3 (omega (arith, lt, is)), stay.window u.0 u.1 p u.3 u.4);
      }

  top-window : (i : ℕ) (w : WindowRow) → IsWindow v i w → length v.windows - 1 ≤ i → IsTop v w × (i ≡ length v.windows - 1)
  top-window i w e le =
      let lt = slice_get_within v.windows i w e in
      let is : i ≡ length v.windows - 1 = omega (arith, lt, le) in
      (ap (slice_get v.windows) (sym is) ∙ e, is)

  behind-was : (j x r : ℕ) → slice_get v.slots j ≡ Some (Slot x) → BeginsBehind new.regions (left v) j r → BeginsBehind old.regions v j r
  behind-was j x r f b i w e h = elim (order i (length v.windows - 1)) [
    | inl lt ↦ b i w (window-stays v many two lie i w e lt) (stay.window i w r e h)
    | inr le ↦ front j x w f (top-window i w e le).0
  ]

  later-was : (j r : ℕ) → j < length v.windows - 1 → OpensLater new.regions (left v) j r → OpensLater old.regions v j r
  later-was j r small b i w e h = elim (order i (length v.windows - 1)) [
    | inl lt ↦ b i w (window-stays v many two lie i w e lt) (stay.window i w r e h)
    | inr le ↦ omega (arith, small, le)
  ]

  pub stands-left : Stands new (left v)
  stands-left = record {
    opened = is-opened;
    lain = s.lain;
    some = s.some;
    numbers = fewer-numbers old.regions new.regions (released-numbers old new Goes (IsTopTemp v) regions released names) s.numbers;
    bridges = λ key r e. s.bridges key r (stay.was key r e);
    window_numbers = λ i j w u e f. s.window_numbers i j w u (window-was v many two lie i w e).0 (window-was v many two lie j u f).0;
    windows_next = λ i w e. s.windows_next i w (window-was v many two lie i w e).0;
    temps = λ x n e.
        let label = stay.label x (Temp n) e in
        let t = s.temps x n label in
        elim (order t.0 (length v.windows - 1)) [
          | inl lt ↦ (t.0, t.1, window-stays v many two lie t.0 t.1 t.2 lt, t.3)
          | inr le ↦
              (let is = (top-window t.0 t.1 t.2 le).1 in
              let own = s.opened.all_temps t.0 x t.1 t.2 (label ∙ ap (λ k. Some (Temp k)) (sym t.3)) in
              let gone = released.ended x (temp-top old v g s.opened x (subst (λ k. IsTempOf v k x) is own)) in
              absurd (none-some (Temp n) (sym (ap (option_map (λ (b : Body). b.label)) gone) ∙ e)))
        ];
    slots = λ j x r e l b. stay.bridge r x l (s.slots j x r e (stay.label x (Region r) l) (behind-was j x r e b));
    fields = λ i x k to r w e t f l b.
        let a = window-was v many two lie i w e in
        stay.bridge r to l (s.fields i x k to r w a.0 (temp-was v many two lie i x a.1 t) (stay.field x k (Slot to) f)
        (stay.label to (Region r) l) (later-was i r a.1 b));
    first_mark = λ n e. s.first_mark n (get-take (length v.marks - 1) 0 v.marks n e);
  }
