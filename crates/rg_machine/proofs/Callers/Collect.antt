-- What stands behind a collection of the active region: what its roots lead to is kept, and nothing that stays leads into a region that went.
use Rattle.std.proofs.Common.{◌≡◌, ◌<◌, inl, inr, ℕ, ◌+◌, ◌-◌, true, drop, length}
use Rattle.std.proofs.Common.{Option, Some, None, option_map, slice_get, refl, sym, ap, ◌∙◌, subst, arith}
use Rattle.std.proofs.lemmas.Bool.{cases_eq, false_from_ne_true as never, cases_lt as order}
use Rattle.std.proofs.lemmas.Option.{none-some, same_Some, slice_get_within}
use Rattle.rg_base.specs.declared.object.Label.TheVariants.{Region, Temp}
use Rattle.rg_base.specs.declared.value.Word.TheVariants as word
use Rattle.rg_base.proofs.Callers.Labels.{region-same, temp-region}
use Rattle.rg_base.proofs.Callers.Lists.{there}
use Rattle.rg_cells.specs.declared.cell.Body.{Body}
use Rattle.rg_cells.specs.Table.{Heap, body_at, label_at, field_at, Serials, IsHeld}
use Rattle.rg_regions.specs.Collection.{Lost, roots_of}
use Rattle.rg_regions.specs.Grove.{Grove, Parent}
use Rattle.rg_regions.specs.Reach.{LiesIn, Roots, in_slots, in_temps, is_bridge}
use Rattle.rg_regions.specs.Reach.{Stands as Root}
use Rattle.rg_regions.specs.Table.{Record, record_at, HasNumber, IsBridge}
use Rattle.rg_regions.proofs.Callers.Told.{labelled_held}
use Rattle.rg_frames.specs.declared.rows.Window.{Window as WindowRow}
use Rattle.rg_frames.specs.Stack.{Stack, IsTop}
use Rattle.rg_stack.specs.Tops.{top_region}
use Rattle.rg_stack.specs.Needs.{owned_once}
use Rattle.rg_stack.specs.Labels.{is_open}
use Rattle.rg_heap.specs.Answers.{AllLead, IsClosed}
use Rattle.rg_heap.specs.Collects.{Collects, LostBelow}
use Rattle.rg_heap.specs.Ends.{top_temps}
use Rattle.rg_heap.specs.Opened.{Opened, IsWindow, IsTempOf}
use Rattle.rg_heap.specs.Parts.{Parts}
use Rattle.rg_view.specs.View.{windows_of, machine_of}
use Rattle.rg_view.proofs.Callers.Held.{all-lead}
use Rattle.rg_view.proofs.Callers.Leave.{temp-top}
use Rattle.rg_view.proofs.Callers.Need.{keyed, closed-not-above}
use Rattle.rg_view.proofs.Callers.Once.{outside-once}
use Rattle.rg_view.proofs.Callers.Open.{not-open-closed, number-is, open-back, window-open}
use Rattle.rg_view.proofs.Callers.Shown.{get-drop, held-body, body-held}
use Rattle.rg_view.proofs.Callers.Table.{FewerNumbers, fewer-numbers}
use Rattle.rg_view.proofs.Callers.Window.{active-region}
use Rattle.rg_view.proofs.Callers.Gone.After.{fields-were, labels-were}
use Rattle.rg_machine.proofs.Kept.{bridged-as}
use Rattle.rg_machine.proofs.Release.Behind.{last-parent, most-one, parent-counts, shut-closed, slot-counts-one, temp-window}
use Rattle.rg_machine.specs.Stands.{BeginsBehind, Stands}

-- the topmost window with its region
pub record Active (p : Parts) (v : Stack) : Type 0 where
  pub window : WindowRow
  pub rec : Record
  pub is : IsTop v window
  pub known : record_at p.regions window.region ≡ Some rec
  pub shown : top_region (windows_of p.regions v) ≡ rec.number

pub has-record : (p : Parts) (key n : ℕ) → HasNumber p.regions key n → (r : Record) × (record_at p.regions key ≡ Some r) × (r.number ≡ n)
has-record p key n h = by (record_at p.regions key) refl
  where
    by : (o : Option Record) → record_at p.regions key ≡ o → (r : Record) × (record_at p.regions key ≡ Some r) × (r.number ≡ n)
    by None e = absurd (none-some n (sym (ap (option_map (λ (r : Record). r.number)) e) ∙ h))
    by (Some r) e = (r, e, same_Some r.number n (sym (ap (option_map (λ (r : Record). r.number)) e) ∙ h))

pub active : (p : Parts) (v : Stack) → Opened p v → Active p v
active p v o =
    let some = o.some in
    let w = there v.windows (length v.windows - 1) (omega (arith, some)) in
    let n = o.known (length v.windows - 1) w.0 w.1 in
    let r = has-record p w.0.region n.0 n.1 in
    record {
      window = w.0;
      rec = r.0;
      is = w.1;
      known = r.1;
      shown = active-region p.regions v w.0 w.1 ∙ number-is p.regions w.0.region n.0 n.1 ∙ sym r.2;
    }

-- where the roots of the active region are looked for
abbrev pub roots_in : (p : Parts) (v : Stack) → Active p v → Roots
roots_in p v a = roots_of a.rec.bridge (drop a.window.base v.slots) (top_temps v)

-- no other window has the active region
pub sole-window : (p : Parts) (v : Stack) → Grove p.cells p.regions → Opened p v → (a : Active p v) → (i : ℕ) (w : WindowRow) → IsWindow v i w
    → HasNumber p.regions w.region a.rec.number → i ≡ length v.windows - 1
sole-window p v g o a i w e h =
    o.differ i (length v.windows - 1) w a.window e a.is
    (g.numbers w.region a.window.region a.rec.number h (ap (option_map (λ (r : Record). r.number)) a.known))

-- a region leads into one of whose owner references one is lost
abbrev pub lost-parent : (h : Heap) (n : ℕ) (Cell : ℕ → Type 0) (r : ℕ) → Lost h n Cell r → Parent h n r
lost-parent h n Cell r l = record {
  differ = λ e. l.other (sym e);
  from = l.slot;
  field = l.field;
  to = l.to;
  lies = l.from;
  leads = l.leads;
  child_has = l.lies;
}

module _ (old new : Parts) (v : Stack) (at : ℕ) (q : Serials old.cells.heap) (g : Grove old.cells old.regions) (st : Stands old v)
    (once : owned_once (machine_of old v at) ≡ true) (a : Active old v) (Cell : ℕ → Type 0)
    (c : Collects old new a.window.region a.rec Cell)
    (root : (s : ℕ) → LiesIn old.cells.heap a.rec.number s → Root old.cells.heap (roots_in old v a) s → Cell s → ⊥) where
  -- The active region

  has : HasNumber old.regions a.window.region a.rec.number
  has = ap (option_map (λ (r : Record). r.number)) a.known

  active-open : is_open (windows_of old.regions v) a.rec.number ≡ true
  active-open = window-open old.regions v (keyed old v at q g st.opened) a.rec.number (length v.windows - 1) a.window a.is has

  -- The regions that go

  abbrev pub Goes : ℕ → Type 0
  Goes r = LostBelow old a.rec.number Cell r

  -- it isn't open
  top-not-open : (r : ℕ) → Lost old.cells.heap a.rec.number Cell r → is_open (windows_of old.regions v) r ≡ true → ⊥
  top-not-open r l e =
      let w = open-back old.regions v (keyed old v at q g st.opened) r e in
      let u = st.opened.parents w.0 w.1 r a.rec.number w.2 w.3 (lost-parent old.cells.heap a.rec.number Cell r l) in
      let last = sole-window old v g st.opened a u.0 u.1 u.3 u.4 in
      let on = u.2 in
      let within = slice_get_within v.windows w.0 w.1 w.2 in
      let some = st.opened.some in
      omega (arith, last, on, within, some)

  top-closed : (r : ℕ) → Lost old.cells.heap a.rec.number Cell r → IsClosed old.regions v r
  top-closed r l =
      not-open-closed old.regions v (keyed old v at q g st.opened) r (g.labels r l.to l.lies)
      (never (is_open (windows_of old.regions v) r) (top-not-open r l))

  pub goes-closed : (r : ℕ) → Goes r → is_open (windows_of old.regions v) r ≡ true → ⊥
  goes-closed r b e = elim b.2 [
    | inl is ↦ top-not-open b.0 b.1 (ap (is_open (windows_of old.regions v)) (sym is) ∙ e)
    | inr x ↦ closed-not-above old v at q g st.opened b.0 r (top-closed b.0 b.1) e x.1
  ]

  pub not-active : Goes a.rec.number → ⊥
  not-active b = goes-closed a.rec.number b active-open

  -- another region leads into it
  owner : (r : ℕ) → Goes r → (p : ℕ) × Parent old.cells.heap p r
  owner r b = elim b.2 [
    | inl is ↦ subst (λ x. (p : ℕ) × Parent old.cells.heap p x) (sym is) (a.rec.number, lost-parent old.cells.heap a.rec.number Cell b.0 b.1)
    | inr x ↦ last-parent old.cells.heap x.1
  ]

  -- no slot leads there
  pub no-slot : (j x r : ℕ) → slice_get v.slots j ≡ Some (word.Slot x) → LiesIn old.cells.heap r x → Goes r → ⊥
  no-slot j x r e lies b =
      let one = slot-counts-one old v at q g st r j x e lies in
      let y = owner r b in
      let two = parent-counts old v at q g st y.0 r y.1 in
      let most = most-one old v at q g st r (shut-closed old v at q g st r (goes-closed r b) (g.labels r x lies)) once in
      omega (arith, one, two, most)

  -- nor does a field of a temporary
  pub no-field : (x n k to r : ℕ) → label_at old.cells.heap x ≡ Some (Temp n) → field_at old.cells.heap x k ≡ Some (word.Slot to)
      → LiesIn old.cells.heap r to → Goes r → ⊥
  no-field x n k to r label e lies b =
      let y = owner r b in
      let away : LiesIn old.cells.heap r x → ⊥ = λ l. temp-region n r (sym label ∙ l) in
      let single = outside-once old v at q g st.opened st.temps st.numbers once in
      let same = single r y.1.from y.1.field y.1.to x k to (shut-closed old v at q g st r (goes-closed r b) (g.labels r to lies))
      (λ l. y.1.differ (region-same y.0 r (sym y.1.lies ∙ l))) y.1.leads y.1.child_has away e lies in
      temp-region n y.0 (sym label ∙ sym (ap (label_at old.cells.heap) same.0) ∙ y.1.lies)

  -- Cells

  -- what is still held is as it was
  pub was : (s : ℕ) (b : Body) → body_at new.cells.heap s ≡ Some b → body_at old.cells.heap s ≡ Some b
  was s b e =
      sym (c.cells s (λ l cell. none-some b (sym (c.freed s l cell) ∙ e)) (λ r goes l. none-some b (sym (c.lost r s goes l) ∙ e))) ∙ e

  pub same-now : (s : ℕ) → IsHeld new.cells.heap s → body_at new.cells.heap s ≡ body_at old.cells.heap s
  same-now s held = let b = held-body new.cells.heap s held in b.1 ∙ sym (was s b.0 b.1)

  stays-held : (s : ℕ) → body_at new.cells.heap s ≡ body_at old.cells.heap s → IsHeld old.cells.heap s → IsHeld new.cells.heap s
  stays-held s same held = let b = held-body old.cells.heap s held in body-held new.cells.heap s b.0 (same ∙ b.1)

  -- a cell of the active region stays, where it isn't one that goes
  pub root-stays : (s : ℕ) → LiesIn old.cells.heap a.rec.number s → (Cell s → ⊥) → IsHeld new.cells.heap s
  root-stays s lies out =
      stays-held s (c.cells s (λ l cell. out cell) (λ r goes l.
      not-active (subst Goes (region-same r a.rec.number (sym l ∙ lies)) goes)))
      (labelled_held old.cells.heap s (Region a.rec.number) lies)

  pub temp-stays : (s n : ℕ) → label_at old.cells.heap s ≡ Some (Temp n) → body_at new.cells.heap s ≡ body_at old.cells.heap s
  temp-stays s n e =
      c.cells s (λ l cell. temp-region n a.rec.number (sym e ∙ l)) (λ r goes l. temp-region n r (sym e ∙ l))

  -- Roots

  pub bridge-root : (s : ℕ) → LiesIn old.cells.heap a.rec.number s → IsBridge old.regions a.rec.number s → Cell s → ⊥
  bridge-root s lies b =
      let number : HasNumber old.regions b.0 a.rec.number = ap (option_map (λ (r : Record). r.number)) b.2 ∙ ap Some b.3 in
      let key : b.0 ≡ a.window.region = g.numbers b.0 a.window.region a.rec.number number has in
      let rec : b.1 ≡ a.rec = same_Some b.1 a.rec (sym b.2 ∙ ap (record_at old.regions) key ∙ a.known) in
      root s lies (is_bridge (ap (λ (r : Record). r.bridge) (sym rec) ∙ b.4))

  -- into the active region a slot in front of its window leads by the bridge alone, and any other slot is a root
  pub slot-root : (j s : ℕ) → slice_get v.slots j ≡ Some (word.Slot s) → LiesIn old.cells.heap a.rec.number s → Cell s → ⊥
  slot-root j s e lies = elim (order j a.window.base) [
    | inl lt ↦ bridge-root s lies (st.slots j s a.rec.number e lies (behind lt))
    | inr le ↦
        let back : a.window.base + (j - a.window.base) ≡ j = omega (arith, le) in
        root s lies (in_slots (j - a.window.base)
        (get-drop a.window.base (j - a.window.base) v.slots ∙ ap (slice_get v.slots) back ∙ e))
  ]
    where
      behind : j < a.window.base → BeginsBehind old.regions v j a.rec.number
      behind lt i w is h =
          let at = sole-window old v g st.opened a i w is h in
          let same : w ≡ a.window = same_Some w a.window (sym is ∙ ap (slice_get v.windows) at ∙ a.is) in
          subst (λ (x : WindowRow). j < x.base) (sym same) lt

  -- so does a temporary of a window beneath it, and the topmost window's are looked at
  pub temp-root : (i s k to : ℕ) (w : WindowRow) → IsWindow v i w → IsTempOf v i s → field_at old.cells.heap s k ≡ Some (word.Slot to)
      → LiesIn old.cells.heap a.rec.number to → Cell to → ⊥
  temp-root i s k to w is t e lies = elim (cases_eq i (length v.windows - 1)) [
    | inl last ↦
        let x = temp-top old v g st.opened s (subst (λ i. IsTempOf v i s) last t) in
        root to lies (in_temps x.0 k s x.1 e)
    | inr d ↦ bridge-root to lies (st.fields i s k to a.rec.number w is t e lies (λ j u at h.
        let last = sole-window old v g st.opened a j u at h in
        let within = slice_get_within v.windows i w is in
        omega (arith, last, within, d)))
  ]

  -- a slot leads to what stays
  pub slot-stays : (j s : ℕ) → slice_get v.slots j ≡ Some (word.Slot s) → body_at new.cells.heap s ≡ body_at old.cells.heap s
  slot-stays j s e = c.cells s (λ l cell. slot-root j s e l cell) (λ r goes l. no-slot j s r e l goes)

  -- Regions

  pub record-was : (key : ℕ) (r : Record) → record_at new.regions key ≡ Some r
      → (u : Record) × (record_at old.regions key ≡ Some u) × (u.number ≡ r.number) × (u.manager ≡ r.manager) × (u.bridge ≡ r.bridge)
  record-was key r e = elim (cases_eq key a.window.region) [
    | inl is ↦
        let now : c.own.0 ≡ r = same_Some c.own.0 r (sym c.own.1 ∙ ap (record_at new.regions) (sym is) ∙ e) in (
          a.rec,
          ap (record_at old.regions) is ∙ a.known,
          sym c.own.2 ∙ ap (λ (x : Record). x.number) now,
          sym c.own.3 ∙ ap (λ (x : Record). x.manager) now,
          sym c.own.4 ∙ ap (λ (x : Record). x.bridge) now,
        )
    | inr d ↦ (r, sym (c.records key d (λ p goes h. none-some r (sym (c.removed key p goes h) ∙ e))) ∙ e, refl, refl, refl)
  ]

  pub fewer : FewerNumbers old.regions new.regions
  fewer = record { next = c.numbers; there = λ key r e. let u = record-was key r e in (u.0, u.1, u.2, u.3) }

  old-key : (key n : ℕ) → HasNumber new.regions key n → HasNumber old.regions key n
  old-key key n h =
      let r = has-record new key n h in
      let u = record-was key r.0 r.1 in
      ap (option_map (λ (r : Record). r.number)) u.1 ∙ ap Some (u.2 ∙ r.2)

  own-has : HasNumber new.regions a.window.region a.rec.number
  own-has = ap (option_map (λ (r : Record). r.number)) c.own.1 ∙ ap Some c.own.2

  -- windows keep their regions
  pub window-has : (i : ℕ) (w : WindowRow) (n : ℕ) → IsWindow v i w → HasNumber old.regions w.region n → HasNumber new.regions w.region n
  window-has i w n e h = elim (cases_eq w.region a.window.region) [
    | inl is ↦
        let same : Some a.rec.number ≡ Some n = sym has ∙ subst (λ key. HasNumber old.regions key n) is h in
        subst (λ key. HasNumber new.regions key n) (sym is) (own-has ∙ same)
    | inr d ↦
        ap (option_map (λ (r : Record). r.number)) (c.records w.region d (λ r goes x.
        goes-closed r goes (window-open old.regions v (keyed old v at q g st.opened) r i w e x))) ∙ h
  ]

  pub bridge-stays : (r s : ℕ) → LiesIn new.cells.heap r s → IsBridge old.regions r s → IsBridge new.regions r s
  bridge-stays r s lies b = elim (cases_eq b.0 a.window.region) [
    | inl is ↦
        let rec : b.1 ≡ a.rec = same_Some b.1 a.rec (sym b.2 ∙ ap (record_at old.regions) is ∙ a.known) in (
          b.0,
          c.own.0,
          ap (record_at new.regions) is ∙ c.own.1,
          c.own.2 ∙ ap (λ (r : Record). r.number) (sym rec) ∙ b.3,
          c.own.4 ∙ ap (λ (r : Record). r.bridge) (sym rec) ∙ b.4,
        )
    | inr d ↦ (
      b.0,
      b.1,
      c.records b.0 d (λ p goes h.
          let number : p ≡ r = same_Some p r (sym h ∙ ap (option_map (λ (r : Record). r.number)) b.2 ∙ ap Some b.3) in
          let gone = c.lost p s goes (labels-were old.cells.heap new.cells.heap was s (Region p) (subst (λ n. LiesIn new.cells.heap n s) (sym number) lies)) in
          none-some (Region r) (sym (ap (option_map (λ (b : Body). b.label)) gone) ∙ lies)) ∙ b.2,
      b.3,
      b.4,
    )
  ]

  -- What stands

  parent-was : (p r : ℕ) → Parent new.cells.heap p r → Parent old.cells.heap p r
  parent-was p r x = record {
    differ = x.differ;
    from = x.from;
    field = x.field;
    to = x.to;
    lies = labels-were old.cells.heap new.cells.heap was x.from (Region p) x.lies;
    leads = fields-were old.cells.heap new.cells.heap was x.from x.field (word.Slot x.to) x.leads;
    child_has = labels-were old.cells.heap new.cells.heap was x.to (Region r) x.child_has;
  }

  pub opened-behind : Opened new v
  opened-behind =
      let o = st.opened in
      record {
        as_many = o.as_many;
        first = λ w e. window-has 0 w 0 e (o.first w e);
        some = o.some;
        known = λ i w e. let n = o.known i w e in (n.0, window-has i w n.0 e n.1);
        differ = o.differ;
        temps = λ i s w e t.
            let label = o.temps i s w e t in
            ap (option_map (λ (b : Body). b.label)) (temp-stays s w.number label) ∙ label;
        all_temps = λ i s w e l. o.all_temps i s w e (labels-were old.cells.heap new.cells.heap was s (Temp w.number) l);
        once = o.once;
        slots = λ j s e. stays-held s (slot-stays j s e) (o.slots j s e);
        lead = λ j s e k to f. temp-lead j s e k to (fields-were old.cells.heap new.cells.heap was s k (word.Slot to) f);
        parents = λ i w n p e h x.
            let u = o.parents i w n p e (old-key w.region n h) (parent-was p n x) in
            (u.0, u.1, u.2, u.3, window-has u.0 u.1 p u.3 u.4);
      }
    where
      temp-lead : (j s : ℕ) → slice_get v.temps j ≡ Some s → (k to : ℕ) → field_at old.cells.heap s k ≡ Some (word.Slot to)
          → IsHeld new.cells.heap to
      temp-lead j s e k to f =
          let t = temp-window v st.opened.as_many st.opened.some st.first_mark j s e in
          let label = st.opened.temps t.0 s t.1 t.2 t.3 in
          stays-held to
          (c.cells to (λ l cell. temp-root t.0 s k to t.1 t.2 t.3 f l cell) (λ r goes l. no-field s t.1.number k to r label f l goes))
          (st.opened.lead j s e k to f)

  pub stands-behind : Stands new v
  stands-behind = record {
    opened = opened-behind;
    lain = st.lain;
    some = st.some;
    numbers = fewer-numbers old.regions new.regions fewer st.numbers;
    bridges = λ key r e. let u = record-was key r e in bridged-as u.0 r u.2 u.4 (st.bridges key u.0 u.1);
    window_numbers = st.window_numbers;
    windows_next = st.windows_next;
    temps = λ s n e. st.temps s n (labels-were old.cells.heap new.cells.heap was s (Temp n) e);
    slots = λ j s r e l b.
        bridge-stays r s l (st.slots j s r e (labels-were old.cells.heap new.cells.heap was s (Region r) l) (λ i w is h. b i w is (window-has i w r is h)));
    fields = λ i s k to r w e t f l b.
        bridge-stays r to l (st.fields i s k to r w e t (fields-were old.cells.heap new.cells.heap was s k (word.Slot to) f) (labels-were old.cells.heap new.cells.heap was to (Region r) l)
        (λ j u is h. b j u is (window-has j u r is h)));
    first_mark = st.first_mark;
  }

  pub serials-behind : Serials new.cells.heap
  serials-behind = record {
    below = λ s b e. let lt = q.below s b (was s b e) in let n = c.serials in omega (arith, lt, n);
    differ = λ s t b d e f same. q.differ s t b d (was s b e) (was t d f) same;
  }

  -- what is kept leads to what is kept
  pub lead-behind : Grove new.cells new.regions → (s : ℕ) → AllLead new.cells.heap s
  lead-behind gn = all-lead new v gn opened-behind stands-behind.temps
